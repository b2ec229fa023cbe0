-- What is done with the cells of a row. Every match on a cell stands here.
--     cell_cmp, falling_cmp   the order of cells, and the other way round
--     same_cell               a test of equality
--     number, is_true         what arithmetic takes of a cell, and what an operator on flags takes
--     no_cell                 what stands for the cell of a column that is not there
--     if_whole                a number as a cell, where it is an i64
--     calculate, calculate_one, compare, combine      operators of arithmetic, comparisons and operators on flags
--     answered                the cell that is answered
use Rattle.std.specs.Prelude.{ℕ, ◌^◌, ℤ, pos, neg_ℤ, Bool, false, ◌&&◌, if◌then◌else◌, int_le, int_lt, Option, Some, None, Result, Ok, Err}
use Rattle.std.specs.Cmp.Lexicographic.{slice_cmp}
use Rattle.std.specs.declared.cmp.Ordering.{Ordering}
use Rattle.std.specs.Ordering.{nat_cmp, int_cmp, bool_cmp, is_eq, flip_args}
use Rattle.frame_core.specs.declared.cell.Cell.{Cell}
use Rattle.frame_core.specs.declared.cell.Cell.TheVariants as cells
use Rattle.frame_core.specs.declared.cell.CellRef.{CellRef}
use Rattle.frame_core.specs.Frames.{cell_of}

-- the place of a cell's type in the order
abbrev pub rank : Cell → ℕ
rank (cells.Int n) = 0
rank (cells.Flag b) = 1
rank (cells.Text t) = 2
rank (cells.Stamp n) = 3

-- by number, false before true, texts by bytes; cells of different types by their types, so that nothing said of the order asks for types
abbrev pub cell_cmp : Cell → Cell → Ordering
cell_cmp (cells.Int a) (cells.Int b) = int_cmp a b
cell_cmp (cells.Flag a) (cells.Flag b) = bool_cmp a b
cell_cmp (cells.Text a) (cells.Text b) = slice_cmp nat_cmp a b
cell_cmp (cells.Stamp a) (cells.Stamp b) = int_cmp a b
cell_cmp a b = nat_cmp (rank a) (rank b)

-- the other way round
abbrev pub falling_cmp : Cell → Cell → Ordering
falling_cmp = flip_args cell_cmp

-- a test of equality
abbrev pub same_cell : Cell → Cell → Bool
same_cell a b = is_eq (cell_cmp a b)

-- the whole number in a cell; a cell of another type is refused before anything is computed
abbrev pub number : Cell → ℤ
number (cells.Int n) = n
number _ = pos 0

-- the flag in a cell
abbrev pub is_true : Cell → Bool
is_true (cells.Flag b) = b
is_true _ = false

-- what stands for the cell of a column that is not there; such a column is refused before anything is computed
abbrev pub no_cell : Cell
no_cell = cells.Int (pos 0)

-- whether a number has 64 bits with its sign
abbrev pub fits_i64 : ℤ → Bool
fits_i64 n = int_le (neg_ℤ (pos (2 ^ 63))) n && int_lt n (pos (2 ^ 63))

-- the number as a cell, unless it overflows
abbrev pub if_whole : ℤ → Option Cell
if_whole n = if fits_i64 n then Some (cells.Int n) else None

-- an operator of arithmetic on two cells, and on one
abbrev pub calculate : (ℤ → ℤ → ℤ) → Cell → Cell → Option Cell
calculate f a b = if_whole (f (number a) (number b))

abbrev pub calculate_one : (ℤ → ℤ) → Cell → Option Cell
calculate_one f a = if_whole (f (number a))

-- a comparison
abbrev pub compare : (Ordering → Bool) → Cell → Cell → Option Cell
compare test a b = Some (cells.Flag (test (cell_cmp a b)))

-- an operator on flags
abbrev pub combine : (Bool → Bool → Bool) → Cell → Cell → Option Cell
combine f a b = Some (cells.Flag (f (is_true a) (is_true b)))

-- the cell that is answered; None where the answer is an error
abbrev pub answered : {E : Type 0} → Result CellRef E → Option Cell
answered (Ok c) = Some (cell_of c)
answered (Err e) = None
