-- Frames, as contracts see them: a schema and a list of rows.
--     Row, Frame              a stamp and cells; a schema and rows
--     type_of, cell_of        the type of a cell, and the cell that is lent
--     NeverFall, IsFrame      what each frame keeps: cells of their columns' types, and stamps that never fall
--     stamp_at, cell_at, type_at      a row's stamp, a cell and a column's type, by their places counted from 0
--     first_stamp, last_stamp     the stamps of the first and of the last row
--     rows_below, rows_within, rows_above, rows_between      the rows by a range
--     slice, concat_rows      the rows from one place up to another; the rows of both
--     replace_range           what an update makes of the base's rows
use Rattle.std.specs.Prelude.{◌≡◌, ℕ, ℤ, ◌≤ℤ◌, pos, false, not, List, [], ◌∷◌, ◌++◌, map, Option, Some, None, ⊤, IsUtf8, FitsSigned, slice_get, slice_range, count_by, filter, option_map, option_and_then}
use Rattle.std.specs.Int.{w64}
use Rattle.std.specs.List.{AllZip, AllByRecursion}
use Rattle.frame_core.specs.declared.cell.ColType.{ColType}
use Rattle.frame_core.specs.declared.cell.ColType.TheVariants as types
use Rattle.frame_core.specs.declared.cell.Cell.{Cell}
use Rattle.frame_core.specs.declared.cell.Cell.TheVariants as cells
use Rattle.frame_core.specs.declared.cell.CellRef.{CellRef}
use Rattle.frame_core.specs.declared.cell.CellRef.TheVariants as lent
use Rattle.frame_core.specs.Ranges.{Range, is_below, is_above, is_within}
use Rattle.frame_core.specs.Schemas.{Head, Schema, AreColumns}

-- a stamp, and one cell for each column
pub record Row : Type 0 where
  pub stamp : ℤ
  pub cells : List Cell

-- a schema and rows
pub record Frame : Type 0 where
  pub schema : Schema
  pub rows : List Row

-- the type of a cell
abbrev pub type_of : Cell → ColType
type_of (cells.Int n) = types.Int
type_of (cells.Flag b) = types.Flag
type_of (cells.Text t) = types.Text
type_of (cells.Stamp n) = types.Stamp

-- the cell that is lent
abbrev pub cell_of : CellRef → Cell
cell_of (lent.Int n) = cells.Int n
cell_of (lent.Flag b) = cells.Flag b
cell_of (lent.Text t) = cells.Text t.now
cell_of (lent.Stamp n) = cells.Stamp n

-- ---- what each frame keeps

-- a number of 64 bits, or a text of UTF-8
abbrev pub IsCell : Cell → Type 0
IsCell (cells.Int n) = FitsSigned w64 n
IsCell (cells.Flag b) = ⊤
IsCell (cells.Text t) = IsUtf8 t
IsCell (cells.Stamp n) = FitsSigned w64 n

-- none of the stamps lies below the one before
abbrev pub NeverFall : List ℤ → Type 0
NeverFall [] = ⊤
NeverFall (t ∷ []) = ⊤
NeverFall (t ∷ u ∷ more) = (t ≤ℤ u) × NeverFall (u ∷ more)

-- the stamps of the rows
abbrev pub stamps_of : List Row → List ℤ
stamps_of rows = map (λ r. r.stamp) rows

-- a row has one cell of the right type for each column, and its numbers have 64 bits
pub record FitsColumns (columns : List Head) (row : Row) : Type 0 where
  pub stamp : FitsSigned w64 row.stamp
  pub typed : AllZip (λ (c : Head) cell. type_of cell ≡ c.1) columns row.cells
  pub cells : AllByRecursion IsCell row.cells

-- what holds of each frame
pub record IsFrame (frame : Frame) : Type 0 where
  pub columns : AreColumns frame.schema.columns
  pub ascending : NeverFall (stamps_of frame.rows)
  pub fitting : AllByRecursion (FitsColumns frame.schema.columns) frame.rows
  pub untimed : frame.schema.timed ≡ false → AllByRecursion (λ r. r.stamp ≡ pos 0) frame.rows

-- ---- rows

-- the stamp of the row at a place
abbrev pub stamp_at : Frame → ℕ → Option ℤ
stamp_at f row = option_map (λ (r : Row). r.stamp) (slice_get f.rows row)

-- the cell of a row at a column
abbrev pub cell_at : Frame → ℕ → ℕ → Option Cell
cell_at f row column = option_and_then (λ (r : Row). slice_get r.cells column) (slice_get f.rows row)

-- the type of the column at a place
abbrev pub type_at : Frame → ℕ → Option ColType
type_at f column = option_map (λ (c : Head). c.1) (slice_get f.schema.columns column)

-- the stamp of the first row
abbrev pub first_stamp : List Row → Option ℤ
first_stamp [] = None
first_stamp (r ∷ more) = Some r.stamp

-- the stamp of the last row
abbrev pub last_stamp : List Row → Option ℤ
last_stamp [] = None
last_stamp (r ∷ []) = Some r.stamp
last_stamp (r ∷ s ∷ more) = last_stamp (s ∷ more)

-- the rows below the range
abbrev pub rows_below : Range → List Row → List Row
rows_below range = filter (λ r. is_below range r.stamp)

-- the rows in the range
abbrev pub rows_within : Range → List Row → List Row
rows_within range = filter (λ r. is_within range r.stamp)

-- the rows above the range
abbrev pub rows_above : Range → List Row → List Row
rows_above range = filter (λ r. is_above range r.stamp)

-- how many rows lie below the range, and how many not above it
abbrev pub rows_between : Range → Frame → ℕ × ℕ
rows_between range f = (count_by (λ r. is_below range r.stamp) f.rows, count_by (λ r. not (is_above range r.stamp)) f.rows)

-- the rows from one place up to another
abbrev pub slice : Frame → ℕ → ℕ → Frame
slice f from to = record f { rows = slice_range f.rows from to }

-- the base's rows below the range, these rows, and the base's rows above it
abbrev pub replace_range : Range → List Row → List Row → List Row
replace_range range fresh base = rows_below range base ++ fresh ++ rows_above range base
