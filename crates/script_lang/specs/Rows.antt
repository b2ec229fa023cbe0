-- Rows that are added to columns.
--     add_row, add_rows       the columns after one more row, and after these rows
--     no_rows                 columns without a number
--     columns_table           the table of names and columns, of which the first has the stamps
use Rattle.std.specs.Prelude.{ℤ, List, [], ◌∷◌, ◌++◌, fold, map}
use Rattle.frame_core.specs.Texts.{Text}
use Rattle.frame_core.specs.declared.cell.ColType.{ColType}
use Rattle.frame_core.specs.declared.cell.ColType.TheVariants as types
use Rattle.frame_core.specs.declared.cell.Cell.{Cell}
use Rattle.frame_core.specs.declared.cell.Cell.TheVariants as cells
use Rattle.frame_core.specs.RawFrames.{Table}

-- each number of the row stands behind its column
abbrev pub add_row : List (List ℤ) → List ℤ → List (List ℤ)
add_row [] row = []
add_row columns [] = columns
add_row (column ∷ columns) (n ∷ row) = (column ++ n ∷ []) ∷ add_row columns row

-- the columns after these rows
abbrev pub add_rows : List (List ℤ) → List (List ℤ) → List (List ℤ)
add_rows = fold add_row

-- the columns after a row, and the text after it
abbrev pub with_row : List (List ℤ) → List ℤ × Text → List (List ℤ) × Text
with_row columns x = (add_row columns x.0, x.1)

-- a column for the stamps and one for each type, without a number
abbrev pub no_rows : List ColType → List (List ℤ)
no_rows kinds = [] ∷ map (λ k. []) kinds

-- a column of whole numbers, by its type and its cells
abbrev pub int_column : List ℤ → ColType × List Cell
int_column column = (types.Int, map cells.Int column)

-- the table of names and columns, of which the first has the stamps
abbrev pub columns_table : List Text → List (List ℤ) → Table
columns_table names [] = record { stamps = []; names = names; columns = [] }
columns_table names (stamps ∷ columns) = record { stamps = stamps; names = names; columns = map int_column columns }
