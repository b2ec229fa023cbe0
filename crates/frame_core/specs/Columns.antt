-- Frames by their columns, as memory and segments keep them.
--     column_type, column_cells       the type and the cells of a column in memory
--     rows_from               the rows of these stamps and columns
--     cells_of, columns_from  the column at a place of these rows, and the columns from a place on
--     IsWhole                 what a frame in memory keeps
use Rattle.std.specs.Prelude.{◌≡◌, ℕ, zero, suc, ◌+◌, ℤ, pos, false, List, [], ◌∷◌, map, length, drop, filter_map, slice_get, FitsSigned}
use Rattle.std.specs.Int.{w64}
use Rattle.std.specs.List.{AllByRecursion}
use Rattle.frame_core.specs.declared.cell.ColType.{ColType}
use Rattle.frame_core.specs.declared.cell.ColType.TheVariants as types
use Rattle.frame_core.specs.declared.cell.Cell.{Cell}
use Rattle.frame_core.specs.declared.cell.Cell.TheVariants as cells
use Rattle.frame_core.specs.declared.column.Column.{Column}
use Rattle.frame_core.specs.declared.column.Column.TheVariants as columns
use Rattle.frame_core.specs.Schemas.{Head, Schema, AreColumns}
use Rattle.frame_core.specs.Frames.{Row, IsCell, NeverFall}

-- the type of a column in memory
abbrev pub column_type : Column → ColType
column_type (columns.Ints v) = types.Int
column_type (columns.Flags v) = types.Flag
column_type (columns.Texts v) = types.Text
column_type (columns.Stamps v) = types.Stamp

-- the cells of a column in memory
abbrev pub column_cells : Column → List Cell
column_cells (columns.Ints v) = map cells.Int v
column_cells (columns.Flags v) = map cells.Flag v
column_cells (columns.Texts v) = map cells.Text v
column_cells (columns.Stamps v) = map cells.Stamp v

-- the rows of these stamps and columns
abbrev pub rows_from : List ℤ → List (List Cell) → List Row
rows_from [] cols = []
rows_from (t ∷ ts) cols = record { stamp = t; cells = filter_map (λ c. slice_get c 0) cols } ∷ rows_from ts (map (drop 1) cols)

-- the cells of the column at place k, counted from 0
abbrev pub cells_of : ℕ → List Row → List Cell
cells_of k rows = filter_map (λ r. slice_get r.cells k) rows

-- the n columns from place k on
abbrev pub columns_from : ℕ → ℕ → List Row → List (List Cell)
columns_from k zero rows = []
columns_from k (suc n) rows = cells_of k rows ∷ columns_from (k + 1) n rows

-- the columns have the schema's types and one cell for each stamp, the stamps never fall, and the numbers have 64 bits
pub record IsWhole (schema : Schema) (stamps : List ℤ) (cols : List Column) : Type 0 where
  pub columns : AreColumns schema.columns
  pub types : map column_type cols ≡ map (λ (c : Head). c.1) schema.columns
  pub lengths : AllByRecursion (λ c. length (column_cells c) ≡ length stamps) cols
  pub stamps_fit : AllByRecursion (FitsSigned w64) stamps
  pub cells_fit : AllByRecursion (λ c. AllByRecursion IsCell (column_cells c)) cols
  pub ascending : NeverFall stamps
  pub untimed : schema.timed ≡ false → AllByRecursion (λ t. t ≡ pos 0) stamps
