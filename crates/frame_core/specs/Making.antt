-- What contracts see of a frame that is made row by row.
--     Making              the schema, the rows that were ended, and the cells of the row that is begun
--     making_of           what columns show of it: a column that has the begun row's cell is longer by one
--     AreBegun, IsMaking      how long the columns are; what a maker keeps
--     Takes               when a cell is of the next column's type
use Rattle.std.specs.Prelude.{◌≡◌, ℕ, zero, suc, ◌+◌, ◌≤◌, ℤ, pos, false, List, [], ◌∷◌, map, length, filter_map, slice_get, option_map, Some, ⊤, FitsSigned}
use Rattle.std.specs.Int.{w64}
use Rattle.std.specs.List.{AllByRecursion}
use Rattle.frame_core.specs.declared.cell.ColType.{ColType}
use Rattle.frame_core.specs.declared.cell.Cell.{Cell}
use Rattle.frame_core.specs.Schemas.{Head, Schema, AreColumns}
use Rattle.frame_core.specs.Frames.{Row, type_of, IsCell, NeverFall}
use Rattle.frame_core.specs.Columns.{rows_from}

-- the schema, the rows that were ended, and the cells of the row that is begun
pub record Making : Type 0 where
  pub schema : Schema
  pub rows : List Row
  pub begun : List Cell

-- what columns show: the rows of the stamps, and the cells behind these rows
abbrev pub making_of : Schema → List ℤ → List (List Cell) → Making
making_of schema stamps cols = record {
  schema = schema;
  rows = rows_from stamps cols;
  begun = filter_map (λ c. slice_get c (length stamps)) cols;
}

-- the first b columns have one cell more than there are rows, the others as many
abbrev pub AreBegun : ℕ → ℕ → List (List Cell) → Type 0
AreBegun rows b [] = ⊤
AreBegun rows zero (c ∷ cols) = (length c ≡ rows) × AreBegun rows zero cols
AreBegun rows (suc b) (c ∷ cols) = (length c ≡ rows + 1) × AreBegun rows b cols

-- the columns have the schema's types and their lengths, the stamps never fall, and the numbers have 64 bits
pub record IsMaking (schema : Schema) (stamps : List ℤ) (kinds : List ColType) (cols : List (List Cell)) (begun : ℕ) : Type 0 where
  pub columns : AreColumns schema.columns
  pub types : kinds ≡ map (λ (c : Head). c.1) schema.columns
  pub count : length cols ≡ length schema.columns
  pub within : begun ≤ length cols
  pub lengths : AreBegun (length stamps) begun cols
  pub stamps_fit : AllByRecursion (FitsSigned w64) stamps
  pub cells_fit : AllByRecursion (AllByRecursion IsCell) cols
  pub ascending : NeverFall stamps
  pub untimed : schema.timed ≡ false → AllByRecursion (λ t. t ≡ pos 0) stamps

-- the cell is of the type of the next column of the begun row
abbrev pub Takes : Making → Cell → Type 0
Takes making cell = option_map (λ (c : Head). c.1) (slice_get making.schema.columns (length making.begun)) ≡ Some (type_of cell)
