-- A column that is found again in the bytes of a view.
--     Spells              the bytes spell these columns, of which there is one at a place
--     SpellsAll           the bytes spell these columns, so many
--     LiesAs              what was found is the column
use Rattle.std.specs.Prelude.{◌≡◌, ◌<◌, ℕ, List, length, flat_map}
use Rattle.std.specs.List.{AllByRecursion}
use Rattle.segment_bytes.specs.declared.columns.ColumnBytes.{ColumnBytes}
use Rattle.segment_bytes.specs.CellTexts.{cells_text}
use Rattle.segment_bytes.specs.Sheets.{Series, series_text}
use Rattle.segment_bytes.specs.Kept.{IsStored}

-- the bytes spell these columns of so many rows, of which there is one at this place
pub record Spells (rows place : ℕ) (bytes : List ℕ) (columns : List Series) : Type 0 where
  pub each : AllByRecursion (IsStored rows) columns
  pub text : bytes ≡ flat_map series_text columns
  pub within : place < length columns

-- the bytes spell these columns of so many rows, which are so many
pub record SpellsAll (rows count : ℕ) (bytes : List ℕ) (columns : List Series) : Type 0 where
  pub each : AllByRecursion (IsStored rows) columns
  pub text : bytes ≡ flat_map series_text columns
  pub count_is : length columns ≡ count

-- the type, the name and the bytes of the cells are those of the column
pub record LiesAs (column : Series) (found : ColumnBytes) : Type 0 where
  pub kind : found.kind ≡ column.0.1
  pub name : found.name.now ≡ column.0.0
  pub cells : found.cells.now ≡ cells_text column.0.1 column.1
