-- What each column of a segment keeps.
--     IsCellOf            a cell of a type that has a spelling
--     IsSeries, IsStored      a column of so many rows, and one whose texts keep the limit of all texts
use Rattle.std.specs.Prelude.{◌≡◌, ◌≤◌, ℕ, length}
use Rattle.std.specs.List.{AllByRecursion}
use Rattle.frame_core.specs.declared.cell.ColType.{ColType}
use Rattle.frame_core.specs.declared.cell.Cell.{Cell}
use Rattle.frame_core.specs.Schemas.{IsColName}
use Rattle.frame_core.specs.Frames.{type_of, IsCell}
use Rattle.frame_core.specs.Limits.{text_bytes}
use Rattle.segment_bytes.specs.CellTexts.{joined}
use Rattle.segment_bytes.specs.Sheets.{Series}

-- a cell of this type, whose number has 64 bits and whose text is UTF-8 and not too long
pub record IsCellOf (kind : ColType) (cell : Cell) : Type 0 where
  pub typed : type_of cell ≡ kind
  pub valid : IsCell cell
  pub short : text_bytes cell ≤ 65535

-- a column of so many rows, with a name
pub record IsSeries (rows : ℕ) (column : Series) : Type 0 where
  pub named : IsColName column.0.0
  pub len : length column.1 ≡ rows
  pub each : AllByRecursion (IsCellOf column.0.1) column.1

-- a column of so many rows, whose texts have no more bytes than all texts may have
pub record IsStored (rows : ℕ) (column : Series) : Type 0 where
  pub series : IsSeries rows column
  pub within : length (joined column.1) ≤ 67108864
