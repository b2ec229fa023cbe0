use Rattle.std.proofs.Common.{◌≡◌, length, map, take}
use Rattle.frame_core.specs.Schemas.{Head}
use Rattle.frame_core.specs.Columns.{column_type, column_cells, columns_from}
use Rattle.segment_bytes.proofs.copying.copy_columns.Given as goal

-- the columns so far were copied
abbrev pub invariant-loop-col : goal.invariant-loop-col
invariant-loop-col l = record {
  types : map column_type l.columns ≡ take l.col (map (λ (head : Head). head.1) l.view.schema.columns);
  cells : map column_cells l.columns ≡ take l.col (columns_from 0 (length l.view.schema.columns) l.view.rows);
}
