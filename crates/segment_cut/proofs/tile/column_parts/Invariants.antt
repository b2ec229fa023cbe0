use Rattle.std.proofs.Common.{◌≡◌, map, take, drop}
use Rattle.frame_core.specs.Schemas.{Head}
use Rattle.frame_core.specs.Columns.{column_type, column_cells, columns_from}
use Rattle.segment_cut.specs.Tiles.{cut}
use Rattle.segment_cut.proofs.tile.column_parts.Given as goal

-- the columns so far were cut
abbrev pub invariant-loop-column : goal.invariant-loop-column
invariant-loop-column l = record {
  kinds : map column_type l.cols ≡ map (λ (h : Head). h.1) (take l.column (drop l.fn.part.first_col l.frame.schema.columns));
  cells : map column_cells l.cols ≡ columns_from 0 l.column (cut l.frame l.fn.part).rows;
}
