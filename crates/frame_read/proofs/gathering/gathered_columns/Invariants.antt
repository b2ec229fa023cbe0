use Rattle.std.proofs.Common.{◌≡◌, map, take}
use Rattle.frame_core.specs.Schemas.{Head}
use Rattle.frame_core.specs.Columns.{column_type, column_cells}
use Rattle.frame_read.specs.Gathers.{cells_gathered}
use Rattle.frame_read.proofs.gathering.gathered_columns.Given as goal

-- the columns so far
abbrev pub invariant-loop-head : goal.invariant-loop-head
invariant-loop-head l = record {
  kinds : map column_type l.columns ≡ map (λ (h : Head). h.1) (take l.head-index l.heads);
  cells : map column_cells l.columns ≡ map (λ (h : Head). cells_gathered l.range h.0 0 l.tiles) (take l.head-index l.heads);
}
