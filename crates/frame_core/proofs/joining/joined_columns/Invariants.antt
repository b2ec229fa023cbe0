use Rattle.std.proofs.Common.{◌≡◌, map, take}
use Rattle.frame_core.specs.Columns.{column_type, column_cells}
use Rattle.frame_core.proofs.JoinLemmas.{both_cells}
use Rattle.frame_core.proofs.joining.joined_columns.Given as goal

-- the columns so far were joined
abbrev pub invariant-loop-place : goal.invariant-loop-place
invariant-loop-place l = record {
  kinds : map column_type l.both ≡ take l.place (map column_type l.first);
  cells : map column_cells l.both ≡ take l.place (both_cells (map column_cells l.first) (map column_cells l.more));
}
