use Rattle.std.proofs.Common.{◌≡◌, ℕ, ◌++◌, [], map, get_or}
use Rattle.frame_core.specs.Columns.{column_type, column_cells}
use Rattle.segment_cut.proofs.JoinSteps.{first_cells}
use Rattle.segment_cut.proofs.joining.add_columns.Given as goal

-- the cells of the tile's columns so far stand behind the others
abbrev pub invariant-loop-column : goal.invariant-loop-column
invariant-loop-column l = record {
  cells : (k : ℕ) → get_or (map column_cells l.columns.items) k [] ≡ get_or (map column_cells l.fn.columns.items) k [] ++ first_cells l.column k l.tile;
  kinds : map column_type l.columns.items ≡ map column_type l.fn.columns.items;
}
