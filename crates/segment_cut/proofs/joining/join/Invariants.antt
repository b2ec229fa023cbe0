use Rattle.std.proofs.Common.{◌≡◌, ℕ, ◌++◌, [], map, get_or, drop}
use Rattle.frame_core.specs.Schemas.{Head}
use Rattle.frame_core.specs.Columns.{column_type, column_cells}
use Rattle.segment_cut.specs.Joins.{joined_cells, joined_stamps}
use Rattle.segment_cut.proofs.joining.join.Given as goal

-- the tiles that are left make of what is there what all tiles make of nothing
abbrev pub invariant-loop-tile : goal.invariant-loop-tile
invariant-loop-tile l = record {
  stamps : joined_stamps l.stamps (drop l.tile-index (map (λ t. t.now) l.tile-items)) ≡ joined_stamps [] (map (λ t. t.now) l.tile-items);
  cells : (k : ℕ) → get_or (map column_cells l.columns.items) k [] ++ joined_cells k (drop l.tile-index (map (λ t. t.now) l.tile-items)) ≡ joined_cells k (map (λ t. t.now) l.tile-items);
  kinds : map column_type l.columns.items ≡ map (λ (h : Head). h.1) l.schema.columns;
}
