use Rattle.std.proofs.Common.{rules}
use Rattle.std.proofs.lemmas.List.Sorted.{IsPermutation-map, IsNonDecreasingBy-from_sort_by_key}
use Rattle.segment_cut.specs.Tiles.{Tile}
use Rattle.segment_cut.proofs.Orders.{rising-map, lent-all}
use Rattle.segment_cut.proofs.joining.by_first_row.Goals as goal

pub returns-clause-same : goal.returns-clause-same
returns-clause-same c = rw (← lent-all _ _ _ c.loop-tile-test.false c.loop-tile.invariant) (IsPermutation-map (λ t. t.now) _ _ c.sort_unstable_by_key.ensures.permutation)

pub returns-clause-rising : goal.returns-clause-rising
returns-clause-rising c = rising-map (λ (t : Tile). t.0.first_row) (λ t. t.now) _ (IsNonDecreasingBy-from_sort_by_key (λ t. t.now.0.first_row) _ c.sort_unstable_by_key.ensures.sorted (λ a r q k. search rules))
