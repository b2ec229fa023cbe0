use Rattle.std.proofs.Common.{rules}
use Rattle.std.proofs.lemmas.List.Sorted.{IsNonDecreasingBy-from_sort_by_key}
use Rattle.segment_cut.specs.Tiles.{Tile}
use Rattle.frame_read.proofs.gathering.sort.Goals as goal

pub returns-clause-rising : goal.returns-clause-rising
returns-clause-rising c = IsNonDecreasingBy-from_sort_by_key (λ (t : Tile). t.0.first_row) _ c.sort_unstable_by_key.ensures.sorted (λ a r q k. search rules)
