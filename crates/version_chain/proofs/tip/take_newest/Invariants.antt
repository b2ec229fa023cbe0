use Rattle.std.proofs.Common.{◌≡◌, length, reverse}
use Rattle.std.specs.Prelude.{find}
use Rattle.version_chain.specs.Tips.{is_unburied}
use Rattle.version_chain.proofs.tip.take_newest.Given as goal

-- the rows that were taken are buried
abbrev pub invariant-loop-row : goal.invariant-loop-row
invariant-loop-row l = find (is_unburied l.tombs) (reverse l.rest.items) ≡ find (is_unburied l.tombs) (reverse l.fn.links)

abbrev pub decreases-loop-row : goal.decreases-loop-row
decreases-loop-row l = length l.rest.items
