use Rattle.std.proofs.Common.{◌≡◌, ◌++◌, length, reverse}
use Rattle.store_model.specs.PlainWalks.{rows_in}
use Rattle.version_chain.proofs.collecting.take_links.Given as goal

-- with those of the elements that are left they are all
abbrev pub invariant-loop-element : goal.invariant-loop-element
invariant-loop-element l = l.links ++ reverse (rows_in l.rest.items) ≡ reverse (rows_in l.fn.elements)

abbrev pub decreases-loop-element : goal.decreases-loop-element
decreases-loop-element l = length l.rest.items
