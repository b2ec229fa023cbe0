use Rattle.std.proofs.Common.{◌≡◌, ◌++◌, length, reverse}
use Rattle.std.specs.Prelude.{filter_map}
use Rattle.store_model.specs.PlainWalks.{row_of}
use Rattle.version_chain.proofs.collecting.add_links.Given as goal

-- with those of the marks that are left they are all
abbrev pub invariant-loop-mark : goal.invariant-loop-mark
invariant-loop-mark l = l.links ++ reverse (filter_map row_of l.rest.items) ≡ l.fn.links ++ reverse (filter_map row_of l.fn.element.changes)

abbrev pub decreases-loop-mark : goal.decreases-loop-mark
decreases-loop-mark l = length l.rest.items
