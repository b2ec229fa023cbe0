use Rattle.std.proofs.Common.{◌≡◌, ◌++◌, drop}
use Rattle.store_model.specs.PlainWalks.{tombs_in}
use Rattle.version_chain.proofs.collecting.find_tombs.Given as goal

-- with those of the elements that are left they are all
abbrev pub invariant-loop-element : goal.invariant-loop-element
invariant-loop-element l = l.tombs ++ tombs_in (drop l.element-index l.elements) ≡ tombs_in l.elements
