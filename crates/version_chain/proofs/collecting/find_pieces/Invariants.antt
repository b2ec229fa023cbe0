use Rattle.std.proofs.Common.{◌≡◌, ◌++◌, drop}
use Rattle.store_model.specs.PlainWalks.{pieces_in}
use Rattle.version_chain.proofs.collecting.find_pieces.Given as goal

-- with those of the elements that are left they are all
abbrev pub invariant-loop-element : goal.invariant-loop-element
invariant-loop-element l = l.pieces ++ pieces_in (drop l.element-index l.elements) ≡ pieces_in l.elements
