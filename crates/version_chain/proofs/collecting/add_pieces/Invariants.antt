use Rattle.std.proofs.Common.{◌≡◌, ◌++◌, take}
use Rattle.std.specs.Prelude.{flat_map}
use Rattle.store_model.specs.PlainWalks.{pieces_of}
use Rattle.version_chain.proofs.collecting.add_pieces.Given as goal

-- the pieces so far were added
abbrev pub invariant-loop-mark : goal.invariant-loop-mark
invariant-loop-mark l = l.pieces ≡ l.fn.pieces ++ flat_map pieces_of (take l.mark-index l.marks)
