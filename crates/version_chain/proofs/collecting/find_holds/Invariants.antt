use Rattle.std.proofs.Common.{◌≡◌, drop, map}
use Rattle.store_model.specs.PlainWalks.{holds_in}
use Rattle.version_chain.specs.States.{hold_of}
use Rattle.version_chain.proofs.collecting.find_holds.Given as goal

-- the holds of the elements behind the place
abbrev pub invariant-loop-place : goal.invariant-loop-place
invariant-loop-place l = map hold_of l.holds ≡ holds_in (drop l.place l.elements)
