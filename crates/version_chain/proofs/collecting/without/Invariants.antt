use Rattle.std.proofs.Common.{◌≡◌, not, map, take}
use Rattle.std.specs.Prelude.{filter}
use Rattle.key_kind.specs.Keys.{same_holder}
use Rattle.version_chain.specs.States.{hold_of}
use Rattle.version_chain.proofs.collecting.without.Given as goal

-- the other holders' holds so far are kept
abbrev pub invariant-loop-hold : goal.invariant-loop-hold
invariant-loop-hold l = map hold_of l.kept ≡ filter (λ w. not (same_holder l.holder w.holder)) (map hold_of (take l.hold-index l.holds))
