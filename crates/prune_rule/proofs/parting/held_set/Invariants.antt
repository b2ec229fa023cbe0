use Rattle.std.proofs.Common.{◌≡◌, ℕ, nat_eq, drop}
use Rattle.std.specs.List.{list_any}
use Rattle.store_model.specs.declared.hold.HoldRow.{HoldRow}
use Rattle.prune_rule.specs.DeadKeys.{has_number}
use Rattle.prune_rule.proofs.parting.held_set.Given as goal

-- the versions from the place on
abbrev pub invariant-loop-place : goal.invariant-loop-place
invariant-loop-place l = (n : ℕ) → has_number l.set n ≡ list_any (λ (hold : HoldRow). nat_eq n hold.version) (drop l.place l.holds)
