use Rattle.std.proofs.Common.{◌≡◌, ℕ, nat_eq, drop}
use Rattle.std.specs.List.{list_any}
use Rattle.prune_rule.specs.DeadKeys.{has_number}
use Rattle.prune_rule.proofs.parting.number_set.Given as goal

-- the numbers from the place on
abbrev pub invariant-loop-place : goal.invariant-loop-place
invariant-loop-place l = (n : ℕ) → has_number l.set n ≡ list_any (nat_eq n) (drop l.place l.numbers)
