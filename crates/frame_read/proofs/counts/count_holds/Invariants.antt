use Rattle.std.proofs.Common.{◌≡◌, ℕ, ◌+◌, drop, nat_eq}
use Rattle.std.specs.Prelude.{count_by}
use Rattle.store_model.specs.declared.hold.HoldRow.{HoldRow}
use Rattle.frame_read.specs.Versions.{count_in}
use Rattle.frame_read.proofs.counts.count_holds.Given as goal

-- what is counted, and what is left, are all
abbrev pub invariant-loop-hold : goal.invariant-loop-hold
invariant-loop-hold l = (n : ℕ) → count_in l.counts n + count_by (λ (hold : HoldRow). nat_eq n hold.version) (drop l.hold-index l.holds) ≡ count_by (λ (hold : HoldRow). nat_eq n hold.version) l.holds
