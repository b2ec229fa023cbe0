use Rattle.std.proofs.Common.{◌≡◌, ℕ, ◌+◌, drop, nat_eq}
use Rattle.std.specs.Prelude.{count_by}
use Rattle.frame_read.specs.Versions.{count_in}
use Rattle.frame_read.proofs.counts.count_versions.Given as goal

-- what is counted, and what is left, are all
abbrev pub invariant-loop-version : goal.invariant-loop-version
invariant-loop-version l = (n : ℕ) → count_in l.counts n + count_by (nat_eq n) (drop l.version-index l.versions) ≡ count_by (nat_eq n) l.versions
