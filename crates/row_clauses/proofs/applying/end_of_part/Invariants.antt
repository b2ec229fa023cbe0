use Rattle.std.proofs.Common.{◌≡◌, true}
use Rattle.std.specs.Prelude.{slice_range}
use Rattle.row_clauses.specs.Plans.{is_plain}
use Rattle.row_clauses.proofs.applying.end_of_part.Given as goal

-- the clauses so far have no group
abbrev pub invariant-loop-place : goal.invariant-loop-place
invariant-loop-place l = is_plain (slice_range l.clauses l.at l.place) ≡ true
