use Rattle.std.proofs.Common.{◌≡◌, ◌++◌, ◌-◌}
use Rattle.row_clauses.specs.Lying.{places_from}
use Rattle.row_clauses.proofs.plan.first_places.Given as goal

-- the places so far, and those that are left, are all
abbrev pub invariant-loop-place : goal.invariant-loop-place
invariant-loop-place l = l.layout.items ++ places_from l.place (l.count - l.place) ≡ places_from 0 l.count
