use Rattle.std.proofs.Common.{drop}
use Rattle.row_clauses.proofs.PlanLaws.{Left}
use Rattle.row_clauses.proofs.plan.planned.Given as goal

-- the clauses that are left make of the plan so far the whole plan
abbrev pub invariant-loop-clause : goal.invariant-loop-clause
invariant-loop-clause l = Left l.schema l.clauses (drop l.clause-index l.clauses) l.plan.schema l.plan.layout.items l.plan.count l.plan.spots
