use Rattle.row_clauses.proofs.PlanLaws.{left_none}
use Rattle.row_clauses.proofs.plan.planned.Goals as goal

pub loop-clause-init : goal.loop-clause-init
loop-clause-init c = left_none _ _ _ _ _ _ c.in_ok-plan.ensures.schema c.in_ok-plan.ensures.layout c.in_ok-plan.ensures.count c.in_ok-plan.ensures.spots
