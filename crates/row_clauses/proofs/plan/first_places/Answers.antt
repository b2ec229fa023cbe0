use Rattle.std.proofs.Common.{arith}
use Rattle.row_clauses.proofs.PlanLaws.{places_more}
use Rattle.row_clauses.proofs.plan.first_places.Goals as goal

pub loop-place-preserved : goal.loop-place-preserved
loop-place-preserved c = places_more _ _ _ c.loop-place.place c.args.count (omega (arith, c.loop-place-test.true)) c.in_ok-push.ensures.items c.loop-place.invariant
