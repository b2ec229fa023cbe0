use Rattle.frame_core.proofs.SelectLemmas.{place_more, place_refused}
use Rattle.frame_core.proofs.selecting.asked_places.Goals as goal

pub returns-in-None : goal.returns-in-None
returns-in-None c = place_refused _ _ _ _ _ c.loop-asked-test.true c.in-None.ensures c.loop-asked.invariant

pub loop-asked-preserved : goal.loop-asked-preserved
loop-asked-preserved c = place_more _ _ _ _ _ _ _ c.loop-asked-test.true c.in-Some.ensures c.in_ok-push-in-Some.ensures.ok c.loop-asked.invariant
