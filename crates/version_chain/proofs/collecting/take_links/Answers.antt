use Rattle.version_chain.proofs.Collected.{elements_more}
use Rattle.version_chain.proofs.collecting.take_links.Goals as goal

pub loop-element-preserved : goal.loop-element-preserved
loop-element-preserved c = elements_more _ _ _ _ c.in-Some.element _ c.in_ok-add_links.ensures c.in-Some.ensures.items c.loop-element.invariant
