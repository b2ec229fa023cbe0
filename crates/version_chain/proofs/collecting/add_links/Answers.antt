use Rattle.version_chain.proofs.Collected.{links_more}
use Rattle.version_chain.proofs.collecting.add_links.Goals as goal

pub loop-mark-preserved : goal.loop-mark-preserved
loop-mark-preserved c = links_more _ _ _ _ c.in-Some.mark _ c.in_ok-add_link.ensures c.in-Some.ensures.items c.loop-mark.invariant
