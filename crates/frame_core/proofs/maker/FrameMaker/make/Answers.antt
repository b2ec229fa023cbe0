use Rattle.frame_core.proofs.MakerLemmas.{IsMaking-new, made_new}
use Rattle.frame_core.proofs.maker.FrameMaker.make.Goals as goal

pub invariant_of-result : goal.invariant_of-result
invariant_of-result c = IsMaking-new _ _ _ _ _ c.requires.distinct c.in_ok-schema.ensures.copy c.in_ok-schema.ensures.named c.new.ensures c.columns.ensures c.in_ok-columns.ensures.kinds c.in_ok-columns.ensures.cells

pub returns : goal.returns
returns c = made_new _ _ _ _ c.in_ok-schema.ensures.copy c.new.ensures c.in_ok-columns.ensures.cells
