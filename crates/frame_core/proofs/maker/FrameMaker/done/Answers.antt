use Rattle.frame_core.proofs.MakerLemmas.{whole_done}
use Rattle.frame_core.proofs.maker.FrameMaker.done.Goals as goal

pub invariant_of-result : goal.invariant_of-result
invariant_of-result c = whole_done _ _ _ _ _ _ c.self.invariant c.self.view_is c.requires c.from_vec.ensures
