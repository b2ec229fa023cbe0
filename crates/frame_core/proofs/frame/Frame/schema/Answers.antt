use Rattle.frame_core.proofs.WholeFrames.{IsFrame-whole}
use Rattle.frame_core.proofs.frame.Frame.schema.Goals as goal

pub returns-clause-frame : goal.returns-clause-frame
returns-clause-frame c = IsFrame-whole _ _ _ _ c.self.view_is c.self.invariant
