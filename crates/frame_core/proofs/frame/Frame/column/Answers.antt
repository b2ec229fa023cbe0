use Rattle.frame_core.proofs.WholeFrames.{column_is, kind_is}
use Rattle.frame_core.proofs.frame.Frame.column.Goals as goal

pub returns-clause-cells : goal.returns-clause-cells
returns-clause-cells c = column_is _ _ _ _ _ _ c.self.view_is c.self.invariant c.at.ensures

pub returns-clause-kind : goal.returns-clause-kind
returns-clause-kind c = kind_is _ _ _ _ _ _ c.self.view_is c.self.invariant c.at.ensures
