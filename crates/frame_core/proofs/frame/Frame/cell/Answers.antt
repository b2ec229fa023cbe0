use Rattle.std.proofs.Common.{arith}
use Rattle.frame_core.proofs.WholeFrames.{cell_is, length_is}
use Rattle.frame_core.proofs.frame.Frame.cell.Goals as goal

pub cell-requires : goal.cell-requires
cell-requires c = omega (arith, length_is _ _ _ _ _ _ c.self.view_is c.self.invariant c.at.ensures, c.requires.row)

pub returns : goal.returns
returns c = cell_is _ _ _ _ _ _ _ _ c.self.view_is c.self.invariant c.requires.row c.at.ensures c.cell.ensures
