use Rattle.std.proofs.Common.{take}
use Rattle.frame_write.specs.Layouts.{IsLaid}
use Rattle.frame_write.proofs.laying.lay_out.Given as goal

-- the pieces so far were laid out
abbrev pub invariant-loop-piece : goal.invariant-loop-piece
invariant-loop-piece l = IsLaid l.fn.client l.fn.symbol l.fn.version l.fn.cutting l.fn.serial (take l.piece-index l.pieces) l.layout
