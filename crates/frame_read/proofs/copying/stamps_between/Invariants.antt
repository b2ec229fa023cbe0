use Rattle.std.proofs.Common.{◌≡◌}
use Rattle.std.specs.Prelude.{slice_range}
use Rattle.frame_core.specs.Frames.{stamps_of}
use Rattle.frame_read.proofs.copying.stamps_between.Given as goal

-- the stamps so far were copied
abbrev pub invariant-loop-row : goal.invariant-loop-row
invariant-loop-row l = l.stamps ≡ slice_range (stamps_of l.view.rows) l.from l.row
