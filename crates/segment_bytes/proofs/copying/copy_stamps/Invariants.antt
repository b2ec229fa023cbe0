use Rattle.std.proofs.Common.{◌≡◌, take}
use Rattle.frame_core.specs.Frames.{stamps_of}
use Rattle.segment_bytes.proofs.copying.copy_stamps.Given as goal

-- the stamps so far were copied
abbrev pub invariant-loop-row : goal.invariant-loop-row
invariant-loop-row l = l.stamps ≡ take l.row (stamps_of l.view.rows)
