use Rattle.std.proofs.Common.{◌≡◌, ◌-◌, drop}
use Rattle.frame_core.specs.RawFrames.{bad_row}
use Rattle.frame_core.proofs.making.bad_row.Given as goal

-- the rows that are left, with the one before them, have the first bad row of all
abbrev pub invariant-loop-place : goal.invariant-loop-place
invariant-loop-place l = bad_row l.place (drop (l.place - 1) l.stamps) ≡ bad_row 1 l.stamps
