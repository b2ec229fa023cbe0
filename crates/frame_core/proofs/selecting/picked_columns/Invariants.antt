use Rattle.std.proofs.Common.{◌≡◌, take}
use Rattle.frame_core.specs.Selecting.{at_places}
use Rattle.frame_core.proofs.selecting.picked_columns.Given as goal

-- the columns at the places so far
abbrev pub invariant-loop-place : goal.invariant-loop-place
invariant-loop-place l = l.picked ≡ at_places (take l.place-index l.places) l.columns
