use Rattle.std.proofs.Common.{◌≡◌, take}
use Rattle.frame_core.specs.Selecting.{at_places}
use Rattle.frame_core.proofs.selecting.picked_schema.Given as goal

-- the columns at the places so far
abbrev pub invariant-loop-place : goal.invariant-loop-place
invariant-loop-place l = record {
  timed : l.picked.timed ≡ l.schema.timed;
  columns : l.picked.columns ≡ at_places (take l.place-index l.places) l.schema.columns;
}
