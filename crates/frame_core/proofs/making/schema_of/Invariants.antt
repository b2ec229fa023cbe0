use Rattle.std.proofs.Common.{◌≡◌, true, map, take}
use Rattle.std.specs.List.{AllByRecursion}
use Rattle.frame_core.specs.Schemas.{Head, IsColName}
use Rattle.frame_core.specs.RawFrames.{heads_from, typed_cells}
use Rattle.frame_core.proofs.making.schema_of.Given as goal

-- the columns so far have their names and types
abbrev pub invariant-loop-place : goal.invariant-loop-place
invariant-loop-place l = record {
  timed : l.schema.timed ≡ true;
  columns : l.schema.columns ≡ heads_from (take l.place l.names) (take l.place (map typed_cells l.columns));
  named : AllByRecursion (λ (c : Head). IsColName c.0) l.schema.columns;
}
