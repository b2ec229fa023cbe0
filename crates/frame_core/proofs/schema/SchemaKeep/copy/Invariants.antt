use Rattle.std.proofs.Common.{◌≡◌, take}
use Rattle.std.specs.List.{AllByRecursion}
use Rattle.frame_core.specs.Schemas.{Head, IsColName}
use Rattle.frame_core.proofs.schema.SchemaKeep.copy.Given as goal

-- the columns so far were copied, and have names of columns
abbrev pub invariant-loop-name : goal.invariant-loop-name
invariant-loop-name l = record {
  timed : l.copy.timed ≡ l.self.timed;
  columns : l.copy.columns ≡ take l.name-index l.name-items;
  named : AllByRecursion (λ (c : Head). IsColName c.0) (take l.name-index l.name-items);
}
