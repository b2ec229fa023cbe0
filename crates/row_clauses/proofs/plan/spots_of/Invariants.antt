use Rattle.std.proofs.Common.{◌≡◌, map, take}
use Rattle.row_clauses.specs.Lying.{spot}
use Rattle.row_clauses.proofs.plan.spots_of.Given as goal

-- the names so far were found
abbrev pub invariant-loop-name : goal.invariant-loop-name
invariant-loop-name l = l.spots ≡ map (spot l.schema.columns l.layout) (take l.name-index l.name-items)
