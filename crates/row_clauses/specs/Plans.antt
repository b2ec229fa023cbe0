-- The plan of a run.
--     after_all           the schema after clauses that fit
--     IsAdded             a plan with one more clause
--     IsPlan              the plan of clauses over rows of a schema
--     AllFit              each clause fits the schema that those before it give
--     is_plain, IsPart    clauses without a group; clauses that go together
--     IsRun               clauses without a group over a frame, with their plan
use Rattle.std.specs.Prelude.{◌≡◌, Bool, true, not, ⊤, ◌⊎◌, List, [], ◌∷◌, ◌++◌, map, length, Some, None}
use Rattle.std.specs.List.{list_any}
use Rattle.frame_core.specs.Schemas.{Schema}
use Rattle.frame_core.specs.Frames.{Frame, IsFrame}
use Rattle.expr_clause.specs.declared.clause.Clause.{Clause}
use Rattle.expr_clause.specs.Typing.{absent_from, after, clause_columns, schema_after}
use Rattle.expr_clause.specs.Asking.{ends_run}
use Rattle.row_clauses.specs.declared.plan.Plan.{Plan}
use Rattle.row_clauses.specs.Lying.{count_after, lay, lay_all, places_from, spot, spots_of}

-- the schema after clauses that fit
abbrev pub after_all : List Clause → Schema → Schema
after_all [] s = s
after_all (c ∷ cs) s = after_all cs (after c s)

-- a plan with one more clause behind the others
pub record IsAdded (c : Clause) (old new : Plan) : Type 0 where
  pub schema : new.schema ≡ after c old.schema
  pub layout : new.layout.items ≡ lay c old.schema.columns old.layout.items old.count
  pub count : new.count ≡ count_after c old.count
  pub spots : new.spots ≡ old.spots ++ map (spot old.schema.columns old.layout.items) (clause_columns c) ∷ []

-- the plan of clauses over rows of a schema
pub record IsPlan (s : Schema) (run : List Clause) (plan : Plan) : Type 0 where
  pub schema : plan.schema ≡ after_all run s
  pub layout : plan.layout.items ≡ lay_all s (places_from 0 (length s.columns)) (length s.columns) run
  pub spots : plan.spots ≡ spots_of s (places_from 0 (length s.columns)) (length s.columns) run

-- each clause finds its columns in the schema that those before it give, and its types fit
abbrev pub AllFit : List Clause → Schema → Type 0
AllFit [] s = ⊤
AllFit (c ∷ cs) s = (absent_from 1 s.columns (clause_columns c) ≡ None) × (schema_after c s ≡ Some (after c s)) × AllFit cs (after c s)

-- clauses without a group
abbrev pub is_plain : List Clause → Bool
is_plain run = not (list_any ends_run run)

-- there is none, or the first is a group
abbrev pub StartsRun : List Clause → Type 0
StartsRun [] = ⊤
StartsRun (c ∷ cs) = ends_run c ≡ true

-- these clauses go together: a group alone, or clauses without a group
abbrev pub IsTogether : List Clause → Type 0
IsTogether [] = ⊥
IsTogether (c ∷ cs) = ((ends_run c ≡ true) × (cs ≡ [])) ⊎ (is_plain (c ∷ cs) ≡ true)

-- these clauses go together, and the others, which follow, do not go with them
abbrev pub IsPart : List Clause → List Clause → Type 0
IsPart part more = IsTogether part × (is_plain part ≡ true → StartsRun more)

-- clauses without a group that fit the frame's schema, with their plan
pub record IsRun (run : List Clause) (f : Frame) (plan : Plan) : Type 0 where
  pub frame : IsFrame f
  pub fit : AllFit run f.schema
  pub plain : is_plain run ≡ true
  pub plan_is : IsPlan f.schema run plan
