-- Which clauses fit a schema, and the schema that they give.
--     clause_columns          the columns that a clause names, in order
--     absent_from             the position of the first name that is no column
--     schema_after            the schema that a clause gives, where its types fit
--     after                   the schema after a clause that fits
--     check                   the schema that all clauses give, or the first refusal
use Rattle.std.specs.Prelude.{ℕ, ◌+◌, Bool, true, false, not, ◌&&◌, if◌then◌else◌, List, [], ◌∷◌, ◌++◌, map, slice_set, Option, Some, None, is_some, option_map, option_and_then, unwrap_or, Result, Ok, Err}
use Rattle.frame_core.specs.declared.cell.ColType.{ColType}
use Rattle.frame_core.specs.declared.cell.ColType.TheVariants as types
use Rattle.frame_core.specs.declared.refusal.Refusal.{Refusal}
use Rattle.frame_core.specs.declared.refusal.Refusal.TheVariants as refusals
use Rattle.frame_core.specs.Texts.{Text}
use Rattle.frame_core.specs.Schemas.{Head, Schema}
use Rattle.frame_core.specs.Selecting.{place_of}
use Rattle.frame_core.specs.RawFrames.{unless}
use Rattle.expr_clause.specs.declared.clause.Agg.{Agg}
use Rattle.expr_clause.specs.declared.clause.Agg.TheVariants as aggs
use Rattle.expr_clause.specs.declared.clause.Out.{Out}
use Rattle.expr_clause.specs.declared.clause.Clause.{Clause}
use Rattle.expr_clause.specs.declared.clause.Clause.TheVariants as clauses
use Rattle.expr_clause.specs.Exprs.{columns_of, type_named, expr_type, has_type}

-- the columns that a clause names, in order: those of its expression, or the key and then the outputs' columns
abbrev pub clause_columns : Clause → List Text
clause_columns (clauses.DateRange range) = []
clause_columns (clauses.Filter e) = columns_of e
clause_columns (clauses.Apply name e) = columns_of e
clause_columns (clauses.Group key outs) = key ∷ map (λ (o : Out). o.of) outs

-- the position, from n, of the first name that is no column
abbrev pub absent_from : ℕ → List Head → List Text → Option ℕ
absent_from n columns [] = None
absent_from n columns (name ∷ names) = elim (place_of name columns) [ None ↦ Some n | Some k ↦ absent_from (n + 1) columns names ]

-- in this place, or else at the end
abbrev pub put_at : {X : Type 0} → Option ℕ → X → List X → List X
put_at None x xs = xs ++ x ∷ []
put_at (Some k) x xs = slice_set xs k x

-- the columns with one more, or with this one in the place of the one of its name
abbrev pub with_column : Text → ColType → List Head → List Head
with_column name kind columns = put_at (place_of name columns) (name, kind) columns

-- ---- outputs

-- the type of what an aggregator makes of a column, if it takes it
abbrev pub agg_type : Agg → ColType → Option ColType
agg_type aggs.Count kind = Some types.Int
agg_type aggs.Sum types.Int = Some types.Int
agg_type aggs.Sum _ = None
agg_type _ types.Int = Some types.Int
agg_type _ types.Stamp = Some types.Stamp
agg_type _ _ = None

-- the type of an output of these columns, if it has one
abbrev pub out_type : List Head → Out → Option ColType
out_type columns o = option_and_then (agg_type o.agg) (type_named columns o.of)

-- what was made, and behind it the columns of the outputs, no name standing twice
abbrev pub with_outs : List Head → List Head → List Out → Option (List Head)
with_outs columns made [] = Some made
with_outs columns made (o ∷ outs) =
    if is_some (place_of o.name made) then None else option_and_then (λ kind. with_outs columns (made ++ (o.name, kind) ∷ []) outs) (out_type columns o)

-- the key, and then the outputs
abbrev pub group_columns : List Head → Text → List Out → Option (List Head)
group_columns columns key outs = option_and_then (λ kind. with_outs columns ((key, kind) ∷ []) outs) (type_named columns key)

-- ---- clauses

-- the schema that a clause gives, where its types fit
abbrev pub schema_after : Clause → Schema → Option Schema
schema_after (clauses.DateRange range) s = Some s
schema_after (clauses.Filter e) s = if has_type types.Flag (expr_type s.columns e) then Some s else None
schema_after (clauses.Apply name e) s = option_map (λ kind. record s { columns = with_column name kind s.columns }) (expr_type s.columns e)
schema_after (clauses.Group key outs) s = option_map (λ columns. record { timed = false; columns = columns }) (group_columns s.columns key outs)

-- the schema after a clause that fits
abbrev pub after : Clause → Schema → Schema
after c s = unwrap_or (schema_after c s) s

-- whether a clause speaks of stamps
abbrev pub needs_time : Clause → Bool
needs_time (clauses.DateRange range) = true
needs_time _ = false

-- the types fit, and rows have stamps where the clause speaks of them
abbrev pub if_typed : ℕ → Bool → Option Schema → Result Schema Refusal
if_typed n untimed None = Err (refusals.TypeMismatch n)
if_typed n untimed (Some s) = if untimed then Err (refusals.NotTimeIndexed n) else Ok s

-- within one clause columns come first, then types, then the time
abbrev pub check_clause : ℕ → Clause → Schema → Result Schema Refusal
check_clause n c s = unless (absent_from 1 s.columns (clause_columns c)) (refusals.NoSuchColumn n) (if_typed n (needs_time c && not s.timed) (schema_after c s))

-- the clauses, the first of which is clause n, one after another up to the first refusal
abbrev pub check_from : ℕ → List Clause → Schema → Result Schema Refusal
check_from n [] s = Ok s
check_from n (c ∷ cs) s = elim (check_clause n c s) [ Err why ↦ Err why | Ok t ↦ check_from (n + 1) cs t ]

-- the schema that the clauses give, or the first refusal
abbrev pub check : List Clause → Schema → Result Schema Refusal
check = check_from 1
