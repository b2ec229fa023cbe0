-- A query is refused by what the one-thread library tells: an absent column, types, stamps, or an overflow.
use Rattle.std.proofs.Common.{◌≡◌, ℕ, ◌+◌, Bool, true, false, List, [], ◌∷◌, map, length, refl, Option, Some, None, Result, Ok, Err}
use Rattle.std.specs.Prelude.{IfErr, IfOk}
use Rattle.std.specs.List.{cons_option}
use Rattle.frame_core.specs.declared.refusal.Refusal.{Refusal}
use Rattle.frame_core.specs.declared.refusal.Refusal.TheVariants as refusals
use Rattle.frame_core.specs.Texts.{Text}
use Rattle.frame_core.specs.Ranges.{Range}
use Rattle.frame_core.specs.Schemas.{Schema}
use Rattle.frame_core.specs.Frames.{Row, Frame, rows_within}
use Rattle.frame_core.specs.Selecting.{then_map, select, refuse_position}
use Rattle.frame_core.specs.RawFrames.{unless}
use Rattle.expr_clause.specs.declared.clause.Agg.{Agg}
use Rattle.expr_clause.specs.declared.clause.Out.{Out}
use Rattle.expr_clause.specs.declared.clause.Clause.{Clause}
use Rattle.expr_clause.specs.declared.clause.Clause.TheVariants as clauses
use Rattle.frame_core.specs.declared.cell.Cell.{Cell}
use Rattle.expr_clause.specs.Typing.{absent_from, clause_columns, schema_after, needs_time, if_typed, check_clause, check_from, after}
use Rattle.expr_clause.specs.Groups.{Line, outputs, cells_with, groups_from, group, keys}
use Rattle.expr_clause.specs.Asking.{◌then◌, pass, pass_rows, line_of, group_row, finish, end_run, run_frame, run_all, runs, apply_clauses, select_columns, ask, query}
use Rattle.reply_model.specs.Kinds.{cause_of, Told}

-- the one-thread library gives this refusal
abbrev pub IsOfQuery : Refusal → Type 0
IsOfQuery why = cause_of why ≡ Told

then_told : {A B : Type 0} (x : Result A Refusal) (next : A → Result B Refusal) → IfErr x IsOfQuery → ((a : A) → IfErr (next a) IsOfQuery) → IfErr (x then next) IsOfQuery
then_told (Ok a) next first more = more a
then_told (Err why) next first more = first

map_told : {A B : Type 0} (f : A → B) (x : Result A Refusal) → IfErr x IsOfQuery → IfErr (then_map f x) IsOfQuery
map_told f (Ok a) told = tt
map_told f (Err why) told = told

-- ---- the rows and columns asked

position_told : {A : Type 0} (x : Result A ℕ) → IfErr (refuse_position x) IsOfQuery
position_told (Ok a) = tt
position_told (Err n) = refl

select_told : (columns : Option (List Text)) (f : Frame) → IfErr (select_columns columns f) IsOfQuery
select_told None f = tt
select_told (Some names) f = position_told (select names f)

-- ---- whether the clauses fit

unless_told : {A X : Type 0} (x : Option X) (refuse : X → Refusal) (next : Result A Refusal) → ((y : X) → IsOfQuery (refuse y)) → IfErr next IsOfQuery → IfErr (unless x refuse next) IsOfQuery
unless_told None refuse next first more = more
unless_told (Some y) refuse next first more = first y

typed_told : (n : ℕ) (untimed : Bool) (s : Option Schema) → IfErr (if_typed n untimed s) IsOfQuery
typed_told n untimed None = refl
typed_told n true (Some s) = refl
typed_told n false (Some s) = tt

clause_told : (n : ℕ) (c : Clause) (s : Schema) → IfErr (check_clause n c s) IsOfQuery
clause_told n c s = unless_told (absent_from 1 s.columns (clause_columns c)) (refusals.NoSuchColumn n) _ (λ y. refl) (typed_told n _ (schema_after c s))

check_told : (n : ℕ) (cs : List Clause) (s : Schema) → IfErr (check_from n cs s) IsOfQuery
check_told n [] s = tt
check_told n (c ∷ cs) s = next (check_clause n c s) (clause_told n c s) (λ t. check_told (n + 1) cs t)
  where
    next : (x : Result Schema Refusal) → IfErr x IsOfQuery → ((t : Schema) → IfErr (check_from (n + 1) cs t) IsOfQuery)
        → IfErr (elim x as (λ x. Result Schema Refusal) [ Err why ↦ Err why | Ok t ↦ check_from (n + 1) cs t ]) IsOfQuery
    next (Ok t) told more = more t
    next (Err why) told more = told

-- ---- what the clauses make of the rows

rows_told : (way : Row → Result (Option Row) ℕ) (n : ℕ) (rows : List Row) → IfErr (pass_rows way n rows) IsOfQuery
rows_told way n [] = tt
rows_told way n (row ∷ rows) = next (way row) (rows_told way (n + 1) rows)
  where
    next : (x : Result (Option Row) ℕ) → IfErr (pass_rows way (n + 1) rows) IsOfQuery
        → IfErr (elim x as (λ x. Result (List Row) Refusal) [ Err clause ↦ Err (refusals.Overflow clause n) | Ok kept ↦ then_map (cons_option kept) (pass_rows way (n + 1) rows) ]) IsOfQuery
    next (Ok kept) more = map_told (cons_option kept) (pass_rows way (n + 1) rows) more
    next (Err clause) more = refl

groups_told : (clause n : ℕ) (list : List Agg) (lines : List Line) (ks : List Cell) → IfErr (groups_from clause n list lines ks) IsOfQuery
groups_told clause n list lines [] = tt
groups_told clause n list lines (k ∷ ks) = next (outputs list (cells_with k lines)) (groups_told clause (n + 1) list lines ks)
  where
    next : (x : Option (List Cell)) → IfErr (groups_from clause (n + 1) list lines ks) IsOfQuery
        → IfErr (elim x as (λ x. Result (List Line) Refusal) [ None ↦ Err (refusals.GroupOverflow clause n) | Some cs ↦ then_map (λ more. (k, cs) ∷ more) (groups_from clause (n + 1) list lines ks) ]) IsOfQuery
    next None told = refl
    next (Some cs) told = map_told (λ more. (k, cs) ∷ more) (groups_from clause (n + 1) list lines ks) told

finish_told : (n : ℕ) (c : Clause) (s : Schema) (rows : List Row) → IfErr (finish n c s rows) IsOfQuery
finish_told n (clauses.Group key outs) s rows =
    map_told (map group_row) (group n (map (λ (o : Out). o.agg) outs) (map (line_of s.columns key outs) rows)) (groups_told n 1 (map (λ (o : Out). o.agg) outs) (map (line_of s.columns key outs) rows) (keys (map (line_of s.columns key outs) rows)))
finish_told n (clauses.DateRange range) s rows = tt
finish_told n (clauses.Filter e) s rows = tt
finish_told n (clauses.Apply name e) s rows = tt

end_told : (n : ℕ) (run : List Clause) (s : Schema) (rows : List Row) → IfErr (end_run n run s rows) IsOfQuery
end_told n [] s rows = tt
end_told n (c ∷ []) s rows = map_told _ (finish n c s rows) (finish_told n c s rows)
end_told n (c ∷ d ∷ cs) s rows = end_told (n + 1) (d ∷ cs) (after c s) rows

runs_told : (n : ℕ) (list : List (List Clause)) (f : Frame) → IfErr (run_all n list f) IsOfQuery
runs_told n [] f = tt
runs_told n (run ∷ more) f =
    then_told (run_frame n run f) (λ g. run_all (n + length run) more g)
    (then_told (pass_rows (pass n f.schema run) 1 f.rows) (λ rows. end_run n run f.schema rows) (rows_told (pass n f.schema run) 1 f.rows) (λ rows. end_told n run f.schema rows))
    (λ g. runs_told (n + length run) more g)

-- what a query is refused by
pub query_told : (f : Frame) (range : Range) (columns : Option (List Text)) (list : List Clause) → IfErr (query f range columns list) IsOfQuery
query_told f range columns list =
    then_told (ask f range columns) (apply_clauses list) (select_told columns (record f { rows = rows_within range f.rows }))
    (λ g. then_told (check_from 1 list g.schema) (λ s. run_all 1 (runs list) g) (check_told 1 list g.schema) (λ s. runs_told 1 (runs list) g))
