-- A group over a frame: its lines fit the columns that it gives.
use Rattle.std.proofs.Common.{◌≡◌, ℕ, refl, ap, sym, ◌∙◌, subst}
use Rattle.std.specs.Prelude.{Bool, true, false, cond, List, [], ◌∷◌, ◌++◌, map, Option, Some, None, is_some, option_map, option_and_then, unwrap_or, Result, Ok, Err}
use Rattle.std.specs.List.{AllByRecursion}
use Rattle.std.proofs.lemmas.List.Sorted.{IsPermutation-refl}
use Rattle.frame_core.specs.declared.cell.ColType.{ColType}
use Rattle.frame_core.specs.declared.cell.Cell.{Cell}
use Rattle.frame_core.specs.declared.refusal.Refusal.{Refusal}
use Rattle.frame_core.specs.Texts.{Text}
use Rattle.frame_core.specs.Schemas.{Head, Schema, are_new}
use Rattle.frame_core.specs.Frames.{Row, Frame, IsFrame, FitsColumns, type_of}
use Rattle.frame_core.specs.Refusals.{Answers}
use Rattle.frame_core.specs.Selecting.{place_of, then_map}
use Rattle.expr_clause.specs.declared.clause.Agg.{Agg}
use Rattle.expr_clause.specs.declared.clause.Out.{Out}
use Rattle.expr_clause.specs.declared.clause.Clause.{Clause}
use Rattle.expr_clause.specs.declared.clause.Clause.TheVariants as clauses
use Rattle.expr_clause.specs.Exprs.{cell_named, type_named}
use Rattle.expr_clause.specs.Typing.{agg_type, out_type, with_outs, schema_after}
use Rattle.expr_clause.specs.Groups.{Line, group}
use Rattle.expr_clause.specs.Asking.{finish, group_row, line_of, run_frame}
use Rattle.group_clause.specs.Partials.{Partial, partial_of, merge_partials, IsPartialOf, added, merged}
use Rattle.group_clause.specs.Finished.{group_frame, OutsFit, LineFits, HoldsLines, GivesGroupOf}
use Rattle.row_clauses.specs.Lying.{AreTyped}
use Rattle.row_clauses.proofs.Results.{some_is, none_some}
use Rattle.row_clauses.proofs.Types.{column_is}
use Rattle.row_clauses.proofs.NameLaws.{names, new_outs}
use Rattle.row_clauses.proofs.RunLaws.{group_alone}
use Rattle.row_clauses.proofs.ThroughLaws.{made_frame}

abbrev aggs_of : List Out → List Agg
aggs_of outs = map (λ (o : Out). o.agg) outs

-- ---- the outputs of a row fit their columns

-- the columns of the outputs, behind those that were made
record OutColumns (columns made all : List Head) (outs : List Out) : Type 0 where
  heads : List Head
  is : all ≡ made ++ heads
  fit : (row : List Cell) → AreTyped columns row → OutsFit heads (aggs_of outs) (map (λ (o : Out). cell_named columns row o.«of») outs)

none_more : (xs : List Head) → xs ++ [] ≡ xs
none_more [] = refl
none_more (x ∷ xs) = ap (λ l. x ∷ l) (none_more xs)

assoc : (xs : List Head) (y : Head) (ys : List Head) → (xs ++ y ∷ []) ++ ys ≡ xs ++ y ∷ ys
assoc [] y ys = refl
assoc (x ∷ xs) y ys = ap (λ l. x ∷ l) (assoc xs y ys)

-- the type of an output, from that of its column
out_fits : (columns : List Head) (o : Out) (kind : ColType) (row : List Cell) → out_type columns o ≡ Some kind → AreTyped columns row → agg_type o.agg (type_of (cell_named columns row o.«of»)) ≡ Some kind
out_fits columns o kind row e all = by (type_named columns o.«of») refl e
  where
    by : (t : Option ColType) → type_named columns o.«of» ≡ t → option_and_then (agg_type o.agg) t ≡ Some kind → agg_type o.agg (type_of (cell_named columns row o.«of»)) ≡ Some kind
    by None is e = none_some kind e
    by (Some t) is e = ap (agg_type o.agg) (column_is columns row o.«of» t all is) ∙ e

out_columns : (columns made all : List Head) (outs : List Out) → with_outs columns made outs ≡ Some all → OutColumns columns made all outs
out_columns columns made all [] e = record { heads = []; is = sym (some_is made all e) ∙ sym (none_more made); fit = λ row typed. tt }
out_columns columns made all (o ∷ outs) e =
    by (is_some (place_of o.name made)) (out_type columns o) refl e (λ kind h. out_columns columns (made ++ (o.name, kind) ∷ []) all outs h)
  where
    by : (b : Bool) (t : Option ColType) → out_type columns o ≡ t → cond b None (option_and_then (λ kind. with_outs columns (made ++ (o.name, kind) ∷ []) outs) t) ≡ Some all
        → ((kind : ColType) → with_outs columns (made ++ (o.name, kind) ∷ []) outs ≡ Some all → OutColumns columns (made ++ (o.name, kind) ∷ []) all outs) → OutColumns columns made all (o ∷ outs)
    by true t is e later = none_some all e
    by false None is e later = none_some all e
    by false (Some kind) is e later =
        let more = later kind e in
        record {
          heads = (o.name, kind) ∷ more.heads;
          is = more.is ∙ assoc made (o.name, kind) more.heads;
          fit = λ row typed. (out_fits columns o kind row is typed, more.fit row typed);
        }

-- ---- the group's columns

module _ (s t : Schema) (key : Text) (outs : List Out) (fits : schema_after (clauses.Group key outs) s ≡ Some t) where
  -- the key's type, and the columns of key and outputs
  record GroupColumns : Type 0 where
    kind : ColType
    named : type_named s.columns key ≡ Some kind
    given : with_outs s.columns ((key, kind) ∷ []) outs ≡ Some t.columns

  group_columns_are : GroupColumns
  group_columns_are = by (type_named s.columns key) refl fits
    where
      inner : (kind : ColType) → type_named s.columns key ≡ Some kind → (o : Option (List Head)) → with_outs s.columns ((key, kind) ∷ []) outs ≡ o
          → option_map (λ columns. record { timed = false; columns = columns }) o ≡ Some t → GroupColumns
      inner kind named None is e = none_some t e
      inner kind named (Some all) is e = record { kind = kind; named = named; given = is ∙ ap (λ (x : Schema). Some x.columns) (some_is (record { timed = false; columns = all }) t e) }

      by : (o : Option ColType) → type_named s.columns key ≡ o
          → option_map (λ columns. record { timed = false; columns = columns }) (option_and_then (λ kind. with_outs s.columns ((key, kind) ∷ []) outs) o) ≡ Some t → GroupColumns
      by None is e = none_some t e
      by (Some kind) is e = inner kind is (with_outs s.columns ((key, kind) ∷ []) outs) refl e

  pub group_new : are_new [] (names t.columns) ≡ true
  group_new = let g = group_columns_are in new_outs s.columns ((key, g.kind) ∷ []) t.columns outs refl g.given

  line_fits : (row : Row) → AreTyped s.columns row.cells → LineFits t.columns (aggs_of outs) (line_of s.columns key outs row)
  line_fits row typed =
      let g = group_columns_are in
      let o = out_columns s.columns ((key, g.kind) ∷ []) t.columns outs g.given in
      subst (λ columns. LineFits columns (aggs_of outs) (line_of s.columns key outs row)) (sym o.is) (column_is s.columns row.cells key g.kind typed g.named, o.fit row.cells typed)

  lines_fit : (rows : List Row) → AllByRecursion (FitsColumns s.columns) rows → AllByRecursion (LineFits t.columns (aggs_of outs)) (map (line_of s.columns key outs) rows)
  lines_fit [] all = tt
  lines_fit (r ∷ rows) all = (line_fits r all.0.typed, lines_fit rows all.1)

-- ---- the partial of the frame's rows

module _ (f : Frame) (c : Clause) (key : Text) (outs : List Out) (t : Schema) (is : c ≡ clauses.Group key outs) (fits : schema_after c f.schema ≡ Some t) (is_frame : IsFrame f) where
  abbrev lines : List Line
  lines = map (line_of f.schema.columns key outs) f.rows

  typed : schema_after (clauses.Group key outs) f.schema ≡ Some t
  typed = ap (λ x. schema_after x f.schema) (sym is) ∙ fits

  all_added : (p : Partial) → p ≡ merge_partials (partial_of []) (partial_of lines) → IsPartialOf lines p
  all_added p e = subst (IsPartialOf lines) (sym e) (merged [] lines (partial_of []) (partial_of lines) (added []) (added lines))

  pub partial_holds : (p : Partial) → p ≡ merge_partials (partial_of []) (partial_of lines) → HoldsLines (LineFits t.columns (aggs_of outs)) p
  partial_holds p e = record { lines = lines; is = all_added p e; fit = lines_fit f.schema t key outs typed f.rows is_frame.fitting }

  -- what is finished is the group of the frame
  pub finished : (number : ℕ) (p : Partial) (result : Result Frame Refusal) → p ≡ merge_partials (partial_of []) (partial_of lines) → GivesGroupOf number t (aggs_of outs) p result → Answers result (run_frame number (c ∷ []) f)
  finished number p result e gives = subst (Answers result) same (gives lines lines (all_added p e) (IsPermutation-refl lines))
    where
      fused : (r : Result (List Line) Refusal) → then_map (λ done. made_frame t (map group_row done)) r ≡ then_map (made_frame t) (then_map (map group_row) r)
      fused (Ok x) = refl
      fused (Err why) = refl

      same : group_frame number t (aggs_of outs) lines ≡ run_frame number (c ∷ []) f
      same =
          fused (group number (aggs_of outs) lines)
          ∙ ap (λ s. then_map (made_frame s) (finish number (clauses.Group key outs) f.schema f.rows)) (ap (λ o. unwrap_or o f.schema) (sym typed))
          ∙ sym (ap (λ x. run_frame number (x ∷ []) f) is ∙ group_alone number (clauses.Group key outs) f refl)
