-- A query over the tiles of a frame.
use Rattle.std.proofs.Common.{◌≡◌, ℕ, refl, ap, sym, ◌∙◌, subst}
use Rattle.std.specs.Prelude.{List, [], Option, Some, None, is_ok, Result, Ok, Err}
use Rattle.std.proofs.lemmas.Bool.{true≢false}
use Rattle.frame_core.specs.declared.refusal.Refusal.{Refusal}
use Rattle.frame_core.specs.Texts.{Text}
use Rattle.frame_core.specs.Ranges.{Range}
use Rattle.frame_core.specs.Schemas.{Schema}
use Rattle.frame_core.specs.Frames.{Frame, rows_within}
use Rattle.frame_core.specs.Refusals.{Answers}
use Rattle.frame_core.specs.Selecting.{then_map, places_of, pick_columns, refuse_position}
use Rattle.expr_clause.specs.declared.clause.Clause.{Clause}
use Rattle.expr_clause.specs.Typing.{check}
use Rattle.expr_clause.specs.Asking.{◌then◌, apply_clauses, runs, run_all, ask, query}
use Rattle.frame_read.specs.TileSets.{no_rows, IsAskedSchema}

ok_is : (s t : Schema) → ◌≡◌ {A = Result Schema Refusal} (Ok s) (Ok t) → s ≡ t
ok_is s t e = ap (value_or s) e
  where
    value_or : Schema → Result Schema Refusal → Schema
    value_or d (Ok x) = x
    value_or d (Err w) = d

-- what is asked of a frame, where its columns are there
record IsAsked (f : Frame) (range : Range) (columns : Option (List Text)) (s : Schema) : Type 0 where
  frame : Frame
  is : ask f range columns ≡ Ok frame
  schema : frame.schema ≡ s

asked : (f : Frame) (range : Range) (columns : Option (List Text)) (s : Schema) → IsAskedSchema f.schema columns s → IsAsked f range columns s
asked f range None s e = record { frame = record f { rows = rows_within range f.rows }; is = refl; schema = ok_is f.schema s e }
asked f range (Some names) s e = by (places_of 1 [] names f.schema.columns) refl e
  where
    base : Frame
    base = record f { rows = rows_within range f.rows }

    by : (r : Result (List ℕ) ℕ) → places_of 1 [] names f.schema.columns ≡ r
        → ◌≡◌ {A = Result Schema Refusal} (then_map (λ (g : Frame). g.schema) (refuse_position (then_map (pick_columns (no_rows f.schema)) r))) (Ok s) → IsAsked f range (Some names) s
    by (Ok ks) is e = record { frame = pick_columns base ks; is = ap (λ r. refuse_position (then_map (pick_columns base) r)) is; schema = ok_is (pick_columns base ks).schema s e }
    by (Err n) is e = absurd (true≢false (sym (ap is_ok e)))

-- the clauses do not fit the asked columns
pub refused : (f : Frame) (range : Range) (columns : Option (List Text)) (s : Schema) (list : List Clause) (result : Result Frame Refusal) (why : Refusal) → IsAskedSchema f.schema columns s
    → check list s ≡ Err why → query f range columns list ≡ Err why
refused f range columns s list result why schema e =
    let a = asked f range columns s schema in
    ap (λ r. r then apply_clauses list) a.is ∙ ap (λ r. r then λ t. run_all 1 (runs list) a.frame) (ap (check list) a.schema ∙ e)

-- what the clauses make of the asked frame
pub answered : (f made : Frame) (range : Range) (columns : Option (List Text)) (list : List Clause) (result : Result Frame Refusal) → ask f range columns ≡ Ok made → Answers result (apply_clauses list made)
    → Answers result (query f range columns list)
answered f made range columns list result is given = subst (Answers result) (sym (ap (λ r. r then apply_clauses list) is)) given
