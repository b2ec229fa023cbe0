-- A row on its way through a run, clause by clause.
use Rattle.std.proofs.Common.{◌≡◌, IfOk, ℕ, ◌+◌, ◌<◌, refl, ap, sym, ◌∙◌, subst, arith, length-append}
use Rattle.std.proofs.lemmas.Bool.{true≢false}
use Rattle.std.specs.Prelude.{Bool, true, false, cond, List, [], ◌∷◌, ◌++◌, length, map, drop, Option, Some, None, option_map, Result, Ok, Err}
use Rattle.std.specs.List.{AllByRecursion}
use Rattle.frame_core.specs.declared.cell.Cell.{Cell}
use Rattle.frame_core.specs.declared.cell.CellRef.{CellRef}
use Rattle.frame_core.specs.Texts.{Text}
use Rattle.frame_core.specs.Ranges.{Range, is_within}
use Rattle.frame_core.specs.Schemas.{Head, Schema}
use Rattle.frame_core.specs.Frames.{Row, Frame, cell_of}
use Rattle.frame_core.specs.Selecting.{place_of}
use Rattle.expr_clause.specs.declared.expr.Expr.{Expr}
use Rattle.expr_clause.specs.declared.clause.Out.{Out}
use Rattle.expr_clause.specs.declared.clause.Clause.{Clause}
use Rattle.expr_clause.specs.declared.clause.Clause.TheVariants as clauses
use Rattle.expr_clause.specs.Cells.{is_true}
use Rattle.expr_clause.specs.Exprs.{columns_of, value}
use Rattle.expr_clause.specs.Typing.{put_at, after, clause_columns}
use Rattle.expr_clause.specs.Asking.{keep_if, go_on, pass}
use Rattle.row_clauses.specs.declared.passing.Step.{Step}
use Rattle.row_clauses.specs.declared.passing.Step.TheVariants as steps
use Rattle.row_clauses.specs.Lying.{AreTyped, row_at, cells_at, lying, row_lying, spot, lay, count_after, spots_of, lay_all, places_from}
use Rattle.row_clauses.specs.Passing.{told, IsStepped}
use Rattle.row_clauses.proofs.PlanLaws.{lying_put, lying_first, typed_length, low_after, low_first}

-- ---- one clause

-- what is said of the value of an expression, wherever the columns lie
abbrev pub IsValueOn : Expr → List (Option ℕ) → Frame → ℕ → List CellRef → Option Cell → Type 0
IsValueOn e spots f row made found = (columns : List Head) (places : List ℕ) → spots ≡ map (spot columns places) (columns_of e) → found ≡ value columns (lying (cells_at f row made) places) e

module _ (spots : List (Option ℕ)) (f : Frame) (row : ℕ) (made : List CellRef) where
  told_kept : (b : Bool) (r : Row) → told (cond b steps.GoesOn steps.Ends) r ≡ Some (keep_if b r)
  told_kept true r = refl
  told_kept false r = refl

  pub stepped_range : (range : Range) (b : Bool) → b ≡ is_within range (row_at f row).stamp → IsStepped (clauses.DateRange range) spots f row made made (cond b steps.GoesOn steps.Ends)
  stepped_range range b e = λ columns places s low. record {
    is = told_kept b (row_lying f row made places) ∙ ap (λ x. Some (keep_if x (row_lying f row made places))) e;
    grown = λ on. refl;
  }

  pub stepped_filter : (e : Expr) (cell : Cell) → IsValueOn e spots f row made (Some cell) → IsStepped (clauses.Filter e) spots f row made made (cond (is_true cell) steps.GoesOn steps.Ends)
  stepped_filter e cell valued = λ columns places s low. record {
    is = told_kept (is_true cell) (row_lying f row made places) ∙ ap (option_map (λ c. keep_if (is_true c) (row_lying f row made places))) (valued columns places s);
    grown = λ on. refl;
  }

  pub stepped_filter_over : (e : Expr) → IsValueOn e spots f row made None → IsStepped (clauses.Filter e) spots f row made made steps.Overflows
  stepped_filter_over e valued = λ columns places s low. record {
    is = ap (option_map (λ c. keep_if (is_true c) (row_lying f row made places))) (valued columns places s);
    grown = λ on. refl;
  }

  cells_pushed : (cell : CellRef) → cells_at f row (made ++ cell ∷ []) ≡ cells_at f row made ++ cell_of cell ∷ []
  cells_pushed cell = ap (λ l. (row_at f row).cells ++ l) (at_end made) ∙ assoc (row_at f row).cells (map cell_of made)
    where
      at_end : (made : List CellRef) → map cell_of (made ++ cell ∷ []) ≡ map cell_of made ++ cell_of cell ∷ []
      at_end [] = refl
      at_end (c ∷ made) = ap (λ l. cell_of c ∷ l) (at_end made)

      assoc : (xs ys : List Cell) → xs ++ (ys ++ cell_of cell ∷ []) ≡ (xs ++ ys) ++ cell_of cell ∷ []
      assoc [] ys = refl
      assoc (x ∷ xs) ys = ap (λ l. x ∷ l) (assoc xs ys)

  pub stepped_apply : (name : Text) (e : Expr) (cell : CellRef) → IsValueOn e spots f row made (Some (cell_of cell)) → (new : List CellRef) → new ≡ made ++ cell ∷ [] → IsStepped (clauses.Apply name e) spots f row made new steps.GoesOn
  stepped_apply name e cell valued new new_is = λ columns places s low. record {
    is =
        ap (λ cs. Some (Some (record { stamp = (row_at f row).stamp; cells = lying cs (put_at (place_of name columns) (length (cells_at f row made)) places) }))) (ap (cells_at f row) new_is ∙ cells_pushed cell)
        ∙ ap (λ cs. Some (Some (record { stamp = (row_at f row).stamp; cells = cs }))) (lying_put (cells_at f row made) (cell_of cell) (place_of name columns) places low)
        ∙ ap (option_map (λ c. Some (record (row_lying f row made places) { cells = put_at (place_of name columns) c (row_lying f row made places).cells }))) (valued columns places s);
    grown = λ on. ap length (ap (cells_at f row) new_is ∙ cells_pushed cell) ∙ length-append (cells_at f row made) (cell_of cell ∷ []);
  }

  pub stepped_apply_over : (name : Text) (e : Expr) → IsValueOn e spots f row made None → IsStepped (clauses.Apply name e) spots f row made made steps.Overflows
  stepped_apply_over name e valued = λ columns places s low. record {
    is = ap (option_map (λ c. Some (record (row_lying f row made places) { cells = put_at (place_of name columns) c (row_lying f row made places).cells }))) (valued columns places s);
    grown = λ on. absurd (differ on);
  }
    where
      goes : Step → Bool
      goes steps.GoesOn = true
      goes _ = false

      differ : steps.Overflows ≡ steps.GoesOn → ⊥
      differ e = true≢false (sym (ap goes e))

  pub stepped_group : (key : Text) (outs : List Out) → IsStepped (clauses.Group key outs) spots f row made made steps.GoesOn
  stepped_group key outs = λ columns places s low. record { is = refl; grown = λ on. refl }

  -- so in the code
  abbrev pub IsFound : Expr → List CellRef → Option CellRef → Type 0
  IsFound e lent found = (columns : List Head) (places : List ℕ) → spots ≡ map (spot columns places) (columns_of e) → option_map cell_of found ≡ value columns (lying (cells_at f row lent) places) e

  valued_on : (e : Expr) (lent : List CellRef) (found : Option CellRef) (cell : CellRef) → lent ≡ made → found ≡ Some cell → IsFound e lent found → IsValueOn e spots f row made (Some (cell_of cell))
  valued_on e lent found cell lent_is found_is valued = λ columns places s.
      sym (ap (option_map cell_of) found_is) ∙ valued columns places s ∙ ap (λ m. value columns (lying (cells_at f row m) places) e) lent_is

  pub filter_done : (c : Clause) (e : Expr) (lent : List CellRef) (found : Option CellRef) (cell : CellRef) (b : Bool) (done : Step) → c ≡ clauses.Filter e → lent ≡ made → found ≡ Some cell
      → IsFound e lent found → b ≡ is_true (cell_of cell) → done ≡ cond b steps.GoesOn steps.Ends → IsStepped c spots f row made made done
  filter_done c e lent found cell b done c_is lent_is found_is valued b_is done_is =
      rw (c_is, done_is, b_is) (stepped_filter e (cell_of cell) (valued_on e lent found cell lent_is found_is valued))

  pub apply_done : (c : Clause) (name : Text) (e : Expr) (lent : List CellRef) (found : Option CellRef) (cell : CellRef) (new : List CellRef) → c ≡ clauses.Apply name e → lent ≡ made → found ≡ Some cell
      → IsFound e lent found → new ≡ made ++ cell ∷ [] → IsStepped c spots f row made new steps.GoesOn
  apply_done c name e lent found cell new c_is lent_is found_is valued new_is =
      rw c_is (stepped_apply name e cell (valued_on e lent found cell lent_is found_is valued) new new_is)

  pub apply_over : (name : Text) (e : Expr) (lent : List CellRef) (found : Option CellRef) → lent ≡ made → found ≡ None → IsFound e lent found → IsStepped (clauses.Apply name e) spots f row made made steps.Overflows
  apply_over name e lent found lent_is found_is valued = stepped_apply_over name e (λ columns places s.
      sym (ap (option_map cell_of) found_is) ∙ valued columns places s ∙ ap (λ m. value columns (lying (cells_at f row m) places) e) lent_is)

  -- so for the clause's own name
  pub apply_named : {E : Type 0} (r : Result Step E) (c : Clause) (name : Text) (e : Expr) (new : List CellRef) → c ≡ clauses.Apply name e
      → IfOk r (λ done. (n : Text) → IsStepped (clauses.Apply n e) spots f row made new done) → IfOk r (λ done. IsStepped c spots f row made new done)
  apply_named (Ok done) c name e new c_is steps_any = rw c_is (steps_any name)
  apply_named (Err why) c name e new c_is steps_any = tt

-- ---- the clauses that are left

-- they make of the row so far what all make of the frame's row
pub record Rest (f : Frame) (row : ℕ) (answer : Result (Option Row) ℕ) (final : List ℕ) (n : ℕ) (run : List Clause) (spots : List (List (Option ℕ))) (made : List CellRef) : Type 0 where
  pub schema : Schema
  pub places : List ℕ
  pub spots_are : spots ≡ spots_of schema places (length (cells_at f row made)) run
  pub low : AllByRecursion (λ place. place < length (cells_at f row made)) places
  pub final_is : lay_all schema places (length (cells_at f row made)) run ≡ final
  pub goes : pass n schema run (row_lying f row made places) ≡ answer

abbrev head_or : {X : Type 0} → X → List X → X
head_or d [] = d
head_or d (x ∷ xs) = x

abbrev tail_of : {X : Type 0} → List X → List X
tail_of [] = []
tail_of (x ∷ xs) = xs

module _ (f : Frame) (row : ℕ) (answer : Result (Option Row) ℕ) (final : List ℕ) where
  begun : (n : ℕ) (run : List Clause) (spots : List (List (Option ℕ))) → AreTyped f.schema.columns (row_at f row).cells
      → spots ≡ spots_of f.schema (places_from 0 (length f.schema.columns)) (length f.schema.columns) run
      → final ≡ lay_all f.schema (places_from 0 (length f.schema.columns)) (length f.schema.columns) run
      → answer ≡ pass n f.schema run (row_at f row) → Rest f row answer final n run spots []
  begun n run spots all spots_are final_is answer_is =
      let count : length (cells_at f row []) ≡ length f.schema.columns = typed_length (row_at f row).cells f.schema.columns all in
      record {
        schema = f.schema;
        places = places_from 0 (length f.schema.columns);
        spots_are = spots_are ∙ ap (λ k. spots_of f.schema (places_from 0 (length f.schema.columns)) k run) (sym count);
        low = low_first 0 (length f.schema.columns) (length (cells_at f row [])) (omega (arith, count));
        final_is = ap (λ k. lay_all f.schema (places_from 0 (length f.schema.columns)) k run) count ∙ sym final_is;
        goes = ap (λ cs. pass n f.schema run (record { stamp = (row_at f row).stamp; cells = cs })) (lying_first (row_at f row).cells f.schema.columns all) ∙ sym answer_is;
      }

  pub rest_first : (n m : ℕ) (run : List Clause) (spots : List (List (Option ℕ))) (made : List CellRef) → n ≡ m → made ≡ [] → AreTyped f.schema.columns (row_at f row).cells
      → spots ≡ spots_of f.schema (places_from 0 (length f.schema.columns)) (length f.schema.columns) run
      → final ≡ lay_all f.schema (places_from 0 (length f.schema.columns)) (length f.schema.columns) run
      → answer ≡ pass n f.schema run (row_at f row) → Rest f row answer final m run spots made
  rest_first n m run spots made n_is none all spots_are final_is answer_is = rw (none, ← n_is) (begun n run spots all spots_are final_is answer_is)

  module _ (n : ℕ) (c : Clause) (cs : List Clause) (ss : List (Option ℕ)) (more : List (List (Option ℕ))) (made new : List CellRef) (rest : Rest f row answer final n (c ∷ cs) (ss ∷ more) made) where
    found : ss ≡ map (spot rest.schema.columns rest.places) (clause_columns c)
    found = ap (head_or ss) rest.spots_are

    pub rest_more : IsStepped c ss f row made new steps.GoesOn → Rest f row answer final (n + 1) cs more new
    rest_more stepped =
        let s = stepped rest.schema.columns rest.places found rest.low in
        let grown : length (cells_at f row new) ≡ count_after c (length (cells_at f row made)) = s.grown refl in
        let places = lay c rest.schema.columns rest.places (length (cells_at f row made)) in
        record {
          schema = after c rest.schema;
          places = places;
          spots_are = ap tail_of rest.spots_are ∙ ap (λ k. spots_of (after c rest.schema) places k cs) (sym grown);
          low = subst (λ k. AllByRecursion (λ place. place < k) places) (sym grown) (low_after c rest.schema.columns (length (cells_at f row made)) rest.places rest.low);
          final_is = ap (λ k. lay_all (after c rest.schema) places k cs) grown ∙ rest.final_is;
          goes = ap (λ o. go_on o n (λ r. pass (n + 1) (after c rest.schema) cs r)) s.is ∙ rest.goes;
        }

    pub rest_ended : IsStepped c ss f row made new steps.Ends → Ok None ≡ answer
    rest_ended stepped =
        let s = stepped rest.schema.columns rest.places found rest.low in
        ap (λ o. go_on o n (λ r. pass (n + 1) (after c rest.schema) cs r)) s.is ∙ rest.goes

    pub rest_over : IsStepped c ss f row made new steps.Overflows → Err n ≡ answer
    rest_over stepped =
        let s = stepped rest.schema.columns rest.places found rest.low in
        ap (λ o. go_on o n (λ r. pass (n + 1) (after c rest.schema) cs r)) s.is ∙ rest.goes

  pub rest_none : (n : ℕ) (spots : List (List (Option ℕ))) (made : List CellRef) → Rest f row answer final n [] spots made → Ok (Some (row_lying f row made final)) ≡ answer
  rest_none n spots made rest = ap (λ places. Ok (Some (row_lying f row made places))) (sym rest.final_is) ∙ rest.goes

  -- the clauses from a place on
  module _ (first place : ℕ) (run : List Clause) (spots : List (List (Option ℕ))) (c : Clause) (ss : List (Option ℕ)) (made new : List CellRef) (done : Step)
      (rest : Rest f row answer final (first + place) (drop place run) (drop place spots) made) (clause : drop place run ≡ c ∷ drop (place + 1) run) (found : drop place spots ≡ ss ∷ drop (place + 1) spots)
      (stepped : IsStepped c ss f row made new done)
    where
      split : Rest f row answer final (first + place) (c ∷ drop (place + 1) run) (ss ∷ drop (place + 1) spots) made
      split = rw (← clause, ← found) rest

      pub more_at : done ≡ steps.GoesOn → Rest f row answer final (first + (place + 1)) (drop (place + 1) run) (drop (place + 1) spots) new
      more_at e =
          let next : first + place + 1 ≡ first + (place + 1) = omega arith in
          subst (λ n. Rest f row answer final n (drop (place + 1) run) (drop (place + 1) spots) new) next
          (rest_more (first + place) c (drop (place + 1) run) ss (drop (place + 1) spots) made new split (subst (IsStepped c ss f row made new) e stepped))

      pub ended_at : done ≡ steps.Ends → Ok None ≡ answer
      ended_at e = rest_ended (first + place) c (drop (place + 1) run) ss (drop (place + 1) spots) made new split (subst (IsStepped c ss f row made new) e stepped)

      pub over_at : done ≡ steps.Overflows → Err (first + place) ≡ answer
      over_at e = rest_over (first + place) c (drop (place + 1) run) ss (drop (place + 1) spots) made new split (subst (IsStepped c ss f row made new) e stepped)
