-- The cells of a row stay of their columns' types, clause by clause.
use Rattle.std.proofs.Common.{◌≡◌, ℕ, zero, suc, ◌+◌, refl, sym, subst}
use Rattle.std.specs.Prelude.{Bool, true, false, cond, List, [], ◌∷◌, ◌++◌, slice_set, Option, Some, None, option_map, Result, Ok}
use Rattle.std.specs.List.{AllZip}
use Rattle.std.proofs.lemmas.Bool.{true≢false}
use Rattle.frame_core.specs.declared.cell.ColType.{ColType}
use Rattle.frame_core.specs.declared.cell.ColType.TheVariants as types
use Rattle.frame_core.specs.declared.cell.Cell.{Cell}
use Rattle.frame_core.specs.Ranges.{is_within}
use Rattle.frame_core.specs.Schemas.{Head, Schema}
use Rattle.frame_core.specs.Frames.{Row, type_of}
use Rattle.frame_core.specs.Selecting.{place_of}
use Rattle.expr_clause.specs.declared.clause.Clause.{Clause}
use Rattle.expr_clause.specs.declared.clause.Clause.TheVariants as clauses
use Rattle.expr_clause.specs.Cells.{is_true}
use Rattle.expr_clause.specs.Exprs.{has_type, expr_type, value}
use Rattle.expr_clause.specs.Typing.{put_at, with_column, schema_after, after}
use Rattle.expr_clause.specs.Asking.{step, keep_if, go_on, pass, ends_run}
use Rattle.row_clauses.specs.Lying.{AreTyped}
use Rattle.row_clauses.specs.Plans.{after_all, AllFit, is_plain}
use Rattle.row_clauses.proofs.Results.{ok_is, err_ok, some_is, none_some}
use Rattle.row_clauses.proofs.Types.{value_fits}

-- ---- putting a cell at its place

module _ {A B : Type 0} (R : A → B → Type 0) where
  set_fits : (k : ℕ) (x : A) (y : B) (xs : List A) (ys : List B) → R x y → AllZip R xs ys → AllZip R (slice_set xs k x) (slice_set ys k y)
  set_fits k x y [] [] r all = tt
  set_fits k x y [] (b ∷ ys) r all = absurd all
  set_fits k x y (a ∷ xs) [] r all = absurd all
  set_fits zero x y (a ∷ xs) (b ∷ ys) r all = (r, all.1)
  set_fits (suc k) x y (a ∷ xs) (b ∷ ys) r all = (all.0, set_fits k x y xs ys r all.1)

  end_fits : (x : A) (y : B) (xs : List A) (ys : List B) → R x y → AllZip R xs ys → AllZip R (xs ++ x ∷ []) (ys ++ y ∷ [])
  end_fits x y [] [] r all = (r, tt)
  end_fits x y [] (b ∷ ys) r all = absurd all
  end_fits x y (a ∷ xs) [] r all = absurd all
  end_fits x y (a ∷ xs) (b ∷ ys) r all = (all.0, end_fits x y xs ys r all.1)

  pub put_fits : (o : Option ℕ) (x : A) (y : B) (xs : List A) (ys : List B) → R x y → AllZip R xs ys → AllZip R (put_at o x xs) (put_at o y ys)
  put_fits None x y xs ys r all = end_fits x y xs ys r all
  put_fits (Some k) x y xs ys r all = set_fits k x y xs ys r all

-- ---- a clause that ends no run

kept_is : (b : Bool) (row r : Row) → Some (keep_if b row) ≡ Some (Some r) → row ≡ r
kept_is true row r e = some_is row r (some_is (Some row) (Some r) e)
kept_is false row r e = none_some r (some_is None (Some r) e)

same_row : (s : Schema) (row r : Row) → row ≡ r → AreTyped s.columns row.cells → AreTyped s.columns r.cells
same_row s row r e all = subst (λ (x : Row). AreTyped s.columns x.cells) e all

step_stays : (c : Clause) (s t : Schema) (row r : Row) → ends_run c ≡ false → schema_after c s ≡ Some t → step c s.columns row ≡ Some (Some r) → AreTyped s.columns row.cells → AreTyped t.columns r.cells
step_stays (clauses.DateRange range) s t row r plain typed goes all =
    subst (λ (x : Schema). AreTyped x.columns r.cells) (some_is s t typed) (same_row s row r (kept_is (is_within range row.stamp) row r goes) all)
step_stays (clauses.Filter e) s t row r plain typed goes all = by (has_type types.Flag (expr_type s.columns e)) (value s.columns row.cells e) typed goes
  where
    by : (b : Bool) (v : Option Cell) → cond b (Some s) None ≡ Some t → option_map (λ c. keep_if (is_true c) row) v ≡ Some (Some r) → AreTyped t.columns r.cells
    by false v p q = none_some t p
    by true None p q = none_some (Some r) q
    by true (Some c) p q = subst (λ (x : Schema). AreTyped x.columns r.cells) (some_is s t p) (same_row s row r (kept_is (is_true c) row r q) all)
step_stays (clauses.Apply name e) s t row r plain typed goes all = by (expr_type s.columns e) (value s.columns row.cells e) refl refl typed goes
  where
    by : (k : Option ColType) (v : Option Cell) → expr_type s.columns e ≡ k → value s.columns row.cells e ≡ v
        → option_map (λ kind. record s { columns = with_column name kind s.columns }) k ≡ Some t
        → option_map (λ c. Some (record row { cells = put_at (place_of name s.columns) c row.cells })) v ≡ Some (Some r) → AreTyped t.columns r.cells
    by None v kind_is is p q = none_some t p
    by (Some kind) None kind_is is p q = none_some (Some r) q
    by (Some kind) (Some c) kind_is is p q =
        let new_row : Row = record row { cells = put_at (place_of name s.columns) c row.cells } in
        let new_schema : Schema = record s { columns = put_at (place_of name s.columns) (name, kind) s.columns } in
        subst (λ (x : Schema). AreTyped x.columns r.cells) (some_is new_schema t p)
        (same_row new_schema new_row r (some_is new_row r (some_is (Some new_row) (Some r) q))
        (put_fits (λ (h : Head) d. type_of d ≡ h.1) (place_of name s.columns) (name, kind) c s.columns row.cells (value_fits s.columns row.cells e kind c all kind_is is) all))
step_stays (clauses.Group key outs) s t row r plain typed goes all = absurd (true≢false plain)

-- one clause of a run, and what follows
went_on : (o : Option (Option Row)) (n : ℕ) (next : Row → Result (Option Row) ℕ) (r : Row) → go_on o n next ≡ Ok (Some r) → (m : Row) × (o ≡ Some (Some m)) × (next m ≡ Ok (Some r))
went_on None n next r e = err_ok n (Some r) e
went_on (Some None) n next r e = none_some r (ok_is None (Some r) e)
went_on (Some (Some m)) n next r e = (m, refl, e)

-- the first of clauses without a group is none, and those behind it have none
pub plain_parts : (c : Clause) (cs : List Clause) → is_plain (c ∷ cs) ≡ true → (ends_run c ≡ false) × (is_plain cs ≡ true)
plain_parts (clauses.DateRange range) cs e = (refl, e)
plain_parts (clauses.Filter x) cs e = (refl, e)
plain_parts (clauses.Apply name x) cs e = (refl, e)
plain_parts (clauses.Group key outs) cs e = absurd (true≢false (sym e))

-- a row that comes through is of the schema after the clauses
pub pass_stays : (n : ℕ) (run : List Clause) (s : Schema) (row r : Row) → is_plain run ≡ true → AllFit run s → pass n s run row ≡ Ok (Some r) → AreTyped s.columns row.cells → AreTyped (after_all run s).columns r.cells
pass_stays n [] s row r plain ok e all = same_row s row r (some_is row r (ok_is (Some row) (Some r) e)) all
pass_stays n (c ∷ cs) s row r plain ok e all =
    let w = went_on (step c s.columns row) n (λ m. pass (n + 1) (after c s) cs m) r e in
    let parts = plain_parts c cs plain in
    pass_stays (n + 1) cs (after c s) w.0 r parts.1 ok.2 w.2 (step_stays c s (after c s) row w.0 parts.0 ok.1 w.1 all)
