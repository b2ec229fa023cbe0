-- The rows that come through a run, one after another.
use Rattle.std.proofs.Common.{◌≡◌, ℕ, zero, suc, ◌+◌, ◌<◌, ℤ, refl, ap, ap₂, sym, ◌∙◌, subst, arith, add-one}
use Rattle.std.specs.Prelude.{◌≤ℤ◌, pos, Bool, true, false, cond, List, [], ◌∷◌, ◌++◌, length, drop, slice_get, Option, Some, None, option_map, Result, Ok, Err, unwrap_or}
use Rattle.std.specs.List.{AllByRecursion, cons_option}
use Rattle.std.proofs.lemmas.Int.{ints}
use Rattle.std.proofs.lemmas.Bool.{true≢false}
use Rattle.frame_core.specs.declared.cell.ColType.{ColType}
use Rattle.frame_core.specs.declared.cell.ColType.TheVariants as types
use Rattle.frame_core.specs.declared.cell.CellRef.{CellRef}
use Rattle.frame_core.specs.declared.refusal.Refusal.{Refusal}
use Rattle.frame_core.specs.declared.refusal.Refusal.TheVariants as refusals
use Rattle.frame_core.specs.Ranges.{InOrder}
use Rattle.frame_core.specs.Schemas.{Schema}
use Rattle.frame_core.specs.Frames.{Row, Frame, IsFrame, NeverFall, stamps_of, last_stamp, stamp_at}
use Rattle.frame_core.specs.Making.{Making}
use Rattle.frame_core.specs.Selecting.{then_map}
use Rattle.expr_clause.specs.declared.clause.Clause.{Clause}
use Rattle.expr_clause.specs.declared.clause.Clause.TheVariants as clauses
use Rattle.expr_clause.specs.Exprs.{has_type, expr_type}
use Rattle.expr_clause.specs.Typing.{with_column, after}
use Rattle.expr_clause.specs.Asking.{pass, pass_rows, ends_run}
use Rattle.row_clauses.specs.Lying.{AreTyped, row_at, lying, cells_at, row_lying}
use Rattle.row_clauses.specs.declared.plan.Plan.{Plan}
use Rattle.row_clauses.specs.declared.passing.Passed.{Passed}
use Rattle.row_clauses.specs.declared.passing.Passed.TheVariants as ways
use Rattle.row_clauses.specs.Plans.{after_all, AllFit, IsPlan, is_plain}
use Rattle.row_clauses.specs.Passing.{outcome, IsPassed}
use Rattle.row_clauses.proofs.RowCells.{rows_from_place, stamp_there, typed_row}
use Rattle.row_clauses.proofs.RowLaws.{plain_parts, pass_stays}

-- a row stands at or after the last that came through
abbrev Follows : List Row → Row → Type 0
Follows rows r = InOrder (last_stamp rows) (Some r.stamp)

-- the rows that are left add to those so far what comes through of all
pub record Through (f : Frame) (schema : Schema) (way : Row → Result (Option Row) ℕ) (row : ℕ) (out : Making) : Type 0 where
  pub schema_is : out.schema ≡ schema
  pub begun : out.begun ≡ []
  pub rows : then_map (λ more. out.rows ++ more) (pass_rows way (row + 1) (drop row f.rows)) ≡ pass_rows way 1 f.rows
  pub follow : AllByRecursion (Follows out.rows) (drop row f.rows)
  pub rising : NeverFall (stamps_of (drop row f.rows))

same_result : (r : Result (List Row) Refusal) → then_map (λ more. more) r ≡ r
same_result (Ok x) = refl
same_result (Err e) = refl

all_follow : (rows : List Row) → AllByRecursion (Follows []) rows
all_follow [] = tt
all_follow (r ∷ rows) = (tt, all_follow rows)

pub through_first : (f : Frame) (schema : Schema) (way : Row → Result (Option Row) ℕ) (out : Making) → IsFrame f → out ≡ record { schema = schema; rows = []; begun = [] } → Through f schema way 0 out
through_first f schema way out is e = rw e (record { schema_is = refl; begun = refl; rows = same_result (pass_rows way 1 f.rows); follow = all_follow f.rows; rising = is.ascending })

-- ---- one row more

at_most : (a b c : ℤ) → a ≤ℤ b → b ≤ℤ c → a ≤ℤ c
at_most a b c h k = omega (arith, ints, h, k)

later : (t : ℤ) (rows : List Row) → NeverFall (t ∷ stamps_of rows) → AllByRecursion (λ (r : Row). t ≤ℤ r.stamp) rows
later t [] up = tt
later t (r ∷ rows) up = (up.0, below t r.stamp rows up.0 (later r.stamp rows up.1))
  where
    below : (t u : ℤ) (rows : List Row) → t ≤ℤ u → AllByRecursion (λ (r : Row). u ≤ℤ r.stamp) rows → AllByRecursion (λ (r : Row). t ≤ℤ r.stamp) rows
    below t u [] le all = tt
    below t u (s ∷ rows) le all = (at_most t u s.stamp le all.0, below t u rows le all.1)

last_pushed : (rows : List Row) (r : Row) → last_stamp (rows ++ r ∷ []) ≡ Some r.stamp
last_pushed [] r = refl
last_pushed (s ∷ []) r = refl
last_pushed (s ∷ u ∷ rows) r = last_pushed (u ∷ rows) r

follow_pushed : (out more : List Row) (r : Row) (t : ℤ) → r.stamp ≡ t → AllByRecursion (λ (s : Row). t ≤ℤ s.stamp) more → AllByRecursion (Follows (out ++ r ∷ [])) more
follow_pushed out [] r t e all = tt
follow_pushed out (s ∷ more) r t e all = (subst (λ o. InOrder o (Some s.stamp)) (sym (last_pushed out r ∙ ap Some e)) all.0, follow_pushed out more r t e all.1)

without_first : (t : ℤ) (ts : List ℤ) → NeverFall (t ∷ ts) → NeverFall ts
without_first t [] up = tt
without_first t (u ∷ ts) up = up.1

module _ (f : Frame) (schema : Schema) (way : Row → Result (Option Row) ℕ) (row : ℕ) (out : Making) (lt : row < length f.rows) (t : Through f schema way row out) where
  here : drop row f.rows ≡ row_at f row ∷ drop (row + 1) f.rows
  here = rows_from_place f.rows row lt ∙ ap (λ k. row_at f row ∷ drop k f.rows) (sym (add-one row))

  split : then_map (λ more. out.rows ++ more) (pass_rows way (row + 1) (row_at f row ∷ drop (row + 1) f.rows)) ≡ pass_rows way 1 f.rows
  split = subst (λ rows. then_map (λ more. out.rows ++ more) (pass_rows way (row + 1) rows) ≡ pass_rows way 1 f.rows) here t.rows

  follow_here : AllByRecursion (Follows out.rows) (row_at f row ∷ drop (row + 1) f.rows)
  follow_here = subst (AllByRecursion (Follows out.rows)) here t.follow

  rising_here : NeverFall ((row_at f row).stamp ∷ stamps_of (drop (row + 1) f.rows))
  rising_here = subst (λ rows. NeverFall (stamps_of rows)) here t.rising

  gave : (w : Result (Option Row) ℕ) → way (row_at f row) ≡ w
      → then_map (λ more. out.rows ++ more) (elim w [ Err clause ↦ Err (refusals.Overflow clause (row + 1)) | Ok kept ↦ then_map (cons_option kept) (pass_rows way (row + 1 + 1) (drop (row + 1) f.rows)) ]) ≡ pass_rows way 1 f.rows
  gave w e = subst (λ x. then_map (λ more. out.rows ++ more) (elim x [ Err clause ↦ Err (refusals.Overflow clause (row + 1)) | Ok kept ↦ then_map (cons_option kept) (pass_rows way (row + 1 + 1) (drop (row + 1) f.rows)) ]) ≡ pass_rows way 1 f.rows) e split

  -- the row ends
  pub through_ended : way (row_at f row) ≡ Ok None → Through f schema way (row + 1) out
  through_ended e = record {
    schema_is = t.schema_is;
    begun = t.begun;
    rows = plain (pass_rows way (row + 1 + 1) (drop (row + 1) f.rows)) ∙ gave (Ok None) e;
    follow = follow_here.1;
    rising = without_first (row_at f row).stamp (stamps_of (drop (row + 1) f.rows)) rising_here;
  }
    where
      plain : (p : Result (List Row) Refusal) → then_map (λ more. out.rows ++ more) p ≡ then_map (λ more. out.rows ++ more) (then_map (cons_option None) p)
      plain (Ok x) = refl
      plain (Err why) = refl

  -- the row comes through
  pub through_more : (r : Row) (new : Making) → way (row_at f row) ≡ Ok (Some r) → r.stamp ≡ (row_at f row).stamp → new ≡ record out { rows = out.rows ++ r ∷ [] } → Through f schema way (row + 1) new
  through_more r new e stamp_is new_is = rw new_is (record {
    schema_is = t.schema_is;
    begun = t.begun;
    rows = pushed (pass_rows way (row + 1 + 1) (drop (row + 1) f.rows)) ∙ gave (Ok (Some r)) e;
    follow = follow_pushed out.rows (drop (row + 1) f.rows) r (row_at f row).stamp stamp_is (later (row_at f row).stamp (drop (row + 1) f.rows) rising_here);
    rising = without_first (row_at f row).stamp (stamps_of (drop (row + 1) f.rows)) rising_here;
  })
    where
      assoc : (xs ys : List Row) → (xs ++ r ∷ []) ++ ys ≡ xs ++ r ∷ ys
      assoc [] ys = refl
      assoc (x ∷ xs) ys = ap (λ l. x ∷ l) (assoc xs ys)

      pushed : (p : Result (List Row) Refusal) → then_map (λ more. (out.rows ++ r ∷ []) ++ more) p ≡ then_map (λ more. out.rows ++ more) (then_map (cons_option (Some r)) p)
      pushed (Ok x) = ap Ok (assoc out.rows x)
      pushed (Err why) = refl

  -- the row fails
  pub through_over : (clause : ℕ) → way (row_at f row) ≡ Err clause → pass_rows way 1 f.rows ≡ Err (refusals.Overflow clause (row + 1))
  through_over clause e = sym (gave (Err clause) e)

  pub follows_last : InOrder (last_stamp out.rows) (stamp_at f row)
  follows_last = subst (InOrder (last_stamp out.rows)) (sym (stamp_there f row lt)) follow_here.0

-- the frame of these rows
abbrev pub made_frame : Schema → List Row → Frame
made_frame schema rows = record { schema = schema; rows = rows }

-- all rows are done
pub through_all : (f : Frame) (schema : Schema) (way : Row → Result (Option Row) ℕ) (row : ℕ) (out : Making) → drop row f.rows ≡ [] → Through f schema way row out
    → then_map (made_frame schema) (pass_rows way 1 f.rows) ≡ Ok (made_frame out.schema out.rows)
through_all f schema way row out none t =
    ap (then_map (made_frame schema)) (sym t.rows ∙ ap (λ rows. then_map (λ more. out.rows ++ more) (pass_rows way (row + 1) rows)) none ∙ ap Ok (none_more out.rows))
    ∙ ap (λ s. Ok (made_frame s out.rows)) (sym t.schema_is)
  where
    none_more : (xs : List Row) → xs ++ [] ≡ xs
    none_more [] = refl
    none_more (x ∷ xs) = ap (λ l. x ∷ l) (none_more xs)

-- ---- what the code tells of a row

module _ (f : Frame) (row first : ℕ) (run : List Clause) (plan : Plan) (spots : List (List (Option ℕ))) (made : List CellRef) (passed w : Passed)
    (is_frame : IsFrame f) (lt : row < length f.rows) (planned : IsPlan f.schema run plan) (spots_are : spots ≡ plan.spots) (is : IsPassed first run spots f row made passed) (told : passed ≡ w)
  where
    pub passed_is : outcome w (row_lying f row made plan.layout.items) ≡ pass first f.schema run (row_at f row)
    passed_is = ap₂ (λ p places. outcome p (row_lying f row made places)) (sym told) planned.layout ∙ is (spots_are ∙ planned.spots) (typed_row f row is_frame lt)

    -- a row that comes through is of the plan's schema
    pub passed_typed : is_plain run ≡ true → AllFit run f.schema → w ≡ ways.Through → AreTyped plan.schema.columns (lying (cells_at f row made) plan.layout.items)
    passed_typed plain fit through =
        subst (λ (s : Schema). AreTyped s.columns (lying (cells_at f row made) plan.layout.items)) (sym planned.schema)
        (pass_stays first run f.schema (row_at f row) (row_lying f row made plan.layout.items) plain fit
        (sym (ap (λ p. outcome p (row_lying f row made plan.layout.items)) (sym through) ∙ passed_is)) (typed_row f row is_frame lt))

-- ---- time

plain_timed : (c : Clause) (s : Schema) → ends_run c ≡ false → (after c s).timed ≡ s.timed
plain_timed (clauses.DateRange range) s e = refl
plain_timed (clauses.Filter x) s e = by (has_type types.Flag (expr_type s.columns x))
  where
    by : (b : Bool) → (unwrap_or (cond b (Some s) None) s).timed ≡ s.timed
    by true = refl
    by false = refl
plain_timed (clauses.Apply name x) s e = by (expr_type s.columns x)
  where
    by : (o : Option ColType) → (unwrap_or (option_map (λ kind. record s { columns = with_column name kind s.columns }) o) s).timed ≡ s.timed
    by None = refl
    by (Some kind) = refl
plain_timed (clauses.Group key outs) s e = absurd (true≢false e)

pub all_timed : (run : List Clause) (s : Schema) → is_plain run ≡ true → (after_all run s).timed ≡ s.timed
all_timed [] s plain = refl
all_timed (c ∷ cs) s plain = let parts = plain_parts c cs plain in all_timed cs (after c s) parts.1 ∙ plain_timed c s parts.0

pub zero_stamp : (f : Frame) (row : ℕ) → IsFrame f → row < length f.rows → f.schema.timed ≡ false → stamp_at f row ≡ Some (pos 0)
zero_stamp f row is lt e = stamp_there f row lt ∙ ap Some (at f.rows row (is.untimed e) lt)
  where
    at : (rows : List Row) (k : ℕ) → AllByRecursion (λ (r : Row). r.stamp ≡ pos 0) rows → k < length rows → (unwrap_or (slice_get rows k) (record { stamp = pos 0; cells = [] })).stamp ≡ pos 0
    at [] k all lt = absurd (omega (arith, lt))
    at (r ∷ rows) zero all lt = all.0
    at (r ∷ rows) (suc k) all lt = at rows k all.1 (omega (arith, lt))
