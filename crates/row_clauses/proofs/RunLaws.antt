-- Runs cut into clauses without a group, and groups.
use Rattle.std.proofs.Common.{◌≡◌, ℕ, suc, ◌+◌, ◌-◌, ◌<◌, ◌≤◌, take, drop, refl, ap, sym, ◌∙◌, subst, arith, length-append, inl, inr}
use Rattle.std.proofs.lemmas.List.{take-append-drop, drop-drop, length-take-le, length-drop}
use Rattle.std.specs.Prelude.{Bool, true, false, not, cond, List, [], ◌∷◌, ◌++◌, length, Option, Some, None, Result, Ok, Err, ◌⊎◌, ◌&&◌, unwrap_or, slice_range}
use Rattle.std.proofs.lemmas.Bool.{true≢false}
use Rattle.std.specs.List.{cons_option}
use Rattle.frame_core.specs.declared.refusal.Refusal.{Refusal}
use Rattle.frame_core.specs.declared.refusal.Refusal.TheVariants as refusals
use Rattle.frame_core.specs.Schemas.{Head, Schema}
use Rattle.frame_core.specs.Frames.{Row, Frame}
use Rattle.frame_core.specs.Selecting.{then_map}
use Rattle.expr_clause.specs.declared.clause.Clause.{Clause}
use Rattle.expr_clause.specs.declared.clause.Clause.TheVariants as clauses
use Rattle.expr_clause.specs.Typing.{after, check_clause, check_from, absent_from, clause_columns, schema_after, needs_time, if_typed}
use Rattle.expr_clause.specs.Asking.{◌then◌, step, go_on, pass, pass_rows, finish, ends_run, before_first, runs, end_run, run_frame, run_all}
use Rattle.frame_core.specs.RawFrames.{unless}
use Rattle.row_clauses.specs.Plans.{after_all, AllFit, is_plain, StartsRun, IsPart}
use Rattle.row_clauses.proofs.Results.{ok_is, err_ok}
use Rattle.row_clauses.proofs.RowLaws.{plain_parts}

-- ---- checked clauses fit

clause_fits : (n : ℕ) (c : Clause) (s t : Schema) → check_clause n c s ≡ Ok t → (absent_from 1 s.columns (clause_columns c) ≡ None) × (schema_after c s ≡ Some t)
clause_fits n c s t = by (absent_from 1 s.columns (clause_columns c)) (schema_after c s) (needs_time c && not s.timed)
  where
    by : (a : Option ℕ) (o : Option Schema) (b : Bool) → unless a (refusals.NoSuchColumn n) (if_typed n b o) ≡ Ok t → (a ≡ None) × (o ≡ Some t)
    by (Some k) o b e = err_ok (refusals.NoSuchColumn n k) t e
    by None None b e = err_ok (refusals.TypeMismatch n) t e
    by None (Some u) true e = err_ok (refusals.NotTimeIndexed n) t e
    by None (Some u) false e = (refl, ap Some (ok_is u t e))

pub all_fit : (n : ℕ) (list : List Clause) (s t : Schema) → check_from n list s ≡ Ok t → AllFit list s
all_fit n [] s t e = tt
all_fit n (c ∷ cs) s t e = by (check_clause n c s) refl e (λ u h. all_fit (n + 1) cs u t h)
  where
    by : (r : Result Schema Refusal) → check_clause n c s ≡ r → ◌≡◌ {A = Result Schema Refusal} (elim r [ Err why ↦ Err why | Ok u ↦ check_from (n + 1) cs u ]) (Ok t)
        → ((u : Schema) → check_from (n + 1) cs u ≡ Ok t → AllFit cs u) → AllFit (c ∷ cs) s
    by (Err why) is h later = err_ok why t h
    by (Ok u) is h later =
        let k = clause_fits n c s u is in
        let same : after c s ≡ u = ap (λ o. unwrap_or o s) k.1 in
        (k.0, k.1 ∙ ap Some (sym same), subst (AllFit cs) (sym same) (later u h))

-- clauses one after another
pub fit_parts : (xs ys : List Clause) (s : Schema) → AllFit (xs ++ ys) s → AllFit xs s × AllFit ys (after_all xs s)
fit_parts [] ys s all = (tt, all)
fit_parts (x ∷ xs) ys s all = let rest = fit_parts xs ys (after x s) all.2 in ((all.0, all.1, rest.0), rest.1)

-- ---- how a run ends

plain_finish : (n : ℕ) (c : Clause) (s : Schema) (rows : List Row) → ends_run c ≡ false → finish n c s rows ≡ Ok rows
plain_finish n (clauses.DateRange range) s rows e = refl
plain_finish n (clauses.Filter x) s rows e = refl
plain_finish n (clauses.Apply name x) s rows e = refl
plain_finish n (clauses.Group key outs) s rows e = absurd (true≢false e)

plain_end : (n : ℕ) (run : List Clause) (s : Schema) (rows : List Row) → is_plain run ≡ true → end_run n run s rows ≡ Ok (record { schema = after_all run s; rows = rows })
plain_end n [] s rows e = refl
plain_end n (c ∷ []) s rows e = ap (then_map (λ done. record { schema = after c s; rows = done })) (plain_finish n c s rows (plain_parts c [] e).0)
plain_end n (c ∷ d ∷ cs) s rows e = plain_end (n + 1) (d ∷ cs) (after c s) rows (plain_parts c (d ∷ cs) e).1

-- what clauses without a group make of a frame
pub plain_run : (n : ℕ) (run : List Clause) (f : Frame) → is_plain run ≡ true
    → run_frame n run f ≡ then_map (λ rows. record { schema = after_all run f.schema; rows = rows }) (pass_rows (pass n f.schema run) 1 f.rows)
plain_run n run f e = by (pass_rows (pass n f.schema run) 1 f.rows)
  where
    by : (r : Result (List Row) Refusal) → (r then λ rows. end_run n run f.schema rows) ≡ then_map (λ rows. record { schema = after_all run f.schema; rows = rows }) r
    by (Ok rows) = plain_end n run f.schema rows e
    by (Err why) = refl

-- the schema of what a run gives
end_schema : (n : ℕ) (c : Clause) (cs : List Clause) (s : Schema) (rows : List Row) (g : Frame) → end_run n (c ∷ cs) s rows ≡ Ok g → g.schema ≡ after_all (c ∷ cs) s
end_schema n c [] s rows g e = by (finish n c s rows) e
  where
    by : (r : Result (List Row) Refusal) → ◌≡◌ {A = Result Frame Refusal} (then_map (λ done. record { schema = after c s; rows = done }) r) (Ok g) → g.schema ≡ after c s
    by (Ok done) e = ap (λ (f : Frame). f.schema) (sym (ok_is (record { schema = after c s; rows = done }) g e))
    by (Err why) e = err_ok why g e
end_schema n c (d ∷ cs) s rows g e = end_schema (n + 1) d cs (after c s) rows g e

pub run_schema : (n : ℕ) (run : List Clause) (f g : Frame) → run_frame n run f ≡ Ok g → g.schema ≡ after_all run f.schema
run_schema n run f g e = by run (pass_rows (pass n f.schema run) 1 f.rows) e
  where
    by : (run : List Clause) (r : Result (List Row) Refusal) → ◌≡◌ {A = Result Frame Refusal} (r then λ rows. end_run n run f.schema rows) (Ok g) → g.schema ≡ after_all run f.schema
    by run (Err why) h = err_ok why g h
    by [] (Ok rows) h = ap (λ (x : Frame). x.schema) (sym (ok_is (record { schema = f.schema; rows = rows }) g h))
    by (c ∷ cs) (Ok rows) h = end_schema n c cs f.schema rows g h

-- ---- a run that a group ends is its first clauses, and then the group

group_passes : (c : Clause) (columns : List Head) (row : Row) → ends_run c ≡ true → step c columns row ≡ Some (Some row)
group_passes (clauses.DateRange range) columns row e = absurd (true≢false (sym e))
group_passes (clauses.Filter x) columns row e = absurd (true≢false (sym e))
group_passes (clauses.Apply name x) columns row e = absurd (true≢false (sym e))
group_passes (clauses.Group key outs) columns row e = refl

same_way : (o : Option (Option Row)) (n : ℕ) (p q : Row → Result (Option Row) ℕ) → ((r : Row) → p r ≡ q r) → go_on o n p ≡ go_on o n q
same_way None n p q e = refl
same_way (Some None) n p q e = refl
same_way (Some (Some r)) n p q e = e r

pass_before : (n : ℕ) (first : List Clause) (c : Clause) (s : Schema) (row : Row) → ends_run c ≡ true → pass n s (first ++ c ∷ []) row ≡ pass n s first row
pass_before n [] c s row e = ap (λ o. go_on o n (λ r. Ok (Some r))) (group_passes c s.columns row e)
pass_before n (d ∷ first) c s row e = same_way (step d s.columns row) n _ _ (λ r. pass_before (n + 1) first c (after d s) r e)

same_rows : (p q : Row → Result (Option Row) ℕ) (n : ℕ) (rows : List Row) → ((r : Row) → p r ≡ q r) → pass_rows p n rows ≡ pass_rows q n rows
same_rows p q n [] e = refl
same_rows p q n (row ∷ rows) e =
    ap (λ (w : Result (Option Row) ℕ). elim w [ Err clause ↦ Err (refusals.Overflow clause n) | Ok kept ↦ then_map (cons_option kept) (pass_rows p (n + 1) rows) ]) (e row)
    ∙ ap (λ (more : Result (List Row) Refusal). elim (q row) [ Err clause ↦ Err (refusals.Overflow clause n) | Ok kept ↦ then_map (cons_option kept) more ]) (same_rows p q (n + 1) rows e)

all_pass : (n : ℕ) (rows : List Row) → pass_rows (λ r. Ok (Some r)) n rows ≡ Ok rows
all_pass n [] = refl
all_pass n (row ∷ rows) = ap (then_map (cons_option (Some row))) (all_pass (n + 1) rows)

-- a group alone
alone : (n : ℕ) (c : Clause) (g : Frame) → ends_run c ≡ true → run_frame n (c ∷ []) g ≡ then_map (λ done. record { schema = after c g.schema; rows = done }) (finish n c g.schema g.rows)
alone n c g e =
    ap (λ r. r then λ rows. end_run n (c ∷ []) g.schema rows)
    (same_rows (pass n g.schema (c ∷ [])) (λ r. Ok (Some r)) 1 g.rows (λ r. pass_before n [] c g.schema r e) ∙ all_pass 1 g.rows)

pub group_alone : (n : ℕ) (c : Clause) (g : Frame) → ends_run c ≡ true → run_frame n (c ∷ []) g ≡ then_map (λ done. record { schema = after c g.schema; rows = done }) (finish n c g.schema g.rows)
group_alone = alone

one_more : (n : ℕ) (c d : Clause) (first : List Clause) (s : Schema) (rows : List Row) → end_run n (d ∷ (first ++ c ∷ [])) s rows ≡ end_run (n + 1) (first ++ c ∷ []) (after d s) rows
one_more n c d [] s rows = refl
one_more n c d (e ∷ first) s rows = refl

ended_by : (n : ℕ) (first : List Clause) (c : Clause) (s : Schema) (rows : List Row)
    → end_run n (first ++ c ∷ []) s rows ≡ then_map (λ done. record { schema = after c (after_all first s); rows = done }) (finish (n + length first) c (after_all first s) rows)
ended_by n [] c s rows = ap (λ m. then_map (λ done. record { schema = after c s; rows = done }) (finish m c s rows)) (omega arith)
ended_by n (d ∷ first) c s rows =
    one_more n c d first s rows ∙ ended_by (n + 1) first c (after d s) rows
    ∙ ap (λ m. then_map (λ done. record { schema = after c (after_all first (after d s)); rows = done }) (finish m c (after_all first (after d s)) rows)) (omega arith)

split_run : (n : ℕ) (first : List Clause) (c : Clause) (f : Frame) → is_plain first ≡ true → ends_run c ≡ true
    → run_frame n (first ++ c ∷ []) f ≡ (run_frame n first f then λ m. run_frame (n + length first) (c ∷ []) m)
split_run n first c f plain e =
    ap (λ r. r then λ rows. end_run n (first ++ c ∷ []) f.schema rows) (same_rows _ _ 1 f.rows (λ r. pass_before n first c f.schema r e))
    ∙ by (pass_rows (pass n f.schema first) 1 f.rows) ∙ ap (λ r. r then λ m. run_frame (n + length first) (c ∷ []) m) (sym (plain_run n first f plain))
  where
    by : (r : Result (List Row) Refusal) → (r then λ rows. end_run n (first ++ c ∷ []) f.schema rows)
        ≡ (then_map (λ rows. record { schema = after_all first f.schema; rows = rows }) r then λ m. run_frame (n + length first) (c ∷ []) m)
    by (Ok rows) = ended_by n first c f.schema rows ∙ sym (alone (n + length first) c (record { schema = after_all first f.schema; rows = rows }) e)
    by (Err why) = refl

-- ---- all runs

runs_after : (first : List Clause) (c : Clause) (more : List Clause) → is_plain first ≡ true → ends_run c ≡ true → runs (first ++ c ∷ more) ≡ (first ++ c ∷ []) ∷ runs more
runs_after [] c more plain e = ap (λ b. cond b ((c ∷ []) ∷ runs more) (before_first c (runs more))) e
runs_after (d ∷ first) c more plain e =
    let parts = plain_parts d first plain in
    ap (λ b. cond b ((d ∷ []) ∷ runs (first ++ c ∷ more)) (before_first d (runs (first ++ c ∷ more)))) parts.0 ∙ ap (before_first d) (runs_after first c more parts.1 e)

plain_runs : (c : Clause) (cs : List Clause) → is_plain (c ∷ cs) ≡ true → runs (c ∷ cs) ≡ (c ∷ cs) ∷ []
plain_runs c [] plain = ap (λ b. cond b ((c ∷ []) ∷ []) ((c ∷ []) ∷ [])) (plain_parts c [] plain).0
plain_runs c (d ∷ cs) plain =
    let parts = plain_parts c (d ∷ cs) plain in
    ap (λ b. cond b ((c ∷ []) ∷ runs (d ∷ cs)) (before_first c (runs (d ∷ cs)))) parts.0 ∙ ap (before_first c) (plain_runs d cs parts.1)

then_ok : (r : Result Frame Refusal) → (r then λ g. Ok g) ≡ r
then_ok (Ok g) = refl
then_ok (Err why) = refl

then_then : (r : Result Frame Refusal) (p q : Frame → Result Frame Refusal) → ((r then p) then q) ≡ (r then λ m. p m then q)
then_then (Ok g) p q = refl
then_then (Err why) p q = refl

group_first : (n : ℕ) (c : Clause) (more : List Clause) (f : Frame) → ends_run c ≡ true → run_all n (runs (c ∷ more)) f ≡ (run_frame n (c ∷ []) f then λ g. run_all (n + 1) (runs more) g)
group_first n c more f e = ap (λ b. run_all n (cond b ((c ∷ []) ∷ runs more) (before_first c (runs more))) f) e

plain_first : (n : ℕ) (c : Clause) (cs more : List Clause) (f : Frame) → is_plain (c ∷ cs) ≡ true → StartsRun more
    → run_all n (runs ((c ∷ cs) ++ more)) f ≡ (run_frame n (c ∷ cs) f then λ g. run_all (n + length (c ∷ cs)) (runs more) g)
plain_first n c cs [] f plain starts =
    ap (λ list. run_all n (runs list) f) (none_more (c ∷ cs)) ∙ ap (λ rs. run_all n rs f) (plain_runs c cs plain)
  where
    none_more : (xs : List Clause) → xs ++ [] ≡ xs
    none_more [] = refl
    none_more (x ∷ xs) = ap (λ l. x ∷ l) (none_more xs)
plain_first n c cs (d ∷ more) f plain starts =
    let first = c ∷ cs in
    ap (λ rs. run_all n rs f) (runs_after first d more plain starts)
    ∙ ap (λ r. r then λ g. run_all (n + length (first ++ d ∷ [])) (runs more) g) (split_run n first d f plain starts)
    ∙ then_then (run_frame n first f) (λ m. run_frame (n + length first) (d ∷ []) m) (λ g. run_all (n + length (first ++ d ∷ [])) (runs more) g)
    ∙ by (run_frame n first f)
  where
    count : n + length ((c ∷ cs) ++ d ∷ []) ≡ n + length (c ∷ cs) + 1
    count = ap (λ m. n + m) (length-append (c ∷ cs) (d ∷ [])) ∙ omega arith

    by : (r : Result Frame Refusal) → (r then λ m. run_frame (n + length (c ∷ cs)) (d ∷ []) m then λ g. run_all (n + length ((c ∷ cs) ++ d ∷ [])) (runs more) g)
        ≡ (r then λ g. run_all (n + length (c ∷ cs)) (runs (d ∷ more)) g)
    by (Ok m) = ap (λ k. run_frame (n + length (c ∷ cs)) (d ∷ []) m then λ g. run_all k (runs more) g) count ∙ sym (group_first (n + length (c ∷ cs)) d more m starts)
    by (Err why) = refl

-- clauses that go together, and then the others
pub part_first : (n : ℕ) (part more : List Clause) (f : Frame) → IsPart part more → run_all n (runs (part ++ more)) f ≡ (run_frame n part f then λ g. run_all (n + length part) (runs more) g)
part_first n [] more f is = absurd is.0
part_first n (c ∷ cs) more f is = by is.0
  where
    by : ((ends_run c ≡ true) × (cs ≡ [])) ⊎ (is_plain (c ∷ cs) ≡ true) → run_all n (runs ((c ∷ cs) ++ more)) f ≡ (run_frame n (c ∷ cs) f then λ g. run_all (n + length (c ∷ cs)) (runs more) g)
    by (inl group) = rw group.1 (group_first n c more f group.0)
    by (inr plain) = plain_first n c cs more f plain (is.1 plain)

-- ---- the clauses from a place on

cut_at : (xs : List Clause) (at end : ℕ) → at ≤ end → drop at xs ≡ slice_range xs at end ++ drop end xs
cut_at xs at end le =
    let far : at + (end - at) ≡ end = omega (arith, le) in
    sym (take-append-drop (end - at) (drop at xs)) ∙ ap (λ l. take (end - at) (drop at xs) ++ l) (drop-drop (end - at) at xs ∙ ap (λ n. drop n xs) far)

cut_length : (xs : List Clause) (at end : ℕ) → at ≤ end → end ≤ length xs → length (slice_range xs at end) ≡ end - at
cut_length xs at end le within = length-take-le (end - at) (drop at xs) (omega (arith, le, within, length-drop at xs))

module _ (xs : List Clause) (at end : ℕ) (le : at < end) (within : end ≤ length xs) where
  pub part_length : length (slice_range xs at end) ≡ end - at
  part_length = cut_length xs at end (omega (arith, le)) within

  pub part_fits : (s : Schema) → AllFit (drop at xs) s → AllFit (slice_range xs at end) s × AllFit (drop end xs) (after_all (slice_range xs at end) s)
  part_fits s fit = fit_parts (slice_range xs at end) (drop end xs) s (subst (λ l. AllFit l s) (cut_at xs at end (omega (arith, le))) fit)

  -- the part's frame, and the clauses behind it
  pub part_done : (f g : Frame) (total : Result Frame Refusal) → IsPart (slice_range xs at end) (drop end xs) → run_all (at + 1) (runs (drop at xs)) f ≡ total
      → run_frame (at + 1) (slice_range xs at end) f ≡ Ok g → run_all (end + 1) (runs (drop end xs)) g ≡ total
  part_done f g total part all is =
      let part_of = slice_range xs at end in
      let far : at + 1 + length part_of ≡ end + 1 = omega (arith, le, part_length) in
      ap (λ n. run_all n (runs (drop end xs)) g) (sym far)
      ∙ sym (ap (λ l. run_all (at + 1) (runs l) f) (cut_at xs at end (omega (arith, le))) ∙ part_first (at + 1) part_of (drop end xs) f part ∙ ap (λ r. r then λ m. run_all (at + 1 + length part_of) (runs (drop end xs)) m) is)
      ∙ all

  pub part_schema : (f g : Frame) → AllFit (drop at xs) f.schema → run_frame (at + 1) (slice_range xs at end) f ≡ Ok g → AllFit (drop end xs) g.schema
  part_schema f g fit is = subst (AllFit (drop end xs)) (sym (run_schema (at + 1) (slice_range xs at end) f g is)) (part_fits f.schema fit).1

  -- the part is refused
  pub part_refused : (f : Frame) (total : Result Frame Refusal) (why : Refusal) → IsPart (slice_range xs at end) (drop end xs) → run_all (at + 1) (runs (drop at xs)) f ≡ total
      → run_frame (at + 1) (slice_range xs at end) f ≡ Err why → total ≡ Err why
  part_refused f total why part all is =
      let part_of = slice_range xs at end in
      sym all ∙ ap (λ l. run_all (at + 1) (runs l) f) (cut_at xs at end (omega (arith, le))) ∙ part_first (at + 1) part_of (drop end xs) f part
      ∙ ap (λ r. r then λ m. run_all (at + 1 + length part_of) (runs (drop end xs)) m) is

-- ---- where a part ends

plain_more : (c : Clause) (cs : List Clause) → ends_run c ≡ false → is_plain cs ≡ true → is_plain (c ∷ cs) ≡ true
plain_more (clauses.DateRange range) cs e plain = plain
plain_more (clauses.Filter x) cs e plain = plain
plain_more (clauses.Apply name x) cs e plain = plain
plain_more (clauses.Group key outs) cs e plain = absurd (true≢false e)

plain_push : (xs : List Clause) (c : Clause) → is_plain xs ≡ true → ends_run c ≡ false → is_plain (xs ++ c ∷ []) ≡ true
plain_push [] c plain e = plain_more c [] e refl
plain_push (x ∷ xs) c plain e = let parts = plain_parts x xs plain in plain_more x (xs ++ c ∷ []) parts.0 (plain_push xs c parts.1 e)

take_one : (front : List Clause) (c : Clause) (back : List Clause) → take (suc (length front)) (front ++ c ∷ back) ≡ front ++ c ∷ []
take_one [] c back = refl
take_one (x ∷ front) c back = ap (λ l. x ∷ l) (take_one front c back)

-- one clause more without a group
pub plain_one : (xs : List Clause) (at place : ℕ) (c : Clause) → at ≤ place → place < length xs → drop place xs ≡ c ∷ drop (place + 1) xs → ends_run c ≡ false
    → is_plain (slice_range xs at place) ≡ true → is_plain (slice_range xs at (place + 1)) ≡ true
plain_one xs at place c le lt here e plain =
    let front = slice_range xs at place in
    let count : place + 1 - at ≡ suc (length front) = omega (arith, le, cut_length xs at place le (omega (arith, lt))) in
    let same : slice_range xs at (place + 1) ≡ front ++ c ∷ [] =
    ap (λ n. take n (drop at xs)) count ∙ ap (take (suc (length front))) (cut_at xs at place le ∙ ap (λ l. front ++ l) here) ∙ take_one front c (drop (place + 1) xs) in
    ap is_plain same ∙ plain_push front c plain e
