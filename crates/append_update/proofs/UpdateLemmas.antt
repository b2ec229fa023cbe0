-- The plan of an update makes the version that the one-thread library makes.
use Rattle.std.proofs.Common.{◌≡◌, ℕ, zero, suc, ◌+◌, ◌-◌, ◌*◌, ◌≤◌, max, ℤ, ◌≤ℤ◌, Bool, true, false, not, cond, List, [], ◌∷◌, ◌++◌, length, map, take, drop, refl, sym, ap, ◌∙◌, subst, arith, Option, Some, None}
use Rattle.std.specs.Prelude.{sum_by, fold, slice_range}
use Rattle.std.specs.List.{AllByRecursion}
use Rattle.std.proofs.lemmas.Bool.{true≢false, and_parts}
use Rattle.std.proofs.lemmas.Int.{ints}
use Rattle.std.proofs.lemmas.Nat.{mul-le}
use Rattle.std.proofs.lemmas.List.{length-drop, length-take}
use Rattle.std.proofs.lemmas.List.Sums.{sum_by-cons}
use Rattle.frame_core.specs.Ranges.{Range, InOrder, IsRange, is_below, is_above, is_within}
use Rattle.frame_core.specs.Schemas.{Schema}
use Rattle.frame_core.specs.Frames.{Row, Frame, FitsColumns, NeverFall, stamps_of, rows_below, rows_above, replace_range}
use Rattle.frame_core.specs.Limits.{IsStorable, all_text_bytes, longest_text, frame_too_large}
use Rattle.frame_core.proofs.FrameLimits.{fold_max_cons}
use Rattle.reply_model.specs.CommitAnswers.{outside}
use Rattle.append_update.specs.Sizes.{text_total}
use Rattle.append_update.proofs.ListLemmas.{take_all_of, drop_all_of}
use Rattle.append_update.proofs.RangeLemmas.{rising-slice}
use Rattle.append_update.proofs.FrameLemmas.{longest, within_to, frame_within, all-kept, all-passing, rising-kept, all-both, rising-both, ordered-by}

-- ---- rows of a place up to another

module _ (f : Row → ℕ) where
  sum-drop : (n : ℕ) (xs : List Row) → sum_by f (drop n xs) ≤ sum_by f xs
  sum-drop zero xs = omega arith
  sum-drop (suc n) [] = omega arith
  sum-drop (suc n) (x ∷ xs) = omega (arith, sum-drop n xs, sum_by-cons f x xs)

  sum-take : (n : ℕ) (xs : List Row) → sum_by f (take n xs) ≤ sum_by f xs
  sum-take zero xs = omega arith
  sum-take (suc n) [] = omega arith
  sum-take (suc n) (x ∷ xs) = omega (arith, sum-take n xs, sum_by-cons f x xs, sum_by-cons f x (take n xs))

  max-drop : (n : ℕ) (xs : List Row) → fold max 0 (map f (drop n xs)) ≤ fold max 0 (map f xs)
  max-drop zero xs = omega arith
  max-drop (suc n) [] = omega arith
  max-drop (suc n) (x ∷ xs) = omega (arith, max-drop n xs, fold_max_cons (f x) (map f xs))

  max-take : (n : ℕ) (xs : List Row) → fold max 0 (map f (take n xs)) ≤ fold max 0 (map f xs)
  max-take zero xs = omega arith
  max-take (suc n) [] = omega arith
  max-take (suc n) (x ∷ xs) = omega (arith, max-take n xs, fold_max_cons (f x) (map f xs), fold_max_cons (f x) (map f (take n xs)))

-- a part of a frame may be written where the whole may
pub storable-slice : (f : Frame) (from to : ℕ) → IsStorable f → IsStorable (record f { rows = slice_range f.rows from to })
storable-slice f from to s =
    let w = frame_within f s.within in
    let rows : List Row = slice_range f.rows from to in
    let few : length rows ≤ length f.rows = omega (arith, length-take (to - from) (drop from f.rows), length-drop from f.rows) in
    let one : longest rows ≤ longest f.rows = omega (arith, max-take (λ (r : Row). longest_text r.cells) (to - from) (drop from f.rows), max-drop (λ (r : Row). longest_text r.cells) from f.rows) in
    let all : text_total rows ≤ text_total f.rows = omega (arith, sum-take (λ (r : Row). all_text_bytes r.cells) (to - from) (drop from f.rows), sum-drop (λ (r : Row). all_text_bytes r.cells) from f.rows) in
    let cells : length rows * length f.schema.columns ≤ length f.rows * length f.schema.columns = mul-le (length rows) (length f.schema.columns) (length f.rows) (length f.schema.columns) few (omega arith) in
    record {
      is_frame = record {
        columns = s.is_frame.columns;
        ascending = rising-slice f.rows from to s.is_frame.ascending;
        fitting = take_all_of _ (to - from) (drop from f.rows) (drop_all_of _ from f.rows s.is_frame.fitting);
        untimed = λ e. take_all_of _ (to - from) (drop from f.rows) (drop_all_of _ from f.rows (s.is_frame.untimed e));
      };
      timed = s.timed;
      within = within_to (length rows) (length f.schema.columns) (longest rows) (text_total rows) (record {
        rows_are = omega (arith, few, w.rows_are);
        columns_are = w.columns_are;
        cells_are = omega (arith, cells, w.cells_are);
        one_is = omega (arith, one, w.one_is);
        all_are = omega (arith, all, w.all_are);
      });
    }

-- ---- the whole frame

below_is : (range : Range) (t u : ℤ) → is_below range t ≡ true → is_below range u ≡ false → t ≤ℤ u
below_is range t u low high = by range.from low high
  where
    by : (from : Option ℤ) → is_below (record range { from = from }) t ≡ true → is_below (record range { from = from }) u ≡ false → t ≤ℤ u
    by None e e' = absurd (true≢false (sym e))
    by (Some from) e e' = grind (arith, ints)

above_is : (range : Range) (t u : ℤ) → is_above range t ≡ false → is_above range u ≡ true → t ≤ℤ u
above_is range t u low high = by range.to low high
  where
    by : (to : Option ℤ) → is_above (record range { to = to }) t ≡ false → is_above (record range { to = to }) u ≡ true → t ≤ℤ u
    by None e e' = absurd (true≢false (sym e'))
    by (Some to) e e' = grind (arith, ints)

apart_is : (range : Range) (t u : ℤ) → IsRange range → is_below range t ≡ true → is_above range u ≡ true → t ≤ℤ u
apart_is range t u order low high = by range.from range.to order low high
  where
    by : (from to : Option ℤ) → InOrder from to → is_below (record range { from = from }) t ≡ true → is_above (record range { to = to }) u ≡ true → t ≤ℤ u
    by None to order e e' = absurd (true≢false (sym e))
    by (Some from) None order e e' = absurd (true≢false (sym e'))
    by (Some from) (Some to) order e e' = grind (arith, ints)

not_true : (b : Bool) → not b ≡ true → b ≡ false
not_true true e = absurd (true≢false (sym e))
not_true false e = refl

-- a stamp in the range lies neither below nor above it
inside : (range : Range) (t : ℤ) → is_within range t ≡ true → (is_below range t ≡ false) × (is_above range t ≡ false)
inside range t e = let parts = and_parts (not (is_below range t)) (not (is_above range t)) e in (not_true (is_below range t) parts.0, not_true (is_above range t) parts.1)

-- rows of which none lies outside lie in the range
pub all_within : (n : ℕ) (range : Range) (rows : List Row) → outside n range rows ≡ None → AllByRecursion (λ (r : Row). is_within range r.stamp ≡ true) rows
all_within n range [] e = tt
all_within n range (r ∷ rows) e = by (all_within (n + 1) range rows) (is_within range r.stamp) refl
  where
    by : (outside (n + 1) range rows ≡ None → AllByRecursion (λ (r : Row). is_within range r.stamp ≡ true) rows) → (b : Bool) → is_within range r.stamp ≡ b → AllByRecursion (λ (r : Row). is_within range r.stamp ≡ true) (r ∷ rows)
    by rest true here = (here, rest (sym (ap (λ b. cond b (outside (n + 1) range rows) (Some n)) here) ∙ e))
    by rest false there = absurd (clash (sym (ap (λ b. cond b (outside (n + 1) range rows) (Some n)) there) ∙ e))
      where
        clash : {x : ℕ} → Some x ≡ None → ⊥
        clash e = cc

-- the rows below the range, rows in it, and the rows above it rise
pub replaced_rising : (range : Range) (base new : List Row) → IsRange range → NeverFall (stamps_of base) → NeverFall (stamps_of new) → AllByRecursion (λ (r : Row). is_within range r.stamp ≡ true) new
    → NeverFall (stamps_of (replace_range range new base))
replaced_rising range base new order rising rising_new within =
    let low = all-passing (λ (r : Row). is_below range r.stamp) base in
    let high = all-passing (λ (r : Row). is_above range r.stamp) base in
    let below : List Row = rows_below range base in
    let above : List Row = rows_above range base in
    let first : NeverFall (stamps_of (below ++ new)) = rising-both below new (rising-kept (λ (r : Row). is_below range r.stamp) base rising) rising_new
    (ordered-by (λ (r : Row). is_below range r.stamp ≡ true) (λ (r : Row). is_within range r.stamp ≡ true) (λ x y a b. below_is range x.stamp y.stamp a (inside range y.stamp b).0) below new low within) in
    rising-both (below ++ new) above first (rising-kept (λ (r : Row). is_above range r.stamp) base rising)
    (all-both (λ (x : Row). AllByRecursion (λ (y : Row). x.stamp ≤ℤ y.stamp) above) below new
    (ordered-by (λ (r : Row). is_below range r.stamp ≡ true) (λ (r : Row). is_above range r.stamp ≡ true) (λ x y a b. apart_is range x.stamp y.stamp order a b) below above low high)
    (ordered-by (λ (r : Row). is_within range r.stamp ≡ true) (λ (r : Row). is_above range r.stamp ≡ true) (λ x y a b. above_is range x.stamp y.stamp (inside range x.stamp a).1 b) new above within high))

-- the whole frame of an update may be written
pub replaced_storable : (range : Range) (base frame : Frame) → IsRange range → IsStorable base → IsStorable frame → base.schema ≡ frame.schema → AllByRecursion (λ (r : Row). is_within range r.stamp ≡ true) frame.rows
    → frame_too_large (record frame { rows = replace_range range frame.rows base.rows }) ≡ None → IsStorable (record frame { rows = replace_range range frame.rows base.rows })
replaced_storable range base frame order b f same within small =
    let fits = subst (λ (s : Schema). AllByRecursion (FitsColumns s.columns) base.rows) same b.is_frame.fitting in
    record {
      is_frame = record {
        columns = f.is_frame.columns;
        ascending = replaced_rising range base.rows frame.rows order b.is_frame.ascending f.is_frame.ascending within;
        fitting = all-both (FitsColumns frame.schema.columns) (rows_below range base.rows ++ frame.rows) (rows_above range base.rows)
            (all-both (FitsColumns frame.schema.columns) (rows_below range base.rows) frame.rows (all-kept (λ (r : Row). is_below range r.stamp) (FitsColumns frame.schema.columns) base.rows fits) f.is_frame.fitting)
            (all-kept (λ (r : Row). is_above range r.stamp) (FitsColumns frame.schema.columns) base.rows fits);
        untimed = λ e. absurd (true≢false (sym f.timed ∙ e));
      };
      timed = f.timed;
      within = small;
    }
