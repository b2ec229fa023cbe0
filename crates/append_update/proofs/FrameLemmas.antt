-- Frames whose rows are some of a frame's, and rows of two frames.
use Rattle.std.proofs.Common.{◌≡◌, ℕ, ◌+◌, ◌*◌, ◌≤◌, max, ℤ, ◌≤ℤ◌, Bool, true, false, List, [], ◌∷◌, ◌++◌, length, map, None, refl, ap, ◌∙◌, arith}
use Rattle.std.specs.Prelude.{fold, filter}
use Rattle.std.specs.List.{AllByRecursion}
use Rattle.std.proofs.lemmas.Int.{ints}
use Rattle.std.proofs.lemmas.Nat.{mul-le}
use Rattle.std.proofs.lemmas.List.{map-append}
use Rattle.std.proofs.lemmas.List.Sums.{sum_by-cons, sum_by-append, length-filter, count_by-le-length}
use Rattle.frame_core.specs.Frames.{Row, Frame, NeverFall, stamps_of}
use Rattle.frame_core.specs.Limits.{all_text_bytes, longest_text, too_large, frame_too_large, IsStorable}
use Rattle.frame_core.proofs.FrameLimits.{fold_max_cons, fold_max-append}
use Rattle.append_update.specs.Sizes.{text_total}

-- ---- how large rows are

-- the bytes of their longest text
abbrev pub longest : List Row → ℕ
longest rows = fold max 0 (map (λ (r : Row). longest_text r.cells) rows)

-- numbers within the limits
pub record IsWithin (rows columns one all : ℕ) : Type 0 where
  pub rows_are : rows ≤ 2000000
  pub columns_are : columns ≤ 4096
  pub cells_are : rows * columns ≤ 8000000
  pub one_is : one ≤ 65535
  pub all_are : all ≤ 67108864

pub within_from : (r c o a : ℕ) → too_large r c o a ≡ None → IsWithin r c o a
within_from r c o a e = record { rows_are = grind arith; columns_are = grind arith; cells_are = grind arith; one_is = grind arith; all_are = grind arith }

pub within_to : (r c o a : ℕ) → IsWithin r c o a → too_large r c o a ≡ None
within_to r c o a w = grind (arith, w.rows_are, w.columns_are, w.cells_are, w.one_is, w.all_are)

pub frame_within : (f : Frame) → frame_too_large f ≡ None → IsWithin (length f.rows) (length f.schema.columns) (longest f.rows) (text_total f.rows)
frame_within f e = within_from (length f.rows) (length f.schema.columns) (longest f.rows) (text_total f.rows) e

pub longest-append : (xs ys : List Row) → longest (xs ++ ys) ≡ max (longest xs) (longest ys)
longest-append xs ys = ap (fold max 0) (map-append (λ (r : Row). longest_text r.cells) xs ys) ∙ fold_max-append (map (λ (r : Row). longest_text r.cells) xs) (map (λ (r : Row). longest_text r.cells) ys)

pub text_total-append : (xs ys : List Row) → text_total (xs ++ ys) ≡ text_total xs + text_total ys
text_total-append xs ys = sum_by-append (λ (r : Row). all_text_bytes r.cells) xs ys

-- some of the rows
module _ (p : Row → Bool) where
  pub longest-kept : (rows : List Row) → longest (filter p rows) ≤ longest rows
  longest-kept [] = omega arith
  longest-kept (r ∷ rows) = by (longest-kept rows) (p r) refl
    where
      by : longest (filter p rows) ≤ longest rows → (b : Bool) → p r ≡ b → longest (filter p (r ∷ rows)) ≤ longest (r ∷ rows)
      by rest true e =
          rw e (omega (
            arith,
            rest,
            fold_max_cons (longest_text r.cells) (map (λ (r : Row). longest_text r.cells) rows),
            fold_max_cons (longest_text r.cells) (map (λ (r : Row). longest_text r.cells) (filter p rows)),
          ))
      by rest false e = rw e (omega (arith, rest, fold_max_cons (longest_text r.cells) (map (λ (r : Row). longest_text r.cells) rows)))

  pub text_total-kept : (rows : List Row) → text_total (filter p rows) ≤ text_total rows
  text_total-kept [] = omega arith
  text_total-kept (r ∷ rows) = by (text_total-kept rows) (p r) refl
    where
      by : text_total (filter p rows) ≤ text_total rows → (b : Bool) → p r ≡ b → text_total (filter p (r ∷ rows)) ≤ text_total (r ∷ rows)
      by rest true e = rw e (omega (arith, rest, sum_by-cons (λ (r : Row). all_text_bytes r.cells) r rows, sum_by-cons (λ (r : Row). all_text_bytes r.cells) r (filter p rows)))
      by rest false e = rw e (omega (arith, rest, sum_by-cons (λ (r : Row). all_text_bytes r.cells) r rows))

  pub length-kept : (rows : List Row) → length (filter p rows) ≤ length rows
  length-kept rows = omega (arith, length-filter p rows, count_by-le-length p rows)

  pub all-kept : (P : Row → Type 0) (rows : List Row) → AllByRecursion P rows → AllByRecursion P (filter p rows)
  all-kept P [] all = tt
  all-kept P (r ∷ rows) all = by (all-kept P rows all.1) (p r) refl
    where
      by : AllByRecursion P (filter p rows) → (b : Bool) → p r ≡ b → AllByRecursion P (filter p (r ∷ rows))
      by rest true e = rw e (all.0, rest)
      by rest false e = rw e rest

  -- those that pass the test pass it
  pub all-passing : (rows : List Row) → AllByRecursion (λ r. p r ≡ true) (filter p rows)
  all-passing [] = tt
  all-passing (r ∷ rows) = by (all-passing rows) (p r) refl
    where
      by : AllByRecursion (λ r. p r ≡ true) (filter p rows) → (b : Bool) → p r ≡ b → AllByRecursion (λ r. p r ≡ true) (filter p (r ∷ rows))
      by rest true e = rw e (e, rest)
      by rest false e = rw e rest

  kept_behind : (t : ℤ) (rows : List Row) → NeverFall (t ∷ stamps_of rows) → NeverFall (t ∷ stamps_of (filter p rows))
  kept_behind t [] rising = tt
  kept_behind t (r ∷ rows) rising = by (λ u at. kept_behind u rows at) (p r) refl
    where
      by : ((u : ℤ) → NeverFall (u ∷ stamps_of rows) → NeverFall (u ∷ stamps_of (filter p rows))) → (b : Bool) → p r ≡ b → NeverFall (t ∷ stamps_of (filter p (r ∷ rows)))
      by rest true e = rw e (rising.0, rest r.stamp rising.1)
      by rest false e = rw e (rest t (earlier t r.stamp rows rising.0 rising.1))
        where
          earlier : (t u : ℤ) (rows : List Row) → t ≤ℤ u → NeverFall (u ∷ stamps_of rows) → NeverFall (t ∷ stamps_of rows)
          earlier t u [] le rising = tt
          earlier t u (s ∷ rows) le rising = (trans t u s.stamp le rising.0, rising.1)
            where
              trans : (a b c : ℤ) → a ≤ℤ b → b ≤ℤ c → a ≤ℤ c
              trans a b c ab bc = grind (arith, ints)

  pub rising-kept : (rows : List Row) → NeverFall (stamps_of rows) → NeverFall (stamps_of (filter p rows))
  rising-kept [] rising = tt
  rising-kept (r ∷ rows) rising = by (rising-kept rows (later rows rising)) (p r) refl
    where
      later : (rows : List Row) → NeverFall (r.stamp ∷ stamps_of rows) → NeverFall (stamps_of rows)
      later [] rising = tt
      later (s ∷ rows) rising = rising.1

      by : NeverFall (stamps_of (filter p rows)) → (b : Bool) → p r ≡ b → NeverFall (stamps_of (filter p (r ∷ rows)))
      by rest true e = rw e (kept_behind r.stamp rows rising)
      by rest false e = rw e rest

  -- a frame of some of the rows may be written where the whole may
  pub storable-kept : (f : Frame) → IsStorable f → IsStorable (record f { rows = filter p f.rows })
  storable-kept f s =
      let w = frame_within f s.within in
      let few = length-kept f.rows in
      let one = longest-kept f.rows in
      let all = text_total-kept f.rows in
      let cells : length (filter p f.rows) * length f.schema.columns ≤ length f.rows * length f.schema.columns =
      mul-le (length (filter p f.rows)) (length f.schema.columns) (length f.rows) (length f.schema.columns) few (omega arith) in
      record {
        is_frame = record {
          columns = s.is_frame.columns;
          ascending = rising-kept f.rows s.is_frame.ascending;
          fitting = all-kept _ f.rows s.is_frame.fitting;
          untimed = λ e. all-kept _ f.rows (s.is_frame.untimed e);
        };
        timed = s.timed;
        within = within_to (length (filter p f.rows)) (length f.schema.columns) (longest (filter p f.rows)) (text_total (filter p f.rows)) (record {
          rows_are = omega (arith, few, w.rows_are);
          columns_are = w.columns_are;
          cells_are = omega (arith, cells, w.cells_are);
          one_is = omega (arith, one, w.one_is);
          all_are = omega (arith, all, w.all_are);
        });
      }

-- ---- rows behind rows

pub all-both : {X : Type 0} (P : X → Type 0) (xs ys : List X) → AllByRecursion P xs → AllByRecursion P ys → AllByRecursion P (xs ++ ys)
all-both P [] ys first more = more
all-both P (x ∷ xs) ys first more = (first.0, all-both P xs ys first.1 more)

-- none of the others lies below any of the first
abbrev pub Ordered : List Row → List Row → Type 0
Ordered xs ys = AllByRecursion (λ (x : Row). AllByRecursion (λ (y : Row). x.stamp ≤ℤ y.stamp) ys) xs

pub rising-both : (xs ys : List Row) → NeverFall (stamps_of xs) → NeverFall (stamps_of ys) → Ordered xs ys → NeverFall (stamps_of (xs ++ ys))
rising-both [] ys first more order = more
rising-both (x ∷ []) [] first more order = tt
rising-both (x ∷ []) (y ∷ ys) first more order = (order.0.0, more)
rising-both (x ∷ z ∷ xs) ys first more order = (first.0, rising-both (z ∷ xs) ys first.1 more order.1)

pub ordered-by : (P Q : Row → Type 0) → ((x y : Row) → P x → Q y → x.stamp ≤ℤ y.stamp) → (xs ys : List Row) → AllByRecursion P xs → AllByRecursion Q ys → Ordered xs ys
ordered-by P Q le [] ys first more = tt
ordered-by P Q le (x ∷ xs) ys first more = (each ys more, ordered-by P Q le xs ys first.1 more)
  where
    each : (ys : List Row) → AllByRecursion Q ys → AllByRecursion (λ (y : Row). x.stamp ≤ℤ y.stamp) ys
    each [] more = tt
    each (y ∷ ys) more = (le x y first.0 more.0, each ys more.1)
