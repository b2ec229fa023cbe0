-- Rows in a range stand together, between those below it and those above it.
use Rattle.std.proofs.Common.{◌≡◌, ℕ, zero, suc, ◌+◌, ◌-◌, ℤ, ◌≤ℤ◌, Bool, true, false, not, min, List, [], ◌∷◌, length, take, drop, Option, Some, None, refl, sym, ap, ◌∙◌, arith}
use Rattle.std.specs.Prelude.{count_by, slice_range, int_lt}
use Rattle.std.specs.Option.{option_map_or}
use Rattle.std.proofs.lemmas.Int.{ints}
use Rattle.std.proofs.lemmas.List.{drop-drop}
use Rattle.frame_core.specs.Ranges.{Range, InOrder, IsRange, is_below, is_above}
use Rattle.frame_core.specs.Frames.{Row, NeverFall, stamps_of, rows_within}
use Rattle.segment_cut.proofs.Lists.{count_by-no, count_by-yes}
use Rattle.segment_cut.specs.Tiles.{Tile}
use Rattle.frame_read.specs.Gathers.{fresh}
use Rattle.frame_read.proofs.SliceLemmas.{not_below}

abbrev pub low : Range → List Row → ℕ
low range rows = count_by (is_below range) (stamps_of rows)

abbrev pub high : Range → List Row → ℕ
high range rows = count_by (λ t. not (is_above range t)) (stamps_of rows)

low_not_high : (from to : Option ℤ) (t : ℤ) → InOrder from to → option_map_or (λ x. int_lt t x) from false ≡ true → option_map_or (λ x. int_lt x t) to false ≡ false
low_not_high None to t order e = absurd cc
low_not_high (Some from) None t order e = refl
low_not_high (Some from) (Some to) t order e = grind (arith, ints)

above_too : (to : Option ℤ) (t u : ℤ) → t ≤ℤ u → option_map_or (λ x. int_lt x t) to false ≡ true → option_map_or (λ x. int_lt x u) to false ≡ true
above_too None t u le e = absurd cc
above_too (Some to) t u le e = grind (arith, ints)

not_true : (b : Bool) → not b ≡ true → b ≡ false
not_true true e = absurd cc
not_true false e = refl

later : (t : ℤ) (r : Row) (rows : List Row) → NeverFall (t ∷ stamps_of (r ∷ rows)) → (t ≤ℤ r.stamp) × NeverFall (r.stamp ∷ stamps_of rows)
later t r rows rising = rising

-- behind a stamp that is not below, none is
none_below : (range : Range) (t : ℤ) (rows : List Row) → NeverFall (t ∷ stamps_of rows) → is_below range t ≡ false → low range rows ≡ 0
none_below range t [] rising e = refl
none_below range t (r ∷ rows) rising e =
    let here : is_below range r.stamp ≡ false = not_true (is_below range r.stamp) (not_below range t r.stamp (later t r rows rising).0 (ap not e)) in
    count_by-no (is_below range) r.stamp (stamps_of rows) here ∙ none_below range r.stamp rows (later t r rows rising).1 here

-- behind a stamp that is above, all are
none_high : (range : Range) (t : ℤ) (rows : List Row) → NeverFall (t ∷ stamps_of rows) → is_above range t ≡ true → high range rows ≡ 0
none_high range t [] rising e = refl
none_high range t (r ∷ rows) rising e =
    let here : is_above range r.stamp ≡ true = above_too range.to t r.stamp (later t r rows rising).0 e in
    count_by-no (λ t. not (is_above range t)) r.stamp (stamps_of rows) (ap not here) ∙ none_high range r.stamp rows (later t r rows rising).1 here

one_more : (n : ℕ) → 1 + n ≡ suc n
one_more n = omega arith

rising-tail : (t : ℤ) (ts : List ℤ) → NeverFall (t ∷ ts) → NeverFall ts
rising-tail t [] rising = tt
rising-tail t (u ∷ ts) rising = rising.1

pub within_slice : (range : Range) (rows : List Row) → IsRange range → NeverFall (stamps_of rows) → rows_within range rows ≡ slice_range rows (low range rows) (high range rows)
within_slice range [] order rising = refl
within_slice range (r ∷ rows) order rising = by (is_below range r.stamp) refl (is_above range r.stamp) refl (within_slice range rows order (rising-tail r.stamp (stamps_of rows) rising))
  where
    by : (b : Bool) → is_below range r.stamp ≡ b → (a : Bool) → is_above range r.stamp ≡ a → rows_within range rows ≡ slice_range rows (low range rows) (high range rows) → rows_within range (r ∷ rows) ≡ slice_range (r ∷ rows) (low range (r ∷ rows)) (high range (r ∷ rows))
    by true e a e' rest =
        let not_above : is_above range r.stamp ≡ false = low_not_high range.from range.to r.stamp order e in
        let first : low range (r ∷ rows) ≡ suc (low range rows) = count_by-yes (is_below range) r.stamp (stamps_of rows) e ∙ one_more (low range rows) in
        let last : high range (r ∷ rows) ≡ suc (high range rows) = count_by-yes (λ t. not (is_above range t)) r.stamp (stamps_of rows) (ap not not_above) ∙ one_more (high range rows) in
        let out : rows_within range (r ∷ rows) ≡ rows_within range rows = rw e refl in
        let taken : suc (high range rows) - suc (low range rows) ≡ high range rows - low range rows = omega arith in
        out ∙ rest ∙ rw (first, last) (ap (λ n. take n (drop (low range rows) rows)) (sym taken))
    by false e true e' rest =
        let first : low range (r ∷ rows) ≡ 0 = count_by-no (is_below range) r.stamp (stamps_of rows) e ∙ none_below range r.stamp rows rising e in
        let last : high range (r ∷ rows) ≡ 0 = count_by-no (λ t. not (is_above range t)) r.stamp (stamps_of rows) (ap not e') ∙ none_high range r.stamp rows rising e' in
        let out : rows_within range (r ∷ rows) ≡ rows_within range rows = rw (e, e') refl in
        let a : low range rows ≡ 0 = none_below range r.stamp rows rising e in
        let b : high range rows ≡ 0 = none_high range r.stamp rows rising e' in
        out ∙ rest ∙ rw (first, last, a, b) refl
    by false e false e' rest =
        let first : low range (r ∷ rows) ≡ 0 = count_by-no (is_below range) r.stamp (stamps_of rows) e ∙ none_below range r.stamp rows rising e in
        let last : high range (r ∷ rows) ≡ suc (high range rows) = count_by-yes (λ t. not (is_above range t)) r.stamp (stamps_of rows) (ap not e') ∙ one_more (high range rows) in
        let in_it : rows_within range (r ∷ rows) ≡ r ∷ rows_within range rows = rw (e, e') refl in
        let a : low range rows ≡ 0 = none_below range r.stamp rows rising e in
        let taken : high range rows - 0 ≡ high range rows = omega arith in
        let all : suc (high range rows) - 0 ≡ suc (high range rows) = omega arith in
        let here : slice_range rows (low range rows) (high range rows) ≡ take (high range rows) rows = rw (a, taken) refl in
        let whole : slice_range (r ∷ rows) (low range (r ∷ rows)) (high range (r ∷ rows)) ≡ r ∷ take (high range rows) rows = rw (first, last, all) refl in
        in_it ∙ ap (λ (rs : List Row). r ∷ rs) (rest ∙ here) ∙ sym whole

-- ---- the rows of a tile beyond what is reached

stamps-drop : (n : ℕ) (rows : List Row) → stamps_of (drop n rows) ≡ drop n (stamps_of rows)
stamps-drop zero rows = refl
stamps-drop (suc n) [] = refl
stamps-drop (suc n) (r ∷ rows) = stamps-drop n rows

drop-min : (n : ℕ) (rows : List Row) → drop (min n (length rows)) rows ≡ drop n rows
drop-min zero rows = let none : min 0 (length rows) ≡ 0 = omega arith in rw none refl
drop-min (suc n) [] = let none : min (suc n) 0 ≡ 0 = omega arith in rw none refl
drop-min (suc n) (r ∷ rows) = let step : min (suc n) (suc (length rows)) ≡ suc (min n (length rows)) = omega arith in rw step (drop-min n rows)

pub rising-behind : (skip : ℕ) (rows : List Row) → NeverFall (stamps_of rows) → NeverFall (stamps_of (drop skip rows))
rising-behind zero rows rising = rising
rising-behind (suc n) [] rising = tt
rising-behind (suc n) (r ∷ rows) rising = rising-behind n rows (rising-tail r.stamp (stamps_of rows) rising)

pub fresh-slice : (range : Range) (reached : ℕ) (t : Tile) (skip first to last : ℕ) → IsRange range → NeverFall (stamps_of t.1.rows) → skip ≡ min (reached - t.0.first_row) (length t.1.rows)
    → first ≡ skip + count_by (is_below range) (drop skip (stamps_of t.1.rows)) → to ≡ skip + count_by (λ x. not (is_above range x)) (drop skip (stamps_of t.1.rows)) → last - first ≡ to - first
    → slice_range t.1.rows first last ≡ fresh range reached t
fresh-slice range reached t skip first to last order rising skip_is first_is to_is last_is =
    let rows = drop skip t.1.rows in
    let a : first ≡ skip + low range rows = first_is ∙ ap (λ (ts : List ℤ). skip + count_by (is_below range) ts) (sym (stamps-drop skip t.1.rows)) in
    let b : to ≡ skip + high range rows = to_is ∙ ap (λ (ts : List ℤ). skip + count_by (λ x. not (is_above range x)) ts) (sym (stamps-drop skip t.1.rows)) in
    let count : last - first ≡ high range rows - low range rows = omega (arith, last_is, a, b) in
    let start : drop skip t.1.rows ≡ drop (reached - t.0.first_row) t.1.rows = ap (λ n. drop n t.1.rows) skip_is ∙ drop-min (reached - t.0.first_row) t.1.rows in
    ap (λ n. take n (drop first t.1.rows)) count
    ∙ ap (λ n. take (high range rows - low range rows) (drop n t.1.rows)) a
    ∙ ap (take (high range rows - low range rows)) (sym (drop-drop (low range rows) skip t.1.rows))
    ∙ sym (within_slice range rows order (rising-behind skip t.1.rows rising))
    ∙ ap (rows_within range) start
