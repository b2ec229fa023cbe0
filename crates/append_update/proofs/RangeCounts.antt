-- How many rows lie outside a range, by a row that does not.
use Rattle.std.proofs.Common.{◌≡◌, ℕ, zero, suc, ◌+◌, ℤ, ◌≤ℤ◌, ◌≤◌, Bool, true, false, not, List, [], ◌∷◌, length, take, drop, refl, sym, ap, ◌∙◌, subst, arith, cond, Some}
use Rattle.std.specs.Prelude.{count_by, filter}
use Rattle.std.proofs.lemmas.Bool.{true≢false}
use Rattle.std.proofs.lemmas.List.Sums.{length-filter, count_by-le-length}
use Rattle.frame_core.specs.Ranges.{Range, is_below, is_above}
use Rattle.frame_core.specs.Frames.{Row, NeverFall, stamps_of, first_stamp, last_stamp, rows_below, rows_above}
use Rattle.segment_cut.proofs.Lists.{count_by-cons}
use Rattle.append_update.proofs.RangeLemmas.{le_trans, above_behind, rising-later, none_below}

module _ (p : Row → Bool) where
  -- one row more is at most one more
  kept_one : (r : Row) (rows : List Row) → length (filter p (r ∷ rows)) ≤ suc (length (filter p rows))
  kept_one r rows = elim (p r) as (λ b. length (cond b (r ∷ filter p rows) (filter p rows)) ≤ suc (length (filter p rows))) [
    | true ↦ omega arith
    | false ↦ omega arith
  ]

  -- those that pass a test, and those that do not
  pub both_counted : (rows : List Row) → length (filter p rows) + count_by (λ r. not (p r)) rows ≡ length rows
  both_counted [] = refl
  both_counted (r ∷ rows) = by (both_counted rows) (p r) refl
    where
      by : length (filter p rows) + count_by (λ r. not (p r)) rows ≡ length rows → (b : Bool) → p r ≡ b → length (filter p (r ∷ rows)) + count_by (λ r. not (p r)) (r ∷ rows) ≡ suc (length rows)
      by rest b e =
          let first : length (filter p (r ∷ rows)) ≡ length (cond b (r ∷ filter p rows) (filter p rows)) = ap (λ x. length (cond x (r ∷ filter p rows) (filter p rows))) e in
          let second : count_by (λ r. not (p r)) (r ∷ rows) ≡ cond (not b) 1 0 + count_by (λ r. not (p r)) rows = count_by-cons (λ r. not (p r)) r rows ∙ ap (λ x. cond (not x) 1 0 + count_by (λ r. not (p r)) rows) e in
          one b first second
        where
          one : (b : Bool) → length (filter p (r ∷ rows)) ≡ length (cond b (r ∷ filter p rows) (filter p rows)) → count_by (λ r. not (p r)) (r ∷ rows) ≡ cond (not b) 1 0 + count_by (λ r. not (p r)) rows
              → length (filter p (r ∷ rows)) + count_by (λ r. not (p r)) (r ∷ rows) ≡ suc (length rows)
          one true f s = omega (arith, f, s, rest)
          one false f s = omega (arith, f, s, rest)

same_stamp : {a b : ℤ} → Some a ≡ Some b → a ≡ b
same_stamp e = cc

not_there : (b : Bool) → (b ≡ true → ⊥) → b ≡ false
not_there true none = absurd (none refl)
not_there false none = refl

-- ---- below a range

few_in : (range : Range) (q : ℕ) (rows : List Row) (t : ℤ) → NeverFall (stamps_of rows) → last_stamp (take q rows) ≡ Some t → is_below range t ≡ false → suc (length (rows_below range rows)) ≤ q
few_in range zero rows t rising e high = absurd cc
few_in range (suc q) [] t rising e high = absurd cc
few_in range (suc zero) (r ∷ rows) t rising e high = let none : length (rows_below range (r ∷ rows)) ≡ 0 = ap length (none_below range (r ∷ rows) t rising e high) in omega (arith, none)
few_in range (suc (suc q)) (r ∷ []) t rising e high = let none : length (rows_below range (r ∷ [])) ≡ 0 = ap length (none_below range (r ∷ []) t rising e high) in omega (arith, none)
few_in range (suc (suc q)) (r ∷ s ∷ rows) t rising e high =
    omega (arith, few_in range (suc q) (s ∷ rows) t rising.1 e high, kept_one (λ (x : Row). is_below range x.stamp) r (s ∷ rows))

-- where the last row of a part does not lie below the range, fewer rows do than there are up to it
pub few_below : (range : Range) (from q : ℕ) (rows : List Row) (t : ℤ) → NeverFall (stamps_of rows) → last_stamp (take q (drop from rows)) ≡ Some t → is_below range t ≡ false → suc (length (rows_below range rows)) ≤ from + q
few_below range zero q rows t rising e high = omega (arith, few_in range q rows t rising e high)
few_below range (suc from) zero [] t rising e high = absurd cc
few_below range (suc from) (suc q) [] t rising e high = absurd cc
few_below range (suc from) q (r ∷ rows) t rising e high =
    omega (arith, few_below range from q rows t (rising-later r rows rising) e high, kept_one (λ (x : Row). is_below range x.stamp) r rows)

-- ---- above a range

-- the first row of a later part has no lower stamp
rises_to : (r : Row) (from q : ℕ) (rows : List Row) (t : ℤ) → NeverFall (stamps_of (r ∷ rows)) → first_stamp (take q (drop from rows)) ≡ Some t → r.stamp ≤ℤ t
rises_to r from zero rows t rising e = absurd cc
rises_to r zero (suc q) [] t rising e = absurd cc
rises_to r zero (suc q) (s ∷ rows) t rising e = subst (λ x. r.stamp ≤ℤ x) (same_stamp e) rising.0
rises_to r (suc from) (suc q) [] t rising e = absurd cc
rises_to r (suc from) (suc q) (s ∷ rows) t rising e = le_trans r.stamp s.stamp t rising.0 (rises_to s from (suc q) rows t rising.1 e)

-- where the first row of a part does not lie above the range, it and those before it do not
pub few_above : (range : Range) (from q : ℕ) (rows : List Row) (t : ℤ) → NeverFall (stamps_of rows) → first_stamp (take q (drop from rows)) ≡ Some t → is_above range t ≡ false → length (rows_above range rows) + suc from ≤ length rows
few_above range from zero rows t rising e low = absurd cc
few_above range zero (suc q) [] t rising e low = absurd cc
few_above range (suc from) (suc q) [] t rising e low = absurd cc
few_above range zero (suc q) (r ∷ rows) t rising e low =
    let here : is_above range r.stamp ≡ false = ap (is_above range) (same_stamp e) ∙ low in
    let kept : length (rows_above range (r ∷ rows)) ≡ length (rows_above range rows) = ap (λ b. length (cond b (r ∷ rows_above range rows) (rows_above range rows))) here in
    omega (arith, kept, length-filter (λ (x : Row). is_above range x.stamp) rows, count_by-le-length (λ (x : Row). is_above range x.stamp) rows)
few_above range (suc from) (suc q) (r ∷ rows) t rising e low =
    let here : is_above range r.stamp ≡ false = not_there (is_above range r.stamp) (λ high. true≢false (sym (above_behind range r.stamp t (rises_to r from (suc q) rows t rising e) high) ∙ low)) in
    let kept : length (rows_above range (r ∷ rows)) ≡ length (rows_above range rows) = ap (λ b. length (cond b (r ∷ rows_above range rows) (rows_above range rows))) here in
    omega (arith, kept, few_above range from (suc q) rows t (rising-later r rows rising) e low)
