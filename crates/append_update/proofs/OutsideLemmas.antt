-- The range of an update, and the first row outside it.
use Rattle.std.proofs.Common.{◌≡◌, ℕ, zero, suc, ◌+◌, ◌≤◌, ℤ, ◌≤ℤ◌, true, false, List, [], ◌∷◌, length, drop, refl, sym, ap, ◌∙◌, subst, arith, Option, Some, None}
use Rattle.std.specs.Prelude.{slice_get, option_map}
use Rattle.std.specs.List.{AllByRecursion}
use Rattle.std.proofs.lemmas.Int.{ints}
use Rattle.std.proofs.lemmas.List.{drop_all}
use Rattle.frame_core.specs.Ranges.{Range, InOrder, is_within}
use Rattle.frame_core.specs.Frames.{Row, NeverFall, stamps_of, first_stamp, last_stamp}
use Rattle.reply_model.specs.CommitAnswers.{outside}
use Rattle.append_update.proofs.RangeLemmas.{le_trans, le_refl, up_to_last}

-- ---- a loop over the rows

some_same : {x y : ℤ} → Some x ≡ Some y → x ≡ y
some_same e = cc

none_some : {x : ℤ} → None ≡ Some x → ⊥
none_some e = cc

pub outside_here : (range : Range) (rows : List Row) (k n : ℕ) (t : ℤ) → option_map (λ (r : Row). r.stamp) (slice_get rows k) ≡ Some t → is_within range t ≡ false → outside n range (drop k rows) ≡ Some n
outside_here range [] k n t e out = absurd (none_some e)
outside_here range (r ∷ rows) zero n t e out = let here : is_within range r.stamp ≡ false = ap (is_within range) (some_same e) ∙ out in rw here refl
outside_here range (r ∷ rows) (suc k) n t e out = outside_here range rows k n t e out

pub outside_next : (range : Range) (rows : List Row) (k n : ℕ) (t : ℤ) → option_map (λ (r : Row). r.stamp) (slice_get rows k) ≡ Some t → is_within range t ≡ true → outside n range (drop k rows) ≡ outside (n + 1) range (drop (k + 1) rows)
outside_next range [] k n t e inn = absurd (none_some e)
outside_next range (r ∷ rows) zero n t e inn = let here : is_within range r.stamp ≡ true = ap (is_within range) (some_same e) ∙ inn in rw here refl
outside_next range (r ∷ rows) (suc k) n t e inn =
    let same : suc (k + 1) ≡ suc k + 1 = omega arith in
    outside_next range rows k n t e inn ∙ ap (λ m. outside (n + 1) range (drop m (r ∷ rows))) same

pub outside_end : (range : Range) (rows : List Row) (k n : ℕ) → length rows ≤ k → outside n range (drop k rows) ≡ None
outside_end range rows k n le = ap (outside n range) (drop_all k rows le)

-- ---- from the first to the last stamp

none_outside : (n : ℕ) (range : Range) (rows : List Row) → AllByRecursion (λ (r : Row). is_within range r.stamp ≡ true) rows → outside n range rows ≡ None
none_outside n range [] all = refl
none_outside n range (r ∷ rows) all = rw all.0 (none_outside (n + 1) range rows all.1)

within_ends : (first last t : ℤ) → first ≤ℤ t → t ≤ℤ last → is_within (record { from = Some first; to = Some last }) t ≡ true
within_ends first last t low high = grind (arith, ints)

span : (first last : ℤ) (rows : List Row) → NeverFall (first ∷ stamps_of rows) → last_stamp rows ≡ Some last → AllByRecursion (λ (r : Row). is_within (record { from = Some first; to = Some last }) r.stamp ≡ true) rows
span first last [] rising e = tt
span first last (r ∷ []) rising e = (within_ends first last r.stamp rising.0 (up_to_last r [] last tt e), tt)
span first last (r ∷ s ∷ rows) rising e =
    (within_ends first last r.stamp rising.0 (up_to_last r (s ∷ rows) last rising.1 e), span first last (s ∷ rows) (le_trans first r.stamp s.stamp rising.0 rising.1.0, rising.1.1) e)

last_some : (r : Row) (rows : List Row) → (last : ℤ) × (last_stamp (r ∷ rows) ≡ Some last)
last_some r [] = (r.stamp, refl)
last_some r (s ∷ rows) = last_some s rows

-- all rows lie there
pub whole_inside : (first : ℤ) (rows : List Row) → NeverFall (stamps_of rows) → first_stamp rows ≡ Some first → outside 1 (record { from = Some first; to = last_stamp rows }) rows ≡ None
whole_inside first [] rising e = refl
whole_inside first (r ∷ rows) rising e =
    let last = last_some r rows in
    let begin : r.stamp ≡ first = some_same e in
    subst (λ (o : Option ℤ). outside 1 (record { from = Some first; to = o }) (r ∷ rows) ≡ None) (sym last.1)
    (none_outside 1 (record { from = Some first; to = Some last.0 }) (r ∷ rows) (span first last.0 (r ∷ rows) (subst (λ t. NeverFall (t ∷ stamps_of (r ∷ rows))) begin (le_refl r.stamp, rising)) last.1))

-- and the ends stand in order
pub whole_ordered : (first : ℤ) (rows : List Row) → NeverFall (stamps_of rows) → first_stamp rows ≡ Some first → InOrder (Some first) (last_stamp rows)
whole_ordered first [] rising e = absurd (none_some e)
whole_ordered first (r ∷ rows) rising e =
    let last = last_some r rows in
    subst (InOrder (Some first)) (sym last.1) (subst (λ t. t ≤ℤ last.0) (some_same e) (up_to_last r rows last.0 rising last.1))
