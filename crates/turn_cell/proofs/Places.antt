-- What stands at a place of a list.
use Rattle.std.proofs.Common.{◌≡◌, ◌≢◌, ℕ, zero, suc, ◌+◌, ◌<◌, ◌⊎◌, List, [], ◌∷◌, ◌++◌, length, set, drop, sym, refl, ap, ◌∙◌, inl, inr, ⊎_elim, arith, subst}
use Rattle.std.specs.Prelude.{All, Some, slice_get}
use mathlib.Core.Option.{some, some-injective, some-ne-none}
use lib.ListN.{get_elem?}
use Rattle.atomic_table.proofs.Lists.{at_set}

module _ {A : Type 0} where
  pub at_below : (xs : List A) (k : ℕ) (e : A) → get_elem? xs k ≡ some e → k < length xs
  at_below [] k e at = absurd (some-ne-none e (sym at))
  at_below (x ∷ xs) zero e at = omega arith
  at_below (x ∷ xs) (suc k) e at = let h = at_below xs k e at in omega arith

  pub at_some : (xs : List A) (k : ℕ) → k < length xs → (e : A) × (get_elem? xs k ≡ some e)
  at_some [] k h = absurd (omega arith)
  at_some (x ∷ xs) zero h = (x, refl)
  at_some (x ∷ xs) (suc k) h = at_some xs k (omega arith)

  pub one_at : (xs : List A) (i j : ℕ) (a b : A) → i ≡ j → get_elem? xs i ≡ some a → get_elem? xs j ≡ some b → a ≡ b
  one_at xs i j a b e p q = some-injective a b (sym p ∙ (ap (get_elem? xs) e ∙ q))

  -- the last one, with its place
  pub at_end : (xs : List A) (a b : A) (j : ℕ) → get_elem? (xs ++ a ∷ []) j ≡ some b → (get_elem? xs j ≡ some b) ⊎ ((j ≡ length xs) × (a ≡ b))
  at_end [] a b zero e = inr (refl, some-injective a b e)
  at_end [] a b (suc j) e = absurd (some-ne-none b (sym e))
  at_end (x ∷ xs) a b zero e = inl e
  at_end (x ∷ xs) a b (suc j) e = ⊎_elim (λ p. inl p) (λ t. inr (ap suc t.0, t.1)) (at_end xs a b j e)

  -- what holds of each element, after one has changed
  pub each_set : (P : ℕ → A → Type 0) (xs : List A) (i : ℕ) (w : A) → P i w → ((j : ℕ) (u : A) → j ≢ i → get_elem? xs j ≡ some u → P j u) → (j : ℕ) (u : A) → get_elem? (set xs i w) j ≡ some u → P j u
  each_set P xs i w mine others j u e = ⊎_elim (λ (t : (j ≡ i) × (w ≡ u)). subst (λ (x : ℕ × A). P x.0 x.1) (λ k. (sym t.0 k, t.1 k)) mine)
      (λ (t : (j ≢ i) × (get_elem? xs j ≡ some u)). others j u t.0 t.1) (at_set xs i j w u e)

  -- what holds at each place holds of each element
  pub all_at : (P : A → Type 0) (xs : List A) → ((k : ℕ) (e : A) → get_elem? xs k ≡ some e → P e) → All P xs
  all_at P [] h k d lt = absurd (omega arith)
  all_at P (x ∷ xs) h zero d lt = h 0 x refl
  all_at P (x ∷ xs) h (suc k) d lt = all_at P xs (λ j e at. h (suc j) e at) k d (omega arith)

  -- and the other way round
  pub at_all : (P : A → Type 0) (xs : List A) → All P xs → (k : ℕ) (e : A) → get_elem? xs k ≡ some e → P e
  at_all P [] h k e at = absurd (some-ne-none e (sym at))
  at_all P (x ∷ xs) h zero e at = subst P (some-injective x e at) (h 0 x (omega arith))
  at_all P (x ∷ xs) h (suc k) e at = at_all P xs (λ j d lt. h (suc j) d (omega arith)) k e at

  -- an element after the first n
  pub at_drop : (n : ℕ) (xs : List A) (k : ℕ) (e : A) → get_elem? (drop n xs) k ≡ some e → get_elem? xs (n + k) ≡ some e
  at_drop zero xs k e at = subst (λ (j : ℕ). get_elem? xs j ≡ some e) (let z : k ≡ 0 + k = omega arith in z) at
  at_drop (suc n) [] k e at = absurd (some-ne-none e (sym at))
  at_drop (suc n) (x ∷ xs) k e at = subst (λ (j : ℕ). get_elem? (x ∷ xs) j ≡ some e) (let z : suc (n + k) ≡ suc n + k = omega arith in z) (at_drop n xs k e at)

  -- the two ways to say that an element stands at a place
  pub slice_get_of : (xs : List A) (k : ℕ) (e : A) → get_elem? xs k ≡ some e → slice_get xs k ≡ Some e
  slice_get_of [] k e at = absurd (some-ne-none e (sym at))
  slice_get_of (x ∷ xs) zero e at = ap Some (some-injective x e at)
  slice_get_of (x ∷ xs) (suc k) e at = slice_get_of xs k e at

  pub at_slice_get : (xs : List A) (k : ℕ) (e : A) → slice_get xs k ≡ Some e → get_elem? xs k ≡ some e
  at_slice_get [] k e at = absurd (cc)
  at_slice_get (x ∷ xs) zero e at = ap some (cc)
  at_slice_get (x ∷ xs) (suc k) e at = at_slice_get xs k e at
