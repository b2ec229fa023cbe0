-- Sums over views, of which one changes; and lists that weigh the same.
use Rattle.std.proofs.Common.{◌≡◌, ◌≢◌, ◌<◌, ◌≤◌, ◌+◌, ℕ, zero, suc, List, [], ◌∷◌, ◌++◌, cond, if◌then◌else◌, ◌==◌, set, sym, refl, ap, ◌∙◌, subst, eq-eqb, ne_eqb, add-one, arith}
use Rattle.std.specs.List.{sum_by, flat_map, range_with_len, Contains}
use Rattle.std.specs.List.Sorted.{IsPermutation}
use Rattle.std.proofs.lemmas.List.Sums.{sum_by-cons, sum_by-append}
use Rattle.std.proofs.lemmas.List.Sorted.{IsPermutation-refl, IsPermutation-sym, IsPermutation-cons, IsPermutation-trans, IsPermutation-middle}
use Rattle.std.proofs.lemmas.List.FromFn.{length-range_with_len, get_or-range_with_len}
use mathlib.Core.Logic.{dite}
use mathlib.Core.Option.{some, some-injective, some-ne-none}
use native.Mathlib.Decide.{ℕ_discrete}
use lib.ListN.{get_elem?}

module _ {V : Type 0} where
  -- the total after a change of one view
  pub total_set : (f : V → ℕ) (views : List V) (port : ℕ) (v w : V) → get_elem? views port ≡ some v → sum_by f (set views port w) + f v ≡ sum_by f views + f w
  total_set f [] port v w e = absurd (some-ne-none v (sym e))
  total_set f (x ∷ xs) zero v w e = let same : f x ≡ f v = ap f (some-injective x v e) in omega (arith, sum_by-cons f w xs, sum_by-cons f x xs)
  total_set f (x ∷ xs) (suc port) v w e = omega (arith, sum_by-cons f x (set xs port w), sum_by-cons f x xs, total_set f xs port v w e)

  -- no view weighs more than all
  pub at_most_total : (f : V → ℕ) (views : List V) (port : ℕ) (v : V) → get_elem? views port ≡ some v → f v ≤ sum_by f views
  at_most_total f [] port v e = absurd (some-ne-none v (sym e))
  at_most_total f (x ∷ xs) zero v e = let same : f x ≡ f v = ap f (some-injective x v e) in omega (arith, sum_by-cons f x xs)
  at_most_total f (x ∷ xs) (suc port) v e = omega (arith, sum_by-cons f x xs, at_most_total f xs port v e)

  -- what all lists weigh, put together
  pub together : (g : V → List ℕ) (h : ℕ → ℕ) (views : List V) → sum_by h (flat_map g views) ≡ sum_by (λ v. sum_by h (g v)) views
  together g h [] = refl
  together g h (x ∷ xs) = omega (arith, sum_by-append h (g x) (flat_map g xs), sum_by-cons (λ v. sum_by h (g v)) x xs, together g h xs)

-- 1 for a number, 0 for the others
abbrev pub one_at : ℕ → ℕ → ℕ
one_at x y = if y == x then 1 else 0

one_here : (x : ℕ) → one_at x x ≡ 1
one_here x = ap (λ b. cond b 1 0) (eq-eqb x x refl)

one_else : (x y : ℕ) → y ≢ x → one_at x y ≡ 0
one_else x y ne = ap (λ b. cond b 1 0) (ne_eqb y x ne)

-- a number that weighs something stands in the list
parts_at : (x : ℕ) (ys : List ℕ) → 0 < sum_by (one_at x) ys → (before : List ℕ) × (after : List ℕ) × (ys ≡ before ++ x ∷ after)
parts_at x [] some_weight = absurd (omega arith)
parts_at x (y ∷ ys) some_weight = dite (ℕ_discrete y x) (λ e. ([], ys, λ i. e i ∷ ys)) (λ ne. let rest = parts_at x ys (omega (arith, one_else x y ne, sum_by-cons (one_at x) y ys)) in (y ∷ rest.0, rest.1, ap (λ l. y ∷ l) rest.2))

-- two lists that weigh the same, however numbers are weighed, have the same numbers
pub same_weights : (xs ys : List ℕ) → ((h : ℕ → ℕ) → sum_by h xs ≡ sum_by h ys) → IsPermutation xs ys
same_weights [] [] same = IsPermutation-refl []
same_weights [] (y ∷ ys) same = absurd (let e = same (λ _. 1) in omega (arith, sum_by-cons (λ _. 1) y ys))
same_weights (x ∷ xs) ys same =
    let p = parts_at x ys (let e = same (one_at x) in omega (arith, one_here x, sum_by-cons (one_at x) x xs)) in
    let rest : IsPermutation xs (p.0 ++ p.1) = same_weights xs (p.0 ++ p.1) (λ h. let e = same h ∙ ap (sum_by h) p.2 in omega (arith, sum_by-cons h x xs, sum_by-append h p.0 (x ∷ p.1), sum_by-cons h x p.1, sum_by-append h p.0 p.1)) in
    subst (IsPermutation (x ∷ xs)) (sym p.2) (IsPermutation-trans _ _ _ (IsPermutation-cons x xs (p.0 ++ p.1) rest) (IsPermutation-sym _ _ (IsPermutation-middle p.0 x p.1)))

-- a number that weighs something where it stands
pub stands : (x : ℕ) (ys : List ℕ) → 0 < sum_by (one_at x) ys → (before : List ℕ) × (after : List ℕ) × (ys ≡ before ++ x ∷ after)
stands = parts_at

pub weighs_one : (x : ℕ) (ys : List ℕ) → 0 < sum_by (one_at x) (x ∷ ys)
weighs_one x ys = omega (arith, one_here x, sum_by-cons (one_at x) x ys)

more : (a n b : ℕ) → a + n ≡ b → range_with_len a (suc n) ≡ range_with_len a n ++ b ∷ []
more a zero b e = ap (λ x. x ∷ []) (omega (arith, e))
more a (suc n) b e = ap (λ l. a ∷ l) (more (a + 1) n b (omega (arith, e)))

-- one number more
pub numbers_more : (a n b : ℕ) → a + n ≡ b → range_with_len a (n + 1) ≡ range_with_len a n ++ b ∷ []
numbers_more a n b e = ap (range_with_len a) (add-one n) ∙ more a n b e

-- a number of the list is within its bounds
pub within : (a n x : ℕ) → Contains (range_with_len a n) x → (a ≤ x) × (x < a + n)
within a n x c = let k = c.0 in let short : k < n = omega (arith, c.1, length-range_with_len a n) in let is : x ≡ a + k = sym c.2 ∙ get_or-range_with_len a n k x short in (omega (arith, is), omega (arith, is, short))
