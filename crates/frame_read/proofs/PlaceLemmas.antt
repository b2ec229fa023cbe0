-- The places at which a test holds, and the elements of which it does.
use Rattle.std.proofs.Common.{◌≡◌, ℕ, zero, suc, ◌+◌, ◌<◌, Bool, true, false, List, [], ◌∷◌, map, length, sym, ap, ◌∙◌, subst, cond, arith, Some}
use Rattle.std.specs.Prelude.{Contains, slice_get}
use Rattle.std.specs.List.{filter, enumerate_from, AllByRecursion}
use Rattle.store_model.proofs.Lists.{contains_first, contains_later, filter_in}
use Rattle.index_tree.specs.Covering.{places_where}

-- the places of those that pass, where the first has the place n
abbrev places_from : {X : Type 0} → (X → Bool) → ℕ → List X → List ℕ
places_from {X} test n xs = map (λ (e : ℕ × X). e.0) (filter (λ (e : ℕ × X). test e.1) (enumerate_from n xs))

below_from : {X : Type 0} (test : X → Bool) (n : ℕ) (xs : List X) → AllByRecursion (λ (p : ℕ). p < n + length xs) (places_from test n xs)
below_from test n [] = tt
below_from {X} test n (x ∷ xs) =
    let longer : n + 1 + length xs ≡ n + suc (length xs) = omega arith in
    let rest : AllByRecursion (λ (p : ℕ). p < n + suc (length xs)) (places_from test (n + 1) xs) = subst (λ (m : ℕ). AllByRecursion (λ (p : ℕ). p < m) (places_from test (n + 1) xs)) longer (below_from test (n + 1) xs) in
    elim (test x) as (λ b. AllByRecursion (λ (p : ℕ). p < n + suc (length xs)) (map (λ (e : ℕ × X). e.0) (cond b ((n, x) ∷ filter (λ (e : ℕ × X). test e.1) (enumerate_from (n + 1) xs)) (filter (λ (e : ℕ × X). test e.1) (enumerate_from (n + 1) xs))))) [
      | true ↦ (omega arith, rest)
      | false ↦ rest
    ]

-- each of the places is one of the list
pub places_where_below : {X : Type 0} (test : X → Bool) (xs : List X) → AllByRecursion (λ (p : ℕ). p < length xs) (places_where test xs)
places_where_below test xs =
    let none : 0 + length xs ≡ length xs = omega arith in
    subst (λ (m : ℕ). AllByRecursion (λ (p : ℕ). p < m) (places_where test xs)) none (below_from test 0 xs)

in_from : {X : Type 0} (test : X → Bool) (n : ℕ) (xs : List X) (k : ℕ) (x : X) → slice_get xs k ≡ Some x → test x ≡ true → Contains (places_from test n xs) (n + k)
in_from test n [] k x at passes = absurd cc
in_from {X} test n (y ∷ ys) zero x at passes =
    let same : y ≡ x = cc in
    let none : n + zero ≡ n = omega arith in
    let here : test y ≡ true = ap test same ∙ passes in
    subst (λ (m : ℕ). Contains (places_from test n (y ∷ ys)) m) (sym none)
    (subst (λ b. Contains (map (λ (e : ℕ × X). e.0) (cond b ((n, y) ∷ filter (λ (e : ℕ × X). test e.1) (enumerate_from (n + 1) ys)) (filter (λ (e : ℕ × X). test e.1) (enumerate_from (n + 1) ys)))) n) (sym here)
    (contains_first n (places_from test (n + 1) ys)))
in_from {X} test n (y ∷ ys) (suc k) x at passes =
    let step : n + 1 + k ≡ n + suc k = omega arith in
    let rest : Contains (places_from test (n + 1) ys) (n + suc k) = subst (λ (m : ℕ). Contains (places_from test (n + 1) ys) m) step (in_from test (n + 1) ys k x at passes) in
    elim (test y) as (λ b. Contains (map (λ (e : ℕ × X). e.0) (cond b ((n, y) ∷ filter (λ (e : ℕ × X). test e.1) (enumerate_from (n + 1) ys)) (filter (λ (e : ℕ × X). test e.1) (enumerate_from (n + 1) ys)))) (n + suc k)) [
      | true ↦ contains_later (n + suc k) n (places_from test (n + 1) ys) rest
      | false ↦ rest
    ]

-- the place of one that passes is among them
pub where_in : {X : Type 0} (test : X → Bool) (xs : List X) (k : ℕ) (x : X) → slice_get xs k ≡ Some x → test x ≡ true → Contains (places_where test xs) k
where_in test xs k x at passes = let none : 0 + k ≡ k = omega arith in subst (λ (m : ℕ). Contains (places_where test xs) m) none (in_from test 0 xs k x at passes)

-- those of which it holds are of the list
pub filter_of : {X : Type 0} (test : X → Bool) (xs : List X) → AllByRecursion (Contains xs) (filter test xs)
filter_of {X} test xs = each (filter test xs) (λ x there. (filter_in test xs x there).0)
  where
    each : (ys : List X) → ((x : X) → Contains ys x → Contains xs x) → AllByRecursion (Contains xs) ys
    each [] there = tt
    each (y ∷ ys) there = (there y (contains_first y ys), each ys (λ x later. there x (contains_later x y ys later)))
