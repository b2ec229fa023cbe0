-- Lists that a test divides: it holds up to a place, and not from there on.
use Rattle.std.proofs.Common.{◌≡◌, ◌≤◌, ℕ, zero, suc, arith, Bool, true, false, List, [], ◌∷◌, length, take, drop, refl, sym, ap, ◌∙◌, subst}
use Rattle.std.specs.Prelude.{filter, ⊤}
use Rattle.std.specs.List.{AllByRecursion}
use Rattle.std.proofs.lemmas.Bool.{true≢false}

-- where the test holds of an element, it holds of the one before
abbrev pub FallsOff : {X : Type 0} → (X → Bool) → List X → Type 0
FallsOff p [] = ⊤
FallsOff p (x ∷ []) = ⊤
FallsOff p (x ∷ y ∷ more) = (p y ≡ true → p x ≡ true) × FallsOff p (y ∷ more)

pub falls_later : {X : Type 0} (p : X → Bool) (x : X) (xs : List X) → FallsOff p (x ∷ xs) → FallsOff p xs
falls_later p x [] falls = tt
falls_later p x (y ∷ more) falls = falls.1

-- behind an element that fails none passes
pub none_behind : {X : Type 0} (p : X → Bool) (x : X) (xs : List X) → FallsOff p (x ∷ xs) → p x ≡ false → AllByRecursion (λ y. p y ≡ false) xs
none_behind p x [] falls fails = tt
none_behind p x (y ∷ more) falls fails =
    let here : p y ≡ false = fails_too (p y) refl in
    (here, none_behind p y more falls.1 here)
  where
    fails_too : (b : Bool) → p y ≡ b → p y ≡ false
    fails_too true e = absurd (true≢false (sym (falls.0 e) ∙ fails))
    fails_too false e = e

pub filter_none : {X : Type 0} (p : X → Bool) (xs : List X) → AllByRecursion (λ y. p y ≡ false) xs → filter p xs ≡ []
filter_none p [] none = refl
filter_none p (x ∷ xs) none = rw none.0 (filter_none p xs none.1)

-- how many pass
abbrev pub passing : {X : Type 0} → (X → Bool) → List X → ℕ
passing p xs = length (filter p xs)

pub none_passing : {X : Type 0} (p : X → Bool) (x : X) (xs : List X) → FallsOff p (x ∷ xs) → p x ≡ false → passing p (x ∷ xs) ≡ 0
none_passing p x xs falls e = rw e (ap length (filter_none p xs (none_behind p x xs falls e)))

-- the first ones pass, and the others do not
pub record IsDivided {X : Type 0} (p : X → Bool) (xs : List X) : Type 0 where
  pub pass : AllByRecursion (λ x. p x ≡ true) (take (passing p xs) xs)
  pub fail : AllByRecursion (λ x. p x ≡ false) (drop (passing p xs) xs)

pub divided : {X : Type 0} (p : X → Bool) (xs : List X) → FallsOff p xs → IsDivided p xs
divided p [] falls = record { pass = tt; fail = tt }
divided {X} p (x ∷ xs) falls = by (divided p xs (falls_later p x xs falls)) (p x) refl
  where
    by : IsDivided p xs → (b : Bool) → p x ≡ b → IsDivided p (x ∷ xs)
    by rest true e =
        let count : passing p (x ∷ xs) ≡ suc (passing p xs) = rw e refl in
        record {
          pass = subst (λ n. AllByRecursion (λ x. p x ≡ true) (take n (x ∷ xs))) (sym count) (e, rest.pass);
          fail = subst (λ n. AllByRecursion (λ x. p x ≡ false) (drop n (x ∷ xs))) (sym count) rest.fail;
        }
    by rest false e =
        let none = none_behind p x xs falls e in
        let count : passing p (x ∷ xs) ≡ 0 = rw e (ap length (filter_none p xs none)) in
        record {
          pass = subst (λ n. AllByRecursion (λ x. p x ≡ true) (take n (x ∷ xs))) (sym count) tt;
          fail = subst (λ n. AllByRecursion (λ x. p x ≡ false) (drop n (x ∷ xs))) (sym count) (e, none);
        }

-- a test that is passed by whatever passes another passes no fewer
pub passing-le : {X : Type 0} (p q : X → Bool) (xs : List X) → AllByRecursion (λ x. p x ≡ true → q x ≡ true) xs → passing p xs ≤ passing q xs
passing-le p q [] each = omega arith
passing-le p q (x ∷ xs) each = by (passing-le p q xs each.1) (p x) refl (q x) refl
  where
    by : passing p xs ≤ passing q xs → (b : Bool) → p x ≡ b → (c : Bool) → q x ≡ c → passing p (x ∷ xs) ≤ passing q (x ∷ xs)
    by rest true e true f = rw (e, f) (omega (arith, rest))
    by rest true e false f = absurd (true≢false (sym (each.0 e) ∙ f))
    by rest false e true f = rw (e, f) (omega (arith, rest))
    by rest false e false f = rw (e, f) rest

pub take_all_of : {X : Type 0} (P : X → Type 0) (n : ℕ) (xs : List X) → AllByRecursion P xs → AllByRecursion P (take n xs)
take_all_of P zero xs all = tt
take_all_of P (suc n) [] all = tt
take_all_of P (suc n) (x ∷ xs) all = (all.0, take_all_of P n xs all.1)

pub drop_all_of : {X : Type 0} (P : X → Type 0) (n : ℕ) (xs : List X) → AllByRecursion P xs → AllByRecursion P (drop n xs)
drop_all_of P zero xs all = all
drop_all_of P (suc n) [] all = tt
drop_all_of P (suc n) (x ∷ xs) all = drop_all_of P n xs all.1
