-- One step of a reading after another, and what a reading took from the front.
use Rattle.std.proofs.Common.{◌≡◌, ℕ, suc, ◌+◌, ◌-◌, ◌<◌, ◌≤◌, Bool, true, false, ◌&&◌, List, [], ◌∷◌, ◌++◌, length, get_or, take, drop, Result, Ok, Err, refl, sym, ap, ◌∙◌, append_assoc, arith, inl, inr}
use Rattle.std.proofs.lemmas.Bool.{cases_lt}
use Rattle.std.proofs.lemmas.List.{get_or-drop, get_or-take, get_or_past, length-take, append-nil, nil_from_length}
use Rattle.std.proofs.lemmas.Bool.{leb-true}
use Rattle.std.specs.Prelude.{nat_le}
use Rattle.byte_fields.specs.Reading.{Reading, ◌>>=◌, wanted, whole}
use Rattle.byte_fields.specs.Readers.{IsBytes, seen_by}

pub IsBytes-drop : (n : ℕ) (bytes : List ℕ) → IsBytes bytes → IsBytes (drop n bytes)
IsBytes-drop n bytes fits i = rw get_or-drop (fits (n + i))

pub IsBytes-take : (n : ℕ) (bytes : List ℕ) → IsBytes bytes → IsBytes (take n bytes)
IsBytes-take n bytes fits i =
    elim (cases_lt i n) [
      | inl lt ↦ rw (get_or-take n bytes i 0 lt) (fits i)
      | inr le ↦ rw (get_or_past (take n bytes) i 0 (omega (arith, length-take n bytes))) (omega arith)
    ]

pub IsBytes-rest : (b : ℕ) (bytes : List ℕ) → IsBytes (b ∷ bytes) → IsBytes bytes
IsBytes-rest b bytes fits i = fits (suc i)

-- ---- steps

-- a reading that gives a value
abbrev pub done : {A : Type 0} → A → Result A ℕ
done x = Ok x

-- two readings that give the same give one value
pub ok_is : {A : Type 0} (x y : A) → done x ≡ done y → x ≡ y
ok_is x y e = cc

-- the value of a step that did not fail
pub bind_ok : {A B : Type 0} (r : Result A ℕ) (f : A → Result B ℕ) (y : B) → (r >>= f) ≡ Ok y → (x : A) × (r ≡ Ok x) × (f x ≡ Ok y)
bind_ok (Ok x) f y e = (x, refl, e)
bind_ok (Err left) f y e = absurd cc

-- a step that gives x goes on with x
pub bind_is : {A B : Type 0} (r : Result A ℕ) (x : A) (f : A → Result B ℕ) → r ≡ Ok x → (r >>= f) ≡ f x
bind_is r x f e = ap (λ q. q >>= f) e

-- a rule that was kept
pub wanted_ok : {A : Type 0} (holds : Bool) (field : List ℕ) (next : Result A ℕ) (y : A) → wanted holds field next ≡ Ok y → (holds ≡ true) × (next ≡ Ok y)
wanted_ok true field next y e = (refl, e)
wanted_ok false field next y e = absurd cc

-- a rule that holds
pub wanted_is : {A : Type 0} (holds : Bool) (field : List ℕ) (next : Result A ℕ) → holds ≡ true → wanted holds field next ≡ next
wanted_is holds field next e = ap (λ t. wanted t field next) e

pub both_true : (a b : Bool) → (a && b) ≡ true → (a ≡ true) × (b ≡ true)
both_true true b e = (refl, e)
both_true false b e = absurd cc

-- what was seen by a function
pub seen_ok : {A B : Type 0} (f : A → B) (r : Result A ℕ) (y : B) → seen_by f r ≡ Ok y → (x : A) × (r ≡ Ok x) × (f x ≡ y)
seen_ok f (Ok x) y e = (x, refl, ok_is (f x) y e)
seen_ok f (Err left) y e = absurd cc

pub seen_err : {A B : Type 0} (f : A → B) (r : Result A ℕ) (left : ℕ) → seen_by f r ≡ Err left → r ≡ Err left
seen_err f (Ok x) left e = absurd cc
seen_err f (Err n) left e = let same : n ≡ left = cc in ap (λ (k : ℕ). Err k) same

-- ---- what a reading took

-- the bytes begin with a text, and the rest follows
pub record Takes (bytes text rest : List ℕ) : Type 0 where
  pub parts : bytes ≡ text ++ rest
  pub rest_fits : IsBytes rest

-- nothing was taken
pub Takes-nothing : (bytes : List ℕ) → IsBytes bytes → Takes bytes [] bytes
Takes-nothing bytes fits = record { parts = refl; rest_fits = fits }

-- one text after another
pub Takes-then : (a x b y c : List ℕ) → Takes a x b → Takes b y c → Takes a (x ++ y) c
Takes-then a x b y c p q = record { parts = p.parts ∙ ap (λ (t : List ℕ). x ++ t) q.parts ∙ sym (append_assoc x y c); rest_fits = q.rest_fits }

-- what leaves nothing took all
pub whole_takes : {A : Type 0} (reading : Reading A) (y : A) → whole reading ≡ Ok y → reading ≡ Ok (y, [])
whole_takes {A} reading y e =
    let a = bind_ok reading (λ x. wanted (nat_le (length x.1) 0) x.1 (Ok x.0)) y e in
    let b = wanted_ok (nat_le (length a.0.1) 0) a.0.1 (done a.0.0) y a.2 in
    let value : a.0.0 ≡ y = ok_is a.0.0 y b.1 in
    let none : a.0.1 ≡ [] = nil_from_length a.0.1 (omega (arith, leb-true (length a.0.1) 0 b.0)) in
    a.1 ∙ (λ i. Ok (value i, none i))

pub whole_again : {A : Type 0} (reading : Reading A) (y : A) → reading ≡ Ok (y, []) → whole reading ≡ Ok y
whole_again reading y e = bind_is reading (y, []) (λ x. wanted (nat_le (length x.1) 0) x.1 (Ok x.0)) e
