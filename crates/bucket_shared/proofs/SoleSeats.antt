-- A seat that is found sole is sole.
use Rattle.std.proofs.Common.{◌≡◌, ℕ, Bool, true, false, ◌⊎◌, List, [], ◌∷◌, inl, inr, refl, sym, ap, ◌∙◌, eqb-true}
use Rattle.std.specs.Prelude.{◌&&◌, ◌||◌, ◌==◌}
use Rattle.std.specs.List.{list_any, list_all}
use Rattle.std.proofs.lemmas.Bool.{true≢false, eq-eqb}
use Rattle.turn_cell.specs.declared.badge.Badge.{Badge}
use Rattle.turn_cell.specs.declared.badge.Joined.{Joined}
use Rattle.turn_cell.specs.Badges.{Among, Has, IsSole, joined_at}
use Rattle.bucket_shared.specs.Sole.{has_number, is_sole}

both : (a b : Bool) → (a && b) ≡ true → (a ≡ true) × (b ≡ true)
both true b e = (refl, e)
both false b e = absurd (true≢false (sym e))

pub either : (a b : Bool) → (a || b) ≡ true → (a ≡ true) ⊎ (b ≡ true)
either true b e = inl refl
either false b e = inr e

or_true : (a b : Bool) → b ≡ true → (a || b) ≡ true
or_true true b e = refl
or_true false b e = e

among_joined : (js : List Joined) (n : ℕ) → list_any (λ j. j.number == n) js ≡ true → (l : ℕ) × Among (joined_at n l) js
among_joined [] n e = absurd (true≢false (sym e))
among_joined (j ∷ js) n e = by (among_joined js n) (either (j.number == n) (list_any (λ x. x.number == n) js) e)
  where
    by : (list_any (λ x. x.number == n) js ≡ true → (l : ℕ) × Among (joined_at n l) js) → ((j.number == n) ≡ true) ⊎ (list_any (λ x. x.number == n) js ≡ true) → (l : ℕ) × Among (joined_at n l) (j ∷ js)
    by rest (inl is) = (j.length, inl (λ i. joined_at (sym (eqb-true j.number n is) i) j.length))
    by rest (inr more) = let found = rest more in (found.0, inr found.1)

pub Has-number : (b : Badge) (n : ℕ) → has_number b n ≡ true → Has b n
Has-number b n e = by (either (b.in_use && (b.number == n)) (list_any (λ j. j.number == n) b.joined) e)
  where
    by : ((b.in_use && (b.number == n)) ≡ true) ⊎ (list_any (λ j. j.number == n) b.joined ≡ true) → Has b n
    by (inl own) = let o = both b.in_use (b.number == n) own in inl (o.0, sym (eqb-true b.number n o.1))
    by (inr joined) = inr (among_joined b.joined n joined)

gave_had : (b : Badge) (ns : List ℕ) → list_all (has_number b) ns ≡ true → (n : ℕ) → Among n ns → Has b n
gave_had b [] all n a = absurd a
gave_had b (m ∷ ms) all n (inl is) = Has-number b n (ap (has_number b) is ∙ (both (has_number b m) (list_all (has_number b) ms) all).0)
gave_had b (m ∷ ms) all n (inr more) = gave_had b ms (both (has_number b m) (list_all (has_number b) ms) all).1 n more

-- a seat that is found sole is sole
pub IsSole-found : (b : Badge) → is_sole b ≡ true → IsSole b
IsSole-found b e =
    let used = both b.in_use (has_number b b.first && list_all (has_number b) b.gave) e in
    let rest = both (has_number b b.first) (list_all (has_number b) b.gave) used.1 in
    (used.0, Has-number b b.first rest.0, gave_had b b.gave rest.1)

-- ---- and a sole seat is found sole

pub and_true : (a b : Bool) → a ≡ true → b ≡ true → (a && b) ≡ true
and_true true b e f = f
and_true false b e f = absurd (true≢false (sym e))

joined_among : (js : List Joined) (n l : ℕ) → Among (joined_at n l) js → list_any (λ j. j.number == n) js ≡ true
joined_among [] n l a = absurd a
joined_among (j ∷ js) n l (inl is) = let same : j.number ≡ n = sym (ap (λ (x : Joined). x.number) is) in rw (eq-eqb j.number n same) refl
joined_among (j ∷ js) n l (inr a) = or_true (j.number == n) (list_any (λ x. x.number == n) js) (joined_among js n l a)

pub has_number-true : (b : Badge) (n : ℕ) → Has b n → has_number b n ≡ true
has_number-true b n (inl own) = rw own.0 (rw (eq-eqb b.number n (sym own.1)) refl)
has_number-true b n (inr t) = or_true (b.in_use && (b.number == n)) (list_any (λ j. j.number == n) b.joined) (joined_among b.joined n t.0 t.1)

all_had : (b : Badge) (ns : List ℕ) → ((n : ℕ) → Among n ns → Has b n) → list_all (has_number b) ns ≡ true
all_had b [] had = refl
all_had b (m ∷ ms) had = and_true (has_number b m) (list_all (has_number b) ms) (has_number-true b m (had m (inl refl))) (all_had b ms (λ n a. had n (inr a)))

pub is_sole-true : (b : Badge) → IsSole b → is_sole b ≡ true
is_sole-true b sole = and_true b.in_use (has_number b b.first && list_all (has_number b) b.gave) sole.0 (and_true (has_number b b.first) (list_all (has_number b) b.gave) (has_number-true b b.first sole.1) (all_had b b.gave sole.2))
