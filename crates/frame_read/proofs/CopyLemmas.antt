-- A part of a list, copied item by item.
use Rattle.std.proofs.Common.{◌≡◌, ℕ, zero, suc, ◌+◌, ◌-◌, ◌≤◌, List, [], ◌∷◌, ◌++◌, map, take, drop, Some, refl, sym, ap, ◌∙◌, arith}
use Rattle.std.specs.Prelude.{slice_get, slice_range}
use Rattle.segment_bytes.proofs.Copies.{copied_more, copied_same}

got_behind : {X : Type 0} (xs : List X) (a k : ℕ) → slice_get (drop a xs) k ≡ slice_get xs (a + k)
got_behind xs zero k = let none : 0 + k ≡ k = omega arith in ap (slice_get xs) (sym none)
got_behind [] (suc a) k = refl
got_behind (x ∷ xs) (suc a) k = let step : suc a + k ≡ suc (a + k) = omega arith in got_behind xs a k ∙ ap (slice_get (x ∷ xs)) (sym step)

pub none_between : {X : Type 0} (xs : List X) (a : ℕ) → ◌≡◌ {A = List X} [] (slice_range xs a a)
none_between xs a = let none : a - a ≡ 0 = omega arith in rw none refl

-- one more of the part, as what a copy makes of it
pub part_more : {X Y : Type 0} (f : X → Y) (xs new : List X) (x : X) (ys : List Y) (y : Y) (a i : ℕ) → a ≤ i → map f xs ≡ slice_range ys a i → slice_get ys i ≡ Some y → new ≡ xs ++ x ∷ [] → f x ≡ y → map f new ≡ slice_range ys a (i + 1)
part_more f xs new x ys y a i le so_far at pushed same =
    let place : a + (i - a) ≡ i = omega (arith, le) in
    let wide : (i - a) + 1 ≡ (i + 1) - a = omega (arith, le) in
    copied_more f xs new x (drop a ys) y (i - a) so_far (got_behind ys a (i - a) ∙ ap (slice_get ys) place ∙ at) pushed same ∙ ap (λ (n : ℕ). take n (drop a ys)) wide

-- one more of the part itself
pub part_same : {X : Type 0} (xs new : List X) (x : X) (ys : List X) (y : X) (a i : ℕ) → a ≤ i → xs ≡ slice_range ys a i → slice_get ys i ≡ Some y → new ≡ xs ++ x ∷ [] → x ≡ y → new ≡ slice_range ys a (i + 1)
part_same xs new x ys y a i le so_far at pushed same =
    let place : a + (i - a) ≡ i = omega (arith, le) in
    let wide : (i - a) + 1 ≡ (i + 1) - a = omega (arith, le) in
    copied_same xs new x (drop a ys) y (i - a) so_far (got_behind ys a (i - a) ∙ ap (slice_get ys) place ∙ at) pushed same ∙ ap (λ (n : ℕ). take n (drop a ys)) wide
