-- The longer and the shorter of two lists.
use Rattle.std.proofs.Common.{◌≡◌, ◌<◌, ◌≤◌, List, length, refl, arith}
use Rattle.std.specs.Prelude.{Bool, true, false, if◌then◌else◌, nat_lt}
use Rattle.std.proofs.lemmas.Bool.Decides.{nat_tests}
use mathlib.Core.List.{IsPrefix}
use Rattle.turn_cell.specs.Views.{longer_of, shorter_of}
use Rattle.turn_cell.proofs.Prefixes.{prefix_refl}

module _ {A : Type 0} where
  pub long_is : (xs ys : List A) (P : List A → Type 0) → P xs → P ys → P (longer_of xs ys)
  long_is xs ys P p q = go (nat_lt (length xs) (length ys))
    where
      go : (b : Bool) → P (if b then ys else xs)
      go true = q
      go false = p

  pub short_is : (xs ys : List A) (P : List A → Type 0) → P xs → P ys → P (shorter_of xs ys)
  short_is xs ys P p q = go (nat_lt (length xs) (length ys))
    where
      go : (b : Bool) → P (if b then xs else ys)
      go true = p
      go false = q

  -- the longer of two lists is as long as both, and the other is the shorter
  pub long_most : (xs ys : List A) → (length xs ≤ length (longer_of xs ys)) × (length ys ≤ length (longer_of xs ys)) × (length (shorter_of xs ys) ≤ length (longer_of xs ys))
  long_most xs ys = go (nat_lt (length xs) (length ys)) refl
    where
      go : (b : Bool) → nat_lt (length xs) (length ys) ≡ b → (length xs ≤ length (if b then ys else xs)) × (length ys ≤ length (if b then ys else xs)) × (length (if b then xs else ys) ≤ length (if b then ys else xs))
      go true e = let l : length xs < length ys = grind (arith, nat_tests) in (omega arith, omega arith, omega arith)
      go false e = let l : length ys ≤ length xs = grind (arith, nat_tests) in (omega arith, omega arith, omega arith)

  -- both lists begin the longer one, where the shorter does
  pub both_begin : (xs ys : List A) → (length (shorter_of xs ys) ≤ length (longer_of xs ys) → IsPrefix (shorter_of xs ys) (longer_of xs ys)) → IsPrefix xs (longer_of xs ys) × IsPrefix ys (longer_of xs ys)
  both_begin xs ys h = let p = h (long_most xs ys).2 in go (nat_lt (length xs) (length ys)) p
    where
      go : (b : Bool) → IsPrefix (if b then xs else ys) (if b then ys else xs) → IsPrefix xs (if b then ys else xs) × IsPrefix ys (if b then ys else xs)
      go true p = (p, prefix_refl ys)
      go false p = (prefix_refl xs, p)
