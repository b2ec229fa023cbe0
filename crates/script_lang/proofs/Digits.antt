-- Numbers of few digits.
use Rattle.std.proofs.Common.{◌≡◌, ℕ, suc, ◌+◌, ◌-◌, ◌*◌, ◌^◌, ◌<◌, ◌≤◌, true, List, [], ◌∷◌, length, get_or, drop, refl, ap, add-one, arith}
use Rattle.std.specs.Prelude.{fold}
use Rattle.std.specs.Char.{is_ascii_digit}
use Rattle.std.proofs.Math.Nat.{pow-suc, pow-le-pow_right, lt_of_not-le}
use Rattle.std.proofs.Math.Seq.{drop-cons}
use Rattle.std.proofs.lemmas.Bool.Decides.{nat_tests}
use Rattle.std.proofs.lemmas.List.Sums.{take_while-cons}
use Rattle.script_lang.specs.Fronts.{with_digit, digits_of}

-- fewer than 18 digits have a number below 10^17
pub pow_17 : (i : ℕ) → i < 18 → 10 ^ i ≤ 10 ^ 17
pow_17 i lt = let some : 0 < 10 = omega arith in let le : i ≤ 17 = omega arith in pow-le-pow_right some le

-- 18 digits have a number below 10^18
pub pow_18 : (i : ℕ) → i ≤ 18 → 10 ^ i ≤ 10 ^ 18
pow_18 i le = let some : 0 < 10 = omega arith in pow-le-pow_right some le

-- one more digit makes the number less than ten times as large
pub one_digit_more : (i n c : ℕ) → n < 10 ^ i → is_ascii_digit c ≡ true → n * 10 + (c - 48) < 10 ^ (i + 1)
one_digit_more i n c small digit = let few : c ≤ 57 = grind (arith, nat_tests) in rw (add-one, pow-suc 10 i) (omega arith)

-- a digit at place i is the first of the digits from there on
pub digits_of-drop : (text : List ℕ) (i : ℕ) → i < length text → is_ascii_digit (get_or text i 0) ≡ true → digits_of (drop i text) ≡ get_or text i 0 ∷ digits_of (drop (i + 1) text)
digits_of-drop text i lt digit = rw (add-one, drop-cons text i 0 lt, take_while-cons is_ascii_digit (get_or text i 0) (drop (suc i) text), digit) refl

-- more digits make no smaller number
fold_digits-above : (n : ℕ) (digits : List ℕ) → n ≤ fold with_digit n digits
fold_digits-above n [] = omega arith
fold_digits-above n (d ∷ digits) = let more = fold_digits-above (n * 10 + (d - 48)) digits in omega arith

-- a number that is not below a limit after one digit is never again
pub above_at_digit : (limit n i total : ℕ) (text : List ℕ) → i < length text → is_ascii_digit (get_or text i 0) ≡ true → fold with_digit n (digits_of (drop i text)) ≡ total →
    (n * 10 + (get_or text i 0 - 48) < limit → ⊥) → limit ≤ total
above_at_digit limit n i total text lt digit so_far above =
    let first = ap (fold with_digit n) (digits_of-drop text i lt digit) in
    let more = fold_digits-above (n * 10 + (get_or text i 0 - 48)) (digits_of (drop (i + 1) text)) in
    let reached : limit < suc (n * 10 + (get_or text i 0 - 48)) = lt_of_not-le above in
    omega arith

-- nor is one whose tens are not below the limit
pub above_at_tens : (limit n i total : ℕ) (text : List ℕ) → i < length text → is_ascii_digit (get_or text i 0) ≡ true → fold with_digit n (digits_of (drop i text)) ≡ total →
    (n * 10 < limit → ⊥) → limit ≤ total
above_at_tens limit n i total text lt digit so_far above =
    let first = ap (fold with_digit n) (digits_of-drop text i lt digit) in
    let more = fold_digits-above (n * 10 + (get_or text i 0 - 48)) (digits_of (drop (i + 1) text)) in
    let reached : limit < suc (n * 10) = lt_of_not-le above in
    omega arith
