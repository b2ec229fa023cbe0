-- How many of rising stamps lie where.
use Rattle.std.proofs.Common.{◌≡◌, ℕ, zero, suc, ◌<◌, ◌≤◌, Bool, true, false, not, cond, ℤ, ◌≤ℤ◌, List, [], ◌∷◌, length, get_or, Some, None, refl, ◌∙◌, arith}
use Rattle.std.specs.Prelude.{int_lt, int_le, count_by}
use Rattle.std.specs.List.Sorted.{IsPartitionedBy, IsPartitionPoint}
use Rattle.std.proofs.lemmas.Int.{ints}
use Rattle.std.proofs.lemmas.List.Sums.{sum_by-cons}
use Rattle.frame_core.specs.Ranges.{Range, is_below, is_above}
use Rattle.frame_core.specs.Frames.{Row, NeverFall, stamps_of}
use Rattle.frame_core.proofs.Totals.{sum_by-map}

le_trans : (a b c : ℤ) → a ≤ℤ b → b ≤ℤ c → a ≤ℤ c
le_trans a b c ab bc = grind (arith, ints)

le_refl : (a : ℤ) → a ≤ℤ a
le_refl a = grind (arith, ints)

from_first : (t : ℤ) (ts : List ℤ) (j : ℕ) (d : ℤ) → NeverFall (t ∷ ts) → j < length (t ∷ ts) → t ≤ℤ get_or (t ∷ ts) j d
from_first t ts zero d rising lt = le_refl t
from_first t [] (suc j) d rising lt = absurd (omega arith)
from_first t (u ∷ ts) (suc j) d rising lt = le_trans t u (get_or (u ∷ ts) j d) rising.0 (from_first u ts j d rising.1 (omega arith))

-- none of the stamps lies below an earlier one
pub far : (ts : List ℤ) (i j : ℕ) (d : ℤ) → NeverFall ts → i ≤ j → j < length ts → get_or ts i d ≤ℤ get_or ts j d
far [] i j d rising le lt = absurd (omega arith)
far (t ∷ ts) zero j d rising le lt = from_first t ts j d rising lt
far (t ∷ []) (suc i) (suc j) d rising le lt = absurd (omega arith)
far (t ∷ u ∷ ts) (suc i) (suc j) d rising le lt = far (u ∷ ts) i j d rising.1 (omega arith) (omega arith)
far (t ∷ ts) (suc i) zero d rising le lt = absurd (omega arith)

below_too : (a b from : ℤ) → a ≤ℤ b → int_lt b from ≡ true → int_lt a from ≡ true
below_too a b from le e = grind (arith, ints)

within_too : (a b to : ℤ) → a ≤ℤ b → int_le b to ≡ true → int_le a to ≡ true
within_too a b to le e = grind (arith, ints)

pub parted_below : (ts : List ℤ) (from : ℤ) → NeverFall ts → IsPartitionedBy (λ t. int_lt t from) ts
parted_below ts from rising i j d le lt e = below_too (get_or ts i d) (get_or ts j d) from (far ts i j d rising le lt) e

pub parted_within : (ts : List ℤ) (to : ℤ) → NeverFall ts → IsPartitionedBy (λ t. int_le t to) ts
parted_within ts to rising i j d le lt e = within_too (get_or ts i d) (get_or ts j d) to (far ts i j d rising le lt) e

pub count_at_point : (p : ℤ → Bool) (ts : List ℤ) (i : ℕ) → i ≤ length ts → IsPartitionPoint (λ t. p t ≡ true) (λ t. p t ≡ false) ts i → i ≡ count_by p ts
count_at_point p [] i le point = omega arith
count_at_point p (t ∷ ts) zero le point =
    let here : p t ≡ false = point.1 0 t (omega arith) (omega arith) in
    let rest = count_at_point p ts zero (omega arith) ((λ k d low high. absurd (omega arith)), (λ k d low high. point.1 (suc k) d (omega arith) (omega arith))) in
    let one : ◌≡◌ {A = ℕ} (cond (p t) 1 0) 0 = rw here refl in
    omega (arith, rest, one, sum_by-cons (λ x. cond (p x) 1 0) t ts)
count_at_point p (t ∷ ts) (suc i) le point =
    let here : p t ≡ true = point.0 0 t (omega arith) (omega arith) in
    let rest = count_at_point p ts i (omega arith) ((λ k d low high. point.0 (suc k) d (omega arith) (omega arith)), (λ k d low high. point.1 (suc k) d (omega arith) (omega arith))) in
    let one : ◌≡◌ {A = ℕ} (cond (p t) 1 0) 1 = rw here refl in
    omega (arith, rest, one, sum_by-cons (λ x. cond (p x) 1 0) t ts)

same_counts : (p q : ℤ → Bool) (ts : List ℤ) → ((t : ℤ) → p t ≡ q t) → count_by p ts ≡ count_by q ts
same_counts p q [] same = refl
same_counts p q (t ∷ ts) same =
    let one : ◌≡◌ {A = ℕ} (cond (p t) 1 0) (cond (q t) 1 0) = rw same refl in
    sum_by-cons (λ x. cond (p x) 1 0) t ts ∙ omega (arith, one, same_counts p q ts same, sum_by-cons (λ x. cond (q x) 1 0) t ts)

none_counted : (ts : List ℤ) → 0 ≡ count_by (λ (t : ℤ). false) ts
none_counted [] = refl
none_counted (t ∷ ts) = omega (arith, none_counted ts, sum_by-cons (λ (x : ℤ). cond false 1 0) t ts)

all_counted : (ts : List ℤ) → length ts ≡ count_by (λ (t : ℤ). true) ts
all_counted [] = refl
all_counted (t ∷ ts) = omega (arith, all_counted ts, sum_by-cons (λ (x : ℤ). cond true 1 0) t ts)

not_above : (t to : ℤ) → int_le t to ≡ not (int_lt to t)
not_above t to = grind (arith, ints)

pub below_none : (range : Range) (ts : List ℤ) → None ≡ range.from → 0 ≡ count_by (is_below range) ts
below_none range ts none = none_counted ts ∙ same_counts (λ t. false) (is_below range) ts (λ t. rw (← none) refl)

pub below_some : (range : Range) (ts : List ℤ) (start : ℤ) (n : ℕ) → Some start ≡ range.from → n ≡ count_by (λ t. int_lt t start) ts → n ≡ count_by (is_below range) ts
below_some range ts start n is count = count ∙ same_counts (λ t. int_lt t start) (is_below range) ts (λ t. rw (← is) refl)

pub up_to_none : (range : Range) (ts : List ℤ) → None ≡ range.to → length ts ≡ count_by (λ t. not (is_above range t)) ts
up_to_none range ts none = all_counted ts ∙ same_counts (λ t. true) (λ t. not (is_above range t)) ts (λ t. rw (← none) refl)

pub up_to_some : (range : Range) (ts : List ℤ) (end : ℤ) (n : ℕ) → Some end ≡ range.to → n ≡ count_by (λ t. int_le t end) ts → n ≡ count_by (λ t. not (is_above range t)) ts
up_to_some range ts end n is count = count ∙ same_counts (λ t. int_le t end) (λ t. not (is_above range t)) ts (λ t. not_above t end ∙ rw (← is) refl)

-- counts over the stamps are counts over the rows
pub count_of_stamps : (p : ℤ → Bool) (rows : List Row) (ts : List ℤ) → ts ≡ stamps_of rows → count_by p ts ≡ count_by (λ (r : Row). p r.stamp) rows
count_of_stamps p rows ts is = rw is (sum_by-map (λ t. cond (p t) 1 0) (λ (r : Row). r.stamp) rows)
