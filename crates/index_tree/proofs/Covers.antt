-- The slots that a range and columns ask for, found over columns that rise.
use Rattle.std.proofs.Common.{◌≡◌, ℕ, suc, ◌+◌, ◌-◌, ◌<◌, ◌≤◌, Bool, true, false, ◌&&◌, List, [], ◌∷◌, ◌++◌, map, length, get_or, take, Some, refl, sym, ap, ◌∙◌, arith, inl, inr, cond}
use Rattle.std.specs.Prelude.{nat_lt, nat_eq, slice_get, slice_index}
use Rattle.std.specs.List.{filter, list_any, enumerate_from}
use Rattle.std.specs.List.Sorted.{IsNonDecreasing, IsPermutation, IsPartitionPoint}
use Rattle.std.proofs.lemmas.Bool.{cases_lt}
use Rattle.std.proofs.lemmas.Option.{get_or_from_slice_get}
use Rattle.std.proofs.lemmas.List.{take_more, take_all, append-nil, length-take, map-append, get_or_default}
use Rattle.std.proofs.lemmas.List.Elements.{filter-append}
use Rattle.std.proofs.lemmas.List.Folds.{list_any_at, list_any_none}
use Rattle.std.proofs.lemmas.List.Sorted.{list_any-IsPermutation, length_permutation}
use Rattle.frame_core.specs.declared.part.Part.{Part}
use Rattle.frame_core.specs.Ranges.{Range}
use Rattle.index_tree.specs.declared.index.Slot.{Slot}
use Rattle.frame_core.specs.Parts.{has_column}
use Rattle.index_tree.specs.Covering.{shares_stamps, has_one, covers, places_where}

-- ---- places

abbrev numbered : {X : Type 0} → (X → Bool) → ℕ × X → Bool
numbered test x = test x.1

enumerate_from-append : {X : Type 0} (n : ℕ) (xs ys : List X) → enumerate_from n (xs ++ ys) ≡ enumerate_from n xs ++ enumerate_from (n + length xs) ys
enumerate_from-append n [] ys = let same : n ≡ n + 0 = omega arith in ap (λ (k : ℕ). enumerate_from k ys) same
enumerate_from-append {X} n (x ∷ xs) ys =
    let same : n + 1 + length xs ≡ n + suc (length xs) = omega arith in
    ap (λ (es : List (ℕ × X)). (n, x) ∷ es) (enumerate_from-append (n + 1) xs ys ∙ ap (λ (k : ℕ). enumerate_from (n + 1) xs ++ enumerate_from k ys) same)

-- the place of one more element, if it passes
abbrev one_place : Bool → ℕ → List ℕ
one_place true place = place ∷ []
one_place false place = []

one_where : {X : Type 0} (test : X → Bool) (n : ℕ) (x : X) → map (λ (e : ℕ × X). e.0) (filter (numbered test) (enumerate_from n (x ∷ []))) ≡ one_place (test x) n
one_where {X} test n x = elim (test x) as (λ b. map (λ (e : ℕ × X). e.0) (cond b ((n, x) ∷ []) []) ≡ one_place b n) [ true ↦ refl | false ↦ refl ]

places_where-push : {X : Type 0} (test : X → Bool) (xs : List X) (x : X) → places_where test (xs ++ x ∷ []) ≡ places_where test xs ++ one_place (test x) (length xs)
places_where-push {X} test xs x =
    ap (λ (es : List (ℕ × X)). map (λ (e : ℕ × X). e.0) (filter (numbered test) es)) (enumerate_from-append 0 xs (x ∷ []))
    ∙ ap (map (λ (e : ℕ × X). e.0)) (filter-append (numbered test) (enumerate_from 0 xs) (enumerate_from (0 + length xs) (x ∷ [])))
    ∙ map-append (λ (e : ℕ × X). e.0) (filter (numbered test) (enumerate_from 0 xs)) (filter (numbered test) (enumerate_from (0 + length xs) (x ∷ [])))
    ∙ ap (λ (ps : List ℕ). places_where test xs ++ ps) (one_where test (0 + length xs) x)
    ∙ ap (λ (n : ℕ). places_where test xs ++ one_place (test x) n) from_none
  where
    from_none : 0 + length xs ≡ length xs
    from_none = omega arith

-- one element more was tested
pub places_next : {X : Type 0} (test : X → Bool) (xs : List X) (i : ℕ) (x : X) (b : Bool) → i < length xs → slice_get xs i ≡ Some x → b ≡ test x → places_where test (take (i + 1) xs) ≡ places_where test (take i xs) ++ one_place b i
places_next {X} test xs i x b lt is tested =
    let here : get_or xs i x ≡ x = get_or_from_slice_get xs i x x is in
    let count : length (take i xs) ≡ i = omega (arith, length-take i xs) in
    ap (places_where test) (take_more xs i x lt ∙ ap (λ (y : X). take i xs ++ y ∷ []) here)
    ∙ places_where-push test (take i xs) x
    ∙ (λ j. places_where test (take i xs) ++ one_place (sym tested j) (count j))

pub places_taken : {X : Type 0} (test : X → Bool) (xs : List X) (i : ℕ) (x : X) (places : List ℕ) → i < length xs → slice_get xs i ≡ Some x → true ≡ test x → places ≡ places_where test (take i xs) → places ++ i ∷ [] ≡ places_where test (take (i + 1) xs)
places_taken test xs i x places lt is tested so_far = ap (λ (ps : List ℕ). ps ++ i ∷ []) so_far ∙ sym (places_next test xs i x true lt is tested)

pub places_left : {X : Type 0} (test : X → Bool) (xs : List X) (i : ℕ) (x : X) (places : List ℕ) → i < length xs → slice_get xs i ≡ Some x → false ≡ test x → places ≡ places_where test (take i xs) → places ≡ places_where test (take (i + 1) xs)
places_left test xs i x places lt is tested so_far = so_far ∙ sym (append-nil (places_where test (take i xs))) ∙ sym (places_next test xs i x false lt is tested)

-- ---- columns in another order

has_one_permuted : (a b : List ℕ) (part : Part) → IsPermutation a b → has_one b part ≡ has_one a part
has_one_permuted [] [] part moved = refl
has_one_permuted [] (y ∷ ys) part moved = absurd (omega (arith, length_permutation [] (y ∷ ys) moved))
has_one_permuted (x ∷ xs) [] part moved = absurd (omega (arith, length_permutation (x ∷ xs) [] moved))
has_one_permuted (x ∷ xs) (y ∷ ys) part moved = sym (list_any-IsPermutation (has_column part) (x ∷ xs) (y ∷ ys) moved)

-- all are tested, and the order of the columns does not matter
pub covered_all : (range : Range) (a b : List ℕ) (slots : List Slot) (n : ℕ) (places : List ℕ) → IsPermutation a b → length slots ≤ n → places ≡ places_where (covers range b) (take n slots) → places ≡ places_where (covers range a) slots
covered_all range a b slots n places moved le so_far =
    so_far ∙ ap (places_where (covers range b)) (take_all n slots le)
    ∙ ap (λ (test : Slot → Bool). places_where test slots) (λ i s. shares_stamps range s && has_one_permuted a b s.part moved i)

-- one slot more was tested
pub kept_taken : {X : Type 0} (test : X → Bool) (xs : List X) (x : X) → true ≡ test x → filter test xs ++ x ∷ [] ≡ filter test (xs ++ x ∷ [])
kept_taken {X} test xs x passes = ap (λ (b : Bool). filter test xs ++ cond b (x ∷ []) []) passes ∙ sym (filter-append test xs (x ∷ []))

pub kept_left : {X : Type 0} (test : X → Bool) (xs : List X) (x : X) → false ≡ test x → filter test xs ≡ filter test (xs ++ x ∷ [])
kept_left {X} test xs x fails = sym (append-nil (filter test xs)) ∙ (ap (λ (b : Bool). filter test xs ++ cond b (x ∷ []) []) fails ∙ sym (filter-append test xs (x ∷ [])))

-- all were tested, and the order of the columns does not matter
pub covered_kept : (range : Range) (a b : List ℕ) (slots : List Slot) (n : ℕ) (found : List Slot) → IsPermutation a b → length slots ≤ n → found ≡ filter (covers range b) (take n slots) → found ≡ filter (covers range a) slots
covered_kept range a b slots n found moved le so_far =
    so_far ∙ ap (filter (covers range b)) (take_all n slots le)
    ∙ ap (λ (test : Slot → Bool). filter test slots) (λ i s. shares_stamps range s && has_one_permuted a b s.part moved i)

-- ---- the first column that is not below a slice

any_past : (xs : List ℕ) (part : Part) (place : ℕ) → IsPartitionPoint (λ c. nat_lt c part.first_col ≡ true) (λ c. nat_lt c part.first_col ≡ false) xs place → length xs ≤ place → false ≡ list_any (has_column part) xs
any_past xs part place point le = sym (list_any_none (has_column part) xs (λ k d lt. below (get_or xs k d) (point.0 k d (omega arith) (omega (arith, lt, le)))))
  where
    below : (c : ℕ) → nat_lt c part.first_col ≡ true → has_column part c ≡ false
    below c e = grind arith

-- the column at this place is the first that is not below the slice
pub any_rising : (xs : List ℕ) (part : Part) (place : ℕ) → IsNonDecreasing xs → IsPartitionPoint (λ c. nat_lt c part.first_col ≡ true) (λ c. nat_lt c part.first_col ≡ false) xs place → place < length xs → nat_lt (slice_index xs place - part.first_col) part.cols ≡ list_any (has_column part) xs
any_rising xs part place rising point lt =
    let column = get_or xs place 0 in
    let not_below : nat_lt column part.first_col ≡ false = point.1 place 0 (omega arith) lt in
    elim (nat_lt (column - part.first_col) part.cols) as (λ b. nat_lt (column - part.first_col) part.cols ≡ b → b ≡ list_any (has_column part) xs) [
      | true ↦ λ e. sym (list_any_at (has_column part) xs place 0 lt (within column not_below e))
      | false ↦ λ e. sym (list_any_none (has_column part) xs (λ k d below_end.
          elim (cases_lt k place) [
            | inl before ↦ below (get_or xs k d) (point.0 k d (omega arith) before)
            | inr behind ↦ above (get_or xs k d) column not_below e (rising_from k d behind below_end)
          ]))
    ] refl
  where
    below : (c : ℕ) → nat_lt c part.first_col ≡ true → has_column part c ≡ false
    below c e = grind arith

    within : (c : ℕ) → nat_lt c part.first_col ≡ false → nat_lt (c - part.first_col) part.cols ≡ true → has_column part c ≡ true
    within c a b = grind arith

    above : (c column : ℕ) → nat_lt column part.first_col ≡ false → nat_lt (column - part.first_col) part.cols ≡ false → column ≤ c → has_column part c ≡ false
    above c column a b le = grind arith

    rising_from : (k d : ℕ) → place ≤ k → k < length xs → get_or xs place 0 ≤ get_or xs k d
    rising_from k d le below_end = omega (arith, rising place k d le below_end, get_or_default xs place 0 d lt)

-- where some columns are asked
had_any : (xs : List ℕ) (part : Part) → 1 ≤ length xs → has_one xs part ≡ list_any (has_column part) xs
had_any [] part le = absurd (omega arith)
had_any (x ∷ xs) part le = refl

pub had_rising : (xs : List ℕ) (part : Part) (place : ℕ) → IsNonDecreasing xs → IsPartitionPoint (λ c. nat_lt c part.first_col ≡ true) (λ c. nat_lt c part.first_col ≡ false) xs place → place < length xs → nat_lt (slice_index xs place - part.first_col) part.cols ≡ has_one xs part
had_rising xs part place rising point lt = any_rising xs part place rising point lt ∙ sym (had_any xs part (omega arith))

pub had_past : (xs : List ℕ) (part : Part) (place : ℕ) → nat_eq (length xs) 0 ≡ false → IsPartitionPoint (λ c. nat_lt c part.first_col ≡ true) (λ c. nat_lt c part.first_col ≡ false) xs place → length xs ≤ place → false ≡ has_one xs part
had_past xs part place some point le = any_past xs part place point le ∙ sym (had_any xs part (positive (length xs) some))
  where
    positive : (n : ℕ) → nat_eq n 0 ≡ false → 1 ≤ n
    positive n e = grind arith

-- the column at this place is not below the slice
pub not_below : (xs : List ℕ) (part : Part) (place : ℕ) → IsPartitionPoint (λ c. nat_lt c part.first_col ≡ true) (λ c. nat_lt c part.first_col ≡ false) xs place → place < length xs → part.first_col ≤ slice_index xs place
not_below xs part place point lt = le_of (slice_index xs place) (point.1 place 0 (omega arith) lt)
  where
    le_of : (c : ℕ) → nat_lt c part.first_col ≡ false → part.first_col ≤ c
    le_of c e = grind arith
