-- The first and the last stamp of rows that never fall.
use Rattle.std.proofs.Common.{◌≡◌, ℕ, zero, suc, ◌+◌, ◌-◌, ◌≤◌, ℤ, ◌≤ℤ◌, List, [], ◌∷◌, length, map, take, drop, Some, refl, ap, ◌∙◌, subst, arith, length-drop}
use Rattle.std.specs.Prelude.{slice_range}
use Rattle.std.proofs.lemmas.Int.{ints}
use Rattle.std.proofs.lemmas.List.{drop-drop, length-take-le}
use Rattle.frame_core.specs.declared.part.Part.{Part}
use Rattle.frame_core.specs.Frames.{Row, NeverFall, stamps_of, first_stamp, last_stamp}
use Rattle.segment_cut.specs.Tiles.{cut_row}
use Rattle.frame_core.proofs.Parts.{NeverFall-slice}
use Rattle.frame_core.proofs.ColumnParts.{slice-map}

le_trans : (a b c : ℤ) → a ≤ℤ b → b ≤ℤ c → a ≤ℤ c
le_trans a b c ab bc = grind (arith, ints)

le_refl : (a : ℤ) → a ≤ℤ a
le_refl a = grind (arith, ints)

-- how many rows a part has
pub length_slice : {X : Type 0} (a b : ℕ) (xs : List X) → b ≤ length xs → length (slice_range xs a b) ≡ b - a
length_slice a b xs le = length-take-le (b - a) (drop a xs) (omega (arith, length-drop a xs))

-- the stamps of rows with fewer cells
pub first_cut_rows : (part : Part) (rows : List Row) → first_stamp (map (cut_row part) rows) ≡ first_stamp rows
first_cut_rows part [] = refl
first_cut_rows part (r ∷ rows) = refl

pub last_cut_rows : (part : Part) (rows : List Row) → last_stamp (map (cut_row part) rows) ≡ last_stamp rows
last_cut_rows part [] = refl
last_cut_rows part (r ∷ []) = refl
last_cut_rows part (r ∷ s ∷ rows) = last_cut_rows part (s ∷ rows)

-- some rows have both
pub record Ends (rows : List Row) : Type 0 where
  pub first : ℤ
  pub last : ℤ
  pub first_is : first_stamp rows ≡ Some first
  pub last_is : last_stamp rows ≡ Some last

pub ends_of : (rows : List Row) → 1 ≤ length rows → Ends rows
ends_of [] some = absurd (omega arith)
ends_of (r ∷ []) some = record { first = r.stamp; last = r.stamp; first_is = refl; last_is = refl }
ends_of (r ∷ s ∷ rows) some =
    let rest = ends_of (s ∷ rows) (omega arith) in
    record { first = r.stamp; last = rest.last; first_is = refl; last_is = rest.last_is }

-- and the first is not above the last
pub ends_ordered : (rows : List Row) (x y : ℤ) → NeverFall (stamps_of rows) → first_stamp rows ≡ Some x → last_stamp rows ≡ Some y → x ≤ℤ y
ends_ordered [] x y rising first last = absurd cc
ends_ordered (r ∷ []) x y rising first last = let same : x ≡ y = cc in rw same (le_refl y)
ends_ordered (r ∷ s ∷ rows) x y rising first last =
    let here : r.stamp ≡ x = cc in
    rw (← here) (le_trans r.stamp s.stamp y rising.0 (ends_ordered (s ∷ rows) s.stamp y rising.1 refl last))

-- the stamps of a part never fall
rising_drop : (n : ℕ) (rows : List Row) → NeverFall (stamps_of rows) → NeverFall (stamps_of (drop n rows))
rising_drop zero rows rising = rising
rising_drop (suc n) [] rising = tt
rising_drop (suc n) (r ∷ []) rising = rising_drop n [] tt
rising_drop (suc n) (r ∷ s ∷ rows) rising = rising_drop n (s ∷ rows) rising.1

pub rising_slice : (a b : ℕ) (rows : List Row) → NeverFall (stamps_of rows) → NeverFall (stamps_of (slice_range rows a b))
rising_slice a b rows rising = rw (slice-map (λ (r : Row). r.stamp) a b rows) (NeverFall-slice a b (stamps_of rows) rising)

-- the last stamp of the first rows is not above the first of the others
last-before : (n : ℕ) (rows : List Row) (x y : ℤ) → NeverFall (stamps_of rows) → last_stamp (take n rows) ≡ Some x → first_stamp (drop n rows) ≡ Some y → x ≤ℤ y
last-before zero rows x y rising last first = absurd cc
last-before (suc n) [] x y rising last first = absurd cc
last-before (suc zero) (r ∷ []) x y rising last first = absurd cc
last-before (suc zero) (r ∷ s ∷ rows) x y rising last first =
    let before : r.stamp ≡ x = cc in
    let after : s.stamp ≡ y = cc in
    rw (← before, ← after) rising.0
last-before (suc (suc n)) (r ∷ []) x y rising last first = absurd cc
last-before (suc (suc n)) (r ∷ s ∷ rows) x y rising last first = last-before (suc n) (s ∷ rows) x y rising.1 last first

first-taken : (n : ℕ) (rows : List Row) (y : ℤ) → first_stamp (take n rows) ≡ Some y → first_stamp rows ≡ Some y
first-taken zero rows y first = absurd cc
first-taken (suc n) [] y first = absurd cc
first-taken (suc n) (r ∷ rows) y first = first

-- the last stamp of some rows is not above the first of the next
pub slices_ordered : (a n m : ℕ) (rows : List Row) (x y : ℤ) → NeverFall (stamps_of rows) → last_stamp (slice_range rows a (a + n)) ≡ Some x → first_stamp (slice_range rows (a + n) ((a + n) + m)) ≡ Some y → x ≤ℤ y
slices_ordered a n m rows x y rising last first =
    let long : (a + n) - a ≡ n = omega arith in
    let before : last_stamp (take n (drop a rows)) ≡ Some x = subst (λ k. last_stamp (take k (drop a rows)) ≡ Some x) long last in
    let from = first-taken (((a + n) + m) - (a + n)) (drop (a + n) rows) y first in
    let after : first_stamp (drop n (drop a rows)) ≡ Some y = ap first_stamp (drop-drop n a rows) ∙ from in
    last-before n (drop a rows) x y (rising_drop a rows rising) before after
