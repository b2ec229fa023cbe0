-- What is cut from a frame within the limits is within the limits.
use Rattle.std.proofs.Common.{◌≡◌, ℕ, zero, suc, ◌+◌, ◌-◌, ◌*◌, ◌≤◌, max, List, [], ◌∷◌, length, map, take, drop, None, arith, length-drop, length-take}
use Rattle.std.specs.Prelude.{slice_range, sum_by, fold}
use Rattle.std.proofs.lemmas.List.{length-map}
use Rattle.std.proofs.lemmas.List.Sums.{sum_by-cons}
use Rattle.std.proofs.lemmas.Nat.{mul-le}
use Rattle.frame_core.specs.declared.part.Part.{Part}
use Rattle.frame_core.specs.Frames.{Row, Frame}
use Rattle.frame_core.specs.Limits.{text_bytes, all_text_bytes, longest_text, too_large, frame_too_large}
use Rattle.frame_core.proofs.FrameLimits.{fold_max_cons}
use Rattle.segment_cut.specs.Tiles.{cut, cut_row}

-- ---- numbers within the limits

pub record IsWithin (rows columns one all : ℕ) : Type 0 where
  pub rows_are : rows ≤ 2000000
  pub columns_are : columns ≤ 4096
  pub cells_are : rows * columns ≤ 8000000
  pub one_is : one ≤ 65535
  pub all_are : all ≤ 67108864

within_from : (r c o a : ℕ) → too_large r c o a ≡ None → IsWithin r c o a
within_from r c o a e = record { rows_are = grind arith; columns_are = grind arith; cells_are = grind arith; one_is = grind arith; all_are = grind arith }

within_to : (r c o a : ℕ) → IsWithin r c o a → too_large r c o a ≡ None
within_to r c o a w = grind (arith, w.rows_are, w.columns_are, w.cells_are, w.one_is, w.all_are)

-- ---- sums and longest of fewer

-- a part of a list has no more of anything
module _ {X : Type 0} (f : X → ℕ) where
  sum-drop : (n : ℕ) (xs : List X) → sum_by f (drop n xs) ≤ sum_by f xs
  sum-drop zero xs = omega arith
  sum-drop (suc n) [] = omega arith
  sum-drop (suc n) (x ∷ xs) = omega (arith, sum-drop n xs, sum_by-cons f x xs)

  sum-take : (n : ℕ) (xs : List X) → sum_by f (take n xs) ≤ sum_by f xs
  sum-take zero xs = omega arith
  sum-take (suc n) [] = omega arith
  sum-take (suc n) (x ∷ xs) = omega (arith, sum-take n xs, sum_by-cons f x xs, sum_by-cons f x (take n xs))

  sum-slice : (a b : ℕ) (xs : List X) → sum_by f (slice_range xs a b) ≤ sum_by f xs
  sum-slice a b xs = omega (arith, sum-take (b - a) (drop a xs), sum-drop a xs)

  max-drop : (n : ℕ) (xs : List X) → fold max 0 (map f (drop n xs)) ≤ fold max 0 (map f xs)
  max-drop zero xs = omega arith
  max-drop (suc n) [] = omega arith
  max-drop (suc n) (x ∷ xs) = omega (arith, max-drop n xs, fold_max_cons (f x) (map f xs))

  max-take : (n : ℕ) (xs : List X) → fold max 0 (map f (take n xs)) ≤ fold max 0 (map f xs)
  max-take zero xs = omega arith
  max-take (suc n) [] = omega arith
  max-take (suc n) (x ∷ xs) = omega (arith, max-take n xs, fold_max_cons (f x) (map f xs), fold_max_cons (f x) (map f (take n xs)))

  max-slice : (a b : ℕ) (xs : List X) → fold max 0 (map f (slice_range xs a b)) ≤ fold max 0 (map f xs)
  max-slice a b xs = omega (arith, max-take (b - a) (drop a xs), max-drop a xs)

length-part : {X : Type 0} (a b : ℕ) (xs : List X) → length (slice_range xs a b) ≤ length xs
length-part a b xs = omega (arith, length-take (b - a) (drop a xs), length-drop a xs)

-- ---- rows with fewer cells

bytes-rows : (part : Part) (rows : List Row) → sum_by (λ (r : Row). all_text_bytes r.cells) (map (cut_row part) rows) ≤ sum_by (λ (r : Row). all_text_bytes r.cells) rows
bytes-rows part [] = omega arith
bytes-rows part (r ∷ rows) =
    omega (
      arith,
      bytes-rows part rows,
      sum-slice text_bytes part.first_col (part.first_col + part.cols) r.cells,
      sum_by-cons (λ (r : Row). all_text_bytes r.cells) r rows,
      sum_by-cons (λ (r : Row). all_text_bytes r.cells) (cut_row part r) (map (cut_row part) rows),
    )

longest-rows : (part : Part) (rows : List Row) → fold max 0 (map (λ (r : Row). longest_text r.cells) (map (cut_row part) rows)) ≤ fold max 0 (map (λ (r : Row). longest_text r.cells) rows)
longest-rows part [] = omega arith
longest-rows part (r ∷ rows) =
    omega (
      arith,
      longest-rows part rows,
      max-slice text_bytes part.first_col (part.first_col + part.cols) r.cells,
      fold_max_cons (longest_text r.cells) (map (λ (r : Row). longest_text r.cells) rows),
      fold_max_cons (longest_text (cut_row part r).cells) (map (λ (r : Row). longest_text r.cells) (map (cut_row part) rows)),
    )

-- a frame within the limits
pub frame_within : (f : Frame) → frame_too_large f ≡ None → IsWithin (length f.rows) (length f.schema.columns) (fold max 0 (map (λ (r : Row). longest_text r.cells) f.rows)) (sum_by (λ (r : Row). all_text_bytes r.cells) f.rows)
frame_within f e = within_from (length f.rows) (length f.schema.columns) (fold max 0 (map (λ (r : Row). longest_text r.cells) f.rows)) (sum_by (λ (r : Row). all_text_bytes r.cells) f.rows) e

pub within_cut : (f : Frame) (part : Part) → frame_too_large f ≡ None → frame_too_large (cut f part) ≡ None
within_cut f part e =
    let a = part.first_row in
    let b = part.first_row + part.rows in
    let w = frame_within f e in
    let rows : length (cut f part).rows ≤ length f.rows = omega (arith, length-map (slice_range f.rows a b) (cut_row part), length-part a b f.rows) in
    let columns : length (cut f part).schema.columns ≤ length f.schema.columns = length-part part.first_col (part.first_col + part.cols) f.schema.columns in
    let cells : length (cut f part).rows * length (cut f part).schema.columns ≤ length f.rows * length f.schema.columns = mul-le (length (cut f part).rows) (length (cut f part).schema.columns) (length f.rows) (length f.schema.columns) rows columns in
    let one = longest-rows part (slice_range f.rows a b) in
    let ones = max-slice (λ (r : Row). longest_text r.cells) a b f.rows in
    let bytes = bytes-rows part (slice_range f.rows a b) in
    let all = sum-slice (λ (r : Row). all_text_bytes r.cells) a b f.rows in
    let r : ℕ = length (cut f part).rows in
    let c : ℕ = length (cut f part).schema.columns in
    let o : ℕ = fold max 0 (map (λ (r : Row). longest_text r.cells) (cut f part).rows) in
    let t : ℕ = sum_by (λ (r : Row). all_text_bytes r.cells) (cut f part).rows in
    within_to r c o t (record {
      rows_are = omega (arith, rows, w.rows_are);
      columns_are = omega (arith, columns, w.columns_are);
      cells_are = omega (arith, cells, w.cells_are);
      one_is = omega (arith, one, ones, w.one_is);
      all_are = omega (arith, bytes, all, w.all_are);
    })
