-- The parts of a grid tile the frame.
use Rattle.std.proofs.Common.{◌≡◌, ℕ, zero, suc, ◌+◌, ◌-◌, ◌*◌, ◌<◌, ◌≤◌, min, max, Bool, true, false, cond, ◌&&◌, nat_le, nat_lt, List, [], ◌∷◌, length, refl, ap, ◌∙◌, subst, arith}
use Rattle.std.specs.Prelude.{count_by, sum_by}
use Rattle.std.specs.List.{range_with_len}
use Rattle.std.specs.Int.{div_ceil}
use Rattle.std.proofs.lemmas.Grind.{div_ceil_times}
use Rattle.frame_core.specs.Frames.{Frame}
use Rattle.segment_cut.specs.Cuttings.{Cutting, IsCutting}
use Rattle.segment_cut.specs.Tiles.{Tile, LiesIn, Tiled, cut, has_row, has_cell}
use Rattle.segment_cut.specs.Grids.{Grid, row_blocks, col_blocks, part_at, block_parts, parts, grid_of, tiles_of}
use Rattle.std.proofs.Math.Nat.{mul-le-mul_right}
use Rattle.std.proofs.lemmas.List.Sums.{sum_by-cons}
use Rattle.std.proofs.lemmas.List.FromFn.{length-range_with_len}
use Rattle.segment_cut.proofs.Lists.{count_by-map, count_by-no, count_by-yes, and-assoc, count_by-flat_map, count_by-and, count_by-all, sum_by-same, all-flat_map, all-map, all-each, all-range}

-- a place lies in the span with this number
abbrev pub is_in : ℕ → ℕ → ℕ → ℕ → Bool
is_in size n x k = nat_le (k * size) x && nat_lt x (k * size + min size (n - k * size))

next_begin : (k size : ℕ) → (k + 1) * size ≡ k * size + size
next_begin k size = omega arith

-- a place before all spans from k on lies in none
count-below : (size n x k c : ℕ) → x < k * size → count_by (is_in size n x) (range_with_len k c) ≡ 0
count-below size n x k zero below = refl
count-below size n x k (suc c) below =
    let no : is_in size n x k ≡ false = grind arith in
    count_by-no (is_in size n x) k (range_with_len (k + 1) c) no ∙ count-below size n x (k + 1) c (omega (arith, below, next_begin k size))

-- and one that the spans reach in exactly one
count-in : (size n x k c : ℕ) → x < n → k * size ≤ x → x < (k + c) * size → count_by (is_in size n x) (range_with_len k c) ≡ 1
count-in size n x k zero lt low high = let same : k + 0 ≡ k = omega arith in absurd (omega (arith, ap (λ m. m * size) same))
count-in size n x k (suc c) lt low high = by_side (nat_lt x (k * size + size)) refl (λ far. count-in size n x (k + 1) c lt far (omega (arith, high, ap (λ m. m * size) moved)))
  where
    moved : k + suc c ≡ (k + 1) + c
    moved = omega arith

    by_side : (b : Bool) → nat_lt x (k * size + size) ≡ b → ((k + 1) * size ≤ x → count_by (is_in size n x) (range_with_len (k + 1) c) ≡ 1) → count_by (is_in size n x) (range_with_len k (suc c)) ≡ 1
    by_side true e later =
        let yes : is_in size n x k ≡ true = grind arith in
        let before : x < (k + 1) * size = grind (arith, next_begin k size) in
        count_by-yes (is_in size n x) k (range_with_len (k + 1) c) yes ∙ ap (λ m. 1 + m) (count-below size n x (k + 1) c before)
    by_side false e later =
        let no : is_in size n x k ≡ false = grind arith in
        let far : (k + 1) * size ≤ x = grind (arith, next_begin k size) in
        count_by-no (is_in size n x) k (range_with_len (k + 1) c) no ∙ later far

-- a span begins within the places
pub begins-within : (n size k : ℕ) → 1 ≤ size → k < div_ceil n size → k * size ≤ n
begins-within n size k some lt =
    let times = div_ceil_times n size some in
    let less : (k + 1) * size ≤ div_ceil n size * size = mul-le-mul_right size (omega arith) in
    omega (arith, less, times.1, next_begin k size)

-- and so does the first, where there are no places
pub begins-within-max : (n size k : ℕ) → 1 ≤ size → k < max 1 (div_ceil n size) → k * size ≤ n
begins-within-max n size zero some lt = omega arith
begins-within-max n size (suc k) some lt = begins-within n size (suc k) some (grind arith)

-- all spans together reach the end
reaches : (n size c : ℕ) → 1 ≤ size → div_ceil n size ≤ c → n ≤ (0 + c) * size
reaches n size c some le =
    let times = div_ceil_times n size some in
    let more : div_ceil n size * size ≤ (0 + c) * size = mul-le-mul_right size (omega arith) in
    omega (arith, more, times.0)

-- each place lies in exactly one span
count-spans : (n size c x : ℕ) → 1 ≤ size → div_ceil n size ≤ c → x < n → count_by (is_in size n x) (range_with_len 0 c) ≡ 1
count-spans n size c x some le lt = count-in size n x 0 c lt (omega arith) (omega (arith, reaches n size c some le))

count_by-same : {X : Type 0} (p q : X → Bool) (xs : List X) → ((x : X) → p x ≡ q x) → count_by p xs ≡ count_by q xs
count_by-same p q xs same = sum_by-same _ _ xs (λ x. ap (λ b. cond b 1 0) (same x))

-- how many parts of a block have a cell, and a row
cells-in_block : (g : Grid) (row column block : ℕ) → 1 ≤ g.cutting.cols → column < g.cols → count_by (λ p. has_cell p row column) (block_parts g block) ≡ cond (is_in g.cutting.rows g.rows row block) 1 0
cells-in_block g row column block some lt =
    count_by-map (λ p. has_cell p row column) (part_at g block) (range_with_len 0 (col_blocks g))
    ∙ count_by-same (λ s. has_cell (part_at g block s) row column) _ (range_with_len 0 (col_blocks g)) (λ s. and-assoc (is_in g.cutting.rows g.rows row block) (nat_le (s * g.cutting.cols) column) _)
    ∙ count_by-and (is_in g.cutting.rows g.rows row block) (is_in g.cutting.cols g.cols column) (range_with_len 0 (col_blocks g))
    ∙ ap (λ n. cond (is_in g.cutting.rows g.rows row block) n 0) (count-spans g.cols g.cutting.cols (col_blocks g) column some (grind arith) lt)

rows-in_block : (g : Grid) (row block : ℕ) → cond (is_in g.cutting.rows g.rows row block) 1 0 ≤ count_by (λ p. has_row p row) (block_parts g block)
rows-in_block g row block =
    let counted : count_by (λ p. has_row p row) (block_parts g block) ≡ count_by (λ (s : ℕ). is_in g.cutting.rows g.rows row block) (range_with_len 0 (col_blocks g)) = count_by-map (λ p. has_row p row) (part_at g block) (range_with_len 0 (col_blocks g)) in
    rw counted (by_case (is_in g.cutting.rows g.rows row block))
  where
    by_case : (b : Bool) → cond b 1 0 ≤ count_by (λ (s : ℕ). b) (range_with_len 0 (col_blocks g))
    by_case false = omega arith
    by_case true =
        let all = count_by-all (range_with_len 0 (col_blocks g)) ∙ length-range_with_len 0 (col_blocks g) in
        let some : 1 ≤ col_blocks g = grind arith in
        rw all some

sum_by-at_least : {X : Type 0} (f g : X → ℕ) (xs : List X) → ((x : X) → f x ≤ g x) → sum_by f xs ≤ sum_by g xs
sum_by-at_least f g [] less = omega arith
sum_by-at_least f g (x ∷ xs) less = omega (arith, less x, sum_by-cons f x xs, sum_by-cons g x xs, sum_by-at_least f g xs less)

-- the parts of a grid lie within its rows and columns
lies-in : (f : Frame) (c : Cutting) (block slice : ℕ) → IsCutting c → block < row_blocks (grid_of f c) → slice < col_blocks (grid_of f c) → LiesIn f (part_at (grid_of f c) block slice)
lies-in f c block slice is block_lt slice_lt =
    let row = begins-within (length f.rows) c.rows block is.some_rows block_lt in
    let col = begins-within-max (length f.schema.columns) c.cols slice is.some_cols slice_lt in
    (grind (arith, row), grind (arith, col))

-- the parts of a grid with their cuts tile the frame
pub tiled-grid : (f : Frame) (c : Cutting) → IsCutting c → Tiled f (tiles_of f c)
tiled-grid f c is =
    let g = grid_of f c in
    record {
      inside = all-map (λ (t : Tile). LiesIn f t.0) (λ p. (p, cut f p)) (parts g) (all-flat_map (LiesIn f) (block_parts g) (range_with_len 0 (row_blocks g)) (all-range _ 0 (row_blocks g) (λ b low b_lt. all-map (LiesIn f) (part_at g b) (range_with_len 0 (col_blocks g)) (all-range _ 0 (col_blocks g) (λ s low s_lt. lies-in f c b s is (omega (arith, b_lt)) (omega (arith, s_lt)))))));
      parts = all-map (λ (t : Tile). t.1 ≡ cut f t.0) (λ p. (p, cut f p)) (parts g) (all-each _ (parts g) (λ p. refl));
      cells = λ row column row_lt column_lt.
          count_by-map (λ (t : Tile). has_cell t.0 row column) (λ p. (p, cut f p)) (parts g)
          ∙ count_by-flat_map (λ p. has_cell p row column) (block_parts g) (range_with_len 0 (row_blocks g))
          ∙ sum_by-same _ _ (range_with_len 0 (row_blocks g)) (λ b. cells-in_block g row column b is.some_cols column_lt)
          ∙ count-spans (length f.rows) c.rows (row_blocks g) row is.some_rows (omega arith) row_lt;
      rows = λ row row_lt.
          let counted = count_by-map (λ (t : Tile). has_row t.0 row) (λ p. (p, cut f p)) (parts g) ∙ count_by-flat_map (λ p. has_row p row) (block_parts g) (range_with_len 0 (row_blocks g)) in
          let least = sum_by-at_least _ _ (range_with_len 0 (row_blocks g)) (rows-in_block g row) in
          let once = count-spans (length f.rows) c.rows (row_blocks g) row is.some_rows (omega arith) row_lt in
          rw counted (subst (λ n. n ≤ sum_by (λ b. count_by (λ p. has_row p row) (block_parts g b)) (range_with_len 0 (row_blocks g))) once least);
    }
