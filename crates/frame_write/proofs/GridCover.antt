-- Slots of all parts of a grid, in their order, cover the frame.
use Rattle.std.proofs.Common.{◌≡◌, ℕ, zero, suc, ◌+◌, ◌-◌, ◌*◌, ◌<◌, ◌≤◌, min, max, List, [], ◌∷◌, ◌++◌, length, map, Some, refl, sym, ap, ◌∙◌, subst, arith, inl, inr}
use Rattle.std.specs.Prelude.{slice_range}
use Rattle.std.specs.List.{AllByRecursion, flat_map, range_with_len}
use Rattle.std.specs.Int.{div_ceil}
use Rattle.std.proofs.lemmas.Grind.{div_ceil_times}
use Rattle.std.proofs.Math.Nat.{mul-le-mul_right, le-mul_of_pos_right}
use Rattle.std.proofs.lemmas.Nat.{mul-le}
use Rattle.std.proofs.lemmas.List.FromFn.{length-map-range_with_len}
use Rattle.std.proofs.lemmas.List.{length-append}
use Rattle.frame_core.specs.declared.part.Part.{Part}
use Rattle.frame_core.specs.Frames.{Frame, IsFrame, first_stamp, last_stamp}
use Rattle.segment_cut.specs.Cuttings.{Cutting, IsCutting}
use Rattle.segment_cut.specs.Grids.{Grid, grid_of, part_at, block_parts, row_blocks, col_blocks, parts}
use Rattle.segment_cut.proofs.GridLemmas.{begins-within}
use Rattle.index_tree.specs.declared.index.Slot.{Slot}
use Rattle.index_tree.specs.IndexRules.{SameBlock, NextBlock, LeadOn, Cover}
use Rattle.store_model.specs.Commits.{HasSlotStamps}
use Rattle.frame_write.proofs.RowStamps.{slices_ordered}

-- ---- spans of a size

next_begin : (k size : ℕ) → (k + 1) * size ≡ k * size + size
next_begin k size = omega arith

-- each span has a place
pub begins_before : (n size k : ℕ) → 1 ≤ size → k < div_ceil n size → k * size < n
begins_before n size k some lt =
    let times = div_ceil_times n size some in
    let less : (k + 1) * size ≤ div_ceil n size * size = mul-le-mul_right size (omega (arith, lt)) in
    omega (arith, less, times.1, next_begin k size)

pub begins_before_max : (n size k : ℕ) → 1 ≤ size → 1 ≤ n → k < max 1 (div_ceil n size) → k * size < n
begins_before_max n size zero some places lt = omega (arith, places)
begins_before_max n size (suc k) some places lt = begins_before n size (suc k) some (grind arith)

-- a span that is not the last is full, and places are left behind it
pub places_left : (n size k : ℕ) → 1 ≤ size → k + 1 < div_ceil n size → k * size + size < n
places_left n size k some lt = omega (arith, begins_before n size (k + 1) some lt, next_begin k size)

-- the last span ends at the end
pub ends_there : (n size k : ℕ) → 1 ≤ size → k + 1 ≡ div_ceil n size → k * size + min size (n - k * size) ≡ n
ends_there n size k some last =
    let times = div_ceil_times n size some in
    let begin = begins-within n size k some (omega (arith, last)) in
    let whole : (k + 1) * size ≡ div_ceil n size * size = ap (λ m. m * size) last in
    omega (arith, begin, times.0, whole, next_begin k size)

pub ends_there_max : (n size k : ℕ) → 1 ≤ size → k + 1 ≡ max 1 (div_ceil n size) → k * size + min size (n - k * size) ≡ n
ends_there_max n size zero some last =
    let times = div_ceil_times n size some in
    let short : div_ceil n size * size ≤ 1 * size = mul-le-mul_right size (grind arith) in
    omega (arith, times.0, short)
ends_there_max n size (suc k) some last = ends_there n size (suc k) some (grind arith)

pub no_places : (n size : ℕ) → 1 ≤ size → div_ceil n size ≡ 0 → n ≡ 0
no_places n size some none =
    let times = div_ceil_times n size some in
    let whole : div_ceil n size * size ≡ 0 * size = ap (λ m. m * size) none in
    omega (arith, times.0, whole)

-- a number above 0 is one more than another
pub record IsMore (n : ℕ) : Type 0 where
  pub one_less : ℕ
  pub is : n ≡ suc one_less

pub is_more : (n : ℕ) → 1 ≤ n → IsMore n
is_more zero some = absurd (omega arith)
is_more (suc n) some = record { one_less = n; is = refl }

-- there are no more spans than places
few_spans : (n size : ℕ) → 1 ≤ size → div_ceil n size ≤ n
few_spans n size some = by_number (div_ceil n size) refl
  where
    by_number : (m : ℕ) → div_ceil n size ≡ m → m ≤ n
    by_number zero e = omega arith
    by_number (suc k) e =
        let before = begins_before n size k some (omega (arith, e)) in
        let less : k ≤ k * size = le-mul_of_pos_right k (omega (arith, some)) in
        omega (arith, before, less)

-- so many blocks have so many parts
count_parts : (g : Grid) (block n : ℕ) → length (flat_map (block_parts g) (range_with_len block n)) ≡ n * col_blocks g
count_parts g block zero = omega arith
count_parts g block (suc n) =
    let rest = count_parts g (block + 1) n in
    let here : length (block_parts g block) ≡ col_blocks g = length-map-range_with_len (part_at g block) 0 (col_blocks g) in
    let both : length (block_parts g block ++ flat_map (block_parts g) (range_with_len (block + 1) n)) ≡ length (block_parts g block) + length (flat_map (block_parts g) (range_with_len (block + 1) n)) = length-append (block_parts g block) (flat_map (block_parts g) (range_with_len (block + 1) n)) in
    let more : suc n * col_blocks g ≡ col_blocks g + n * col_blocks g = omega arith in
    both ∙ omega (arith, here, rest) ∙ sym more

pub at_most : (r k most : ℕ) → r ≤ most → r * k ≤ most → r * max 1 k ≤ most
at_most r zero most few cells = omega (arith, few)
at_most r (suc k) most few cells = let same : max 1 (suc k) ≡ suc k = omega arith in rw same cells

-- a grid has no more parts than it has cells, or rows
pub few_parts : (f : Frame) (c : Cutting) (most : ℕ) → IsCutting c → length f.rows ≤ most → length f.rows * length f.schema.columns ≤ most → length (parts (grid_of f c)) ≤ most
few_parts f c most is rows cells =
    let g = grid_of f c in
    let counted = count_parts g 0 (row_blocks g) in
    let row = few_spans (length f.rows) c.rows is.some_rows in
    let col = few_spans (length f.schema.columns) c.cols is.some_cols in
    let less : row_blocks g * col_blocks g ≤ length f.rows * max 1 (length f.schema.columns) = mul-le (row_blocks g) (col_blocks g) (length f.rows) (max 1 (length f.schema.columns)) row (grind (arith, col)) in
    omega (arith, counted, less, at_most (length f.rows) (length f.schema.columns) most rows cells)

-- ---- slots of a grid

module _ (f : Frame) (c : Cutting) (is : IsFrame f) (cutting : IsCutting c) where
  -- the slot's part is the one of the block and the slice
  record IsAt (s : Slot) (block slice : ℕ) : Type 0 where
    pub first_row : s.part.first_row ≡ block * c.rows
    pub rows : s.part.rows ≡ min c.rows (length f.rows - block * c.rows)
    pub first_col : s.part.first_col ≡ slice * c.cols
    pub cols : s.part.cols ≡ min c.cols (length f.schema.columns - slice * c.cols)

  is_at : (s : Slot) (block slice : ℕ) → s.part ≡ part_at (grid_of f c) block slice → IsAt s block slice
  is_at s block slice e = record {
    first_row = ap (λ (p : Part). p.first_row) e;
    rows = ap (λ (p : Part). p.rows) e;
    first_col = ap (λ (p : Part). p.first_col) e;
    cols = ap (λ (p : Part). p.cols) e;
  }

  same_block : (s t : Slot) (block slice : ℕ) → IsAt s block slice → IsAt t block (slice + 1) → slice + 1 < col_blocks (grid_of f c) → HasSlotStamps f s → HasSlotStamps f t → SameBlock (length f.schema.columns) s t
  same_block s t block slice at next lt stamps later =
      let left = places_left (length f.schema.columns) c.cols slice cutting.some_cols (grind arith) in
      let begin = next_begin slice c.cols in
      let row : t.part.first_row ≡ s.part.first_row = next.first_row ∙ sym at.first_row in
      let rows : t.part.rows ≡ s.part.rows = next.rows ∙ sym at.rows in
      let range : slice_range f.rows t.part.first_row (t.part.first_row + t.part.rows) ≡ slice_range f.rows s.part.first_row (s.part.first_row + s.part.rows) = rw (row, rows) refl in
      let first : Some t.first ≡ Some s.first = sym later.first ∙ ap first_stamp range ∙ stamps.first in
      let last : Some t.last ≡ Some s.last = sym later.last ∙ ap last_stamp range ∙ stamps.last in
      record {
        left = omega (arith, at.first_col, at.cols, left);
        first_row = row;
        rows = rows;
        first = cc;
        last = cc;
        first_col = omega (arith, at.first_col, at.cols, left, next.first_col, begin);
      }

  next_block : (s t : Slot) (block slice : ℕ) → IsAt s block slice → IsAt t (block + 1) 0 → slice + 1 ≡ col_blocks (grid_of f c) → block + 1 < row_blocks (grid_of f c) → HasSlotStamps f s → HasSlotStamps f t → NextBlock (length f.schema.columns) s t
  next_block s t block slice at next last lt stamps later =
      let whole = ends_there_max (length f.schema.columns) c.cols slice cutting.some_cols last in
      let left = places_left (length f.rows) c.rows block cutting.some_rows lt in
      let begin = next_begin block c.rows in
      let row : t.part.first_row ≡ s.part.first_row + s.part.rows = omega (arith, at.first_row, at.rows, next.first_row, left, begin) in
      let after : first_stamp (slice_range f.rows (s.part.first_row + s.part.rows) ((s.part.first_row + s.part.rows) + t.part.rows)) ≡ Some t.first = subst (λ n. first_stamp (slice_range f.rows n (n + t.part.rows)) ≡ Some t.first) row later.first in
      record {
        whole = omega (arith, at.first_col, at.cols, whole);
        first_row = row;
        first = slices_ordered s.part.first_row s.part.rows t.part.rows f.rows s.last t.first is.ascending stamps.last after;
        first_col = omega (arith, next.first_col);
      }

  -- the slots from one on, where so many slices of its block and so many blocks are left
  lead_on : (s : Slot) (more : List Slot) (block slice left blocks : ℕ) → s.part ≡ part_at (grid_of f c) block slice → map (λ (s : Slot). s.part) more ≡ map (part_at (grid_of f c) block) (range_with_len (slice + 1) left) ++ flat_map (block_parts (grid_of f c)) (range_with_len (block + 1) blocks) → (slice + 1) + left ≡ col_blocks (grid_of f c) → (block + 1) + blocks ≡ row_blocks (grid_of f c) → HasSlotStamps f s → AllByRecursion (HasSlotStamps f) more → LeadOn (length f.rows) (length f.schema.columns) s more
  lead_on s [] block slice (suc left) blocks here are slices_are blocks_are stamps all = absurd cc
  lead_on s (t ∷ more) block slice (suc left) blocks here are slices_are blocks_are stamps all =
      let next : t.part ≡ part_at (grid_of f c) block (slice + 1) = cc in
      let rest : map (λ (s : Slot). s.part) more ≡ map (part_at (grid_of f c) block) (range_with_len ((slice + 1) + 1) left) ++ flat_map (block_parts (grid_of f c)) (range_with_len (block + 1) blocks) = cc in
      let lt : slice + 1 < col_blocks (grid_of f c) = omega (arith, slices_are) in
      let less : ((slice + 1) + 1) + left ≡ col_blocks (grid_of f c) = omega arith ∙ slices_are in
      (inl (same_block s t block slice (is_at s block slice here) (is_at t block (slice + 1) next) lt stamps all.0), lead_on t more block (slice + 1) left blocks next rest less blocks_are all.0 all.1)
  lead_on s [] block slice zero zero here are slices_are blocks_are stamps all =
      let at = is_at s block slice here in
      let rows = ends_there (length f.rows) c.rows block cutting.some_rows (omega arith ∙ blocks_are) in
      let cols = ends_there_max (length f.schema.columns) c.cols slice cutting.some_cols (omega arith ∙ slices_are) in
      (omega (arith, at.first_row, at.rows, rows), omega (arith, at.first_col, at.cols, cols))
  lead_on s (t ∷ more) block slice zero zero here are slices_are blocks_are stamps all = absurd cc
  lead_on s [] block slice zero (suc blocks) here are slices_are blocks_are stamps all =
      let k = is_more (col_blocks (grid_of f c)) (grind arith) in
      let split : map (λ (s : Slot). s.part) [] ≡ map (part_at (grid_of f c) (block + 1)) (range_with_len 0 (suc k.one_less)) ++ flat_map (block_parts (grid_of f c)) (range_with_len ((block + 1) + 1) blocks) = subst (λ n. map (λ (s : Slot). s.part) [] ≡ map (part_at (grid_of f c) (block + 1)) (range_with_len 0 n) ++ flat_map (block_parts (grid_of f c)) (range_with_len ((block + 1) + 1) blocks)) k.is are in
      absurd cc
  lead_on s (t ∷ more) block slice zero (suc blocks) here are slices_are blocks_are stamps all =
      let k = is_more (col_blocks (grid_of f c)) (grind arith) in
      let split : map (λ (s : Slot). s.part) (t ∷ more) ≡ map (part_at (grid_of f c) (block + 1)) (range_with_len 0 (suc k.one_less)) ++ flat_map (block_parts (grid_of f c)) (range_with_len ((block + 1) + 1) blocks) = subst (λ n. map (λ (s : Slot). s.part) (t ∷ more) ≡ map (part_at (grid_of f c) (block + 1)) (range_with_len 0 n) ++ flat_map (block_parts (grid_of f c)) (range_with_len ((block + 1) + 1) blocks)) k.is are in
      let next : t.part ≡ part_at (grid_of f c) (block + 1) 0 = cc in
      let rest : map (λ (s : Slot). s.part) more ≡ map (part_at (grid_of f c) (block + 1)) (range_with_len (0 + 1) k.one_less) ++ flat_map (block_parts (grid_of f c)) (range_with_len ((block + 1) + 1) blocks) = cc in
      let last : slice + 1 ≡ col_blocks (grid_of f c) = omega arith ∙ slices_are in
      let lt : block + 1 < row_blocks (grid_of f c) = omega (arith, blocks_are) in
      let slices_next : (0 + 1) + k.one_less ≡ col_blocks (grid_of f c) = omega arith ∙ sym k.is in
      let blocks_next : ((block + 1) + 1) + blocks ≡ row_blocks (grid_of f c) = omega arith ∙ blocks_are in
      (inr (next_block s t block slice (is_at s block slice here) (is_at t (block + 1) 0 next) last lt stamps all.0), lead_on t more (block + 1) 0 k.one_less blocks next rest slices_next blocks_next all.0 all.1)

  -- from the first on
  pub cover_from : (slots : List Slot) (blocks : ℕ) → row_blocks (grid_of f c) ≡ blocks → map (λ (s : Slot). s.part) slots ≡ flat_map (block_parts (grid_of f c)) (range_with_len 0 blocks) → AllByRecursion (HasSlotStamps f) slots → Cover (length f.rows) (length f.schema.columns) slots
  cover_from [] zero blocks_are are all = no_places (length f.rows) c.rows cutting.some_rows blocks_are
  cover_from (s ∷ more) zero blocks_are are all = absurd cc
  cover_from [] (suc blocks) blocks_are are all =
      let k = is_more (col_blocks (grid_of f c)) (grind arith) in
      let split : map (λ (s : Slot). s.part) [] ≡ map (part_at (grid_of f c) 0) (range_with_len 0 (suc k.one_less)) ++ flat_map (block_parts (grid_of f c)) (range_with_len (0 + 1) blocks) = subst (λ n. map (λ (s : Slot). s.part) [] ≡ map (part_at (grid_of f c) 0) (range_with_len 0 n) ++ flat_map (block_parts (grid_of f c)) (range_with_len (0 + 1) blocks)) k.is are in
      absurd cc
  cover_from (s ∷ more) (suc blocks) blocks_are are all =
      let k = is_more (col_blocks (grid_of f c)) (grind arith) in
      let split : map (λ (s : Slot). s.part) (s ∷ more) ≡ map (part_at (grid_of f c) 0) (range_with_len 0 (suc k.one_less)) ++ flat_map (block_parts (grid_of f c)) (range_with_len (0 + 1) blocks) = subst (λ n. map (λ (s : Slot). s.part) (s ∷ more) ≡ map (part_at (grid_of f c) 0) (range_with_len 0 n) ++ flat_map (block_parts (grid_of f c)) (range_with_len (0 + 1) blocks)) k.is are in
      let here : s.part ≡ part_at (grid_of f c) 0 0 = cc in
      let rest : map (λ (s : Slot). s.part) more ≡ map (part_at (grid_of f c) 0) (range_with_len (0 + 1) k.one_less) ++ flat_map (block_parts (grid_of f c)) (range_with_len (0 + 1) blocks) = cc in
      let at = is_at s 0 0 here in
      let slices_are : (0 + 1) + k.one_less ≡ col_blocks (grid_of f c) = omega arith ∙ sym k.is in
      let all_blocks : (0 + 1) + blocks ≡ row_blocks (grid_of f c) = omega arith ∙ sym blocks_are in
      (omega (arith, at.first_row), omega (arith, at.first_col), lead_on s more 0 0 k.one_less blocks here rest slices_are all_blocks all.0 all.1)
