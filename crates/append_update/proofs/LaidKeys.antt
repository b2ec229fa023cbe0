-- The keys of the slots that are laid out of pieces: those that the pieces keep, and one for each part of a new row block.
use Rattle.std.proofs.Common.{◌≡◌, ℕ, zero, suc, ◌+◌, ◌≤◌, true, List, [], ◌∷◌, ◌++◌, length, map, refl, sym, ap, ◌∙◌, subst, arith, Option, Some, None}
use Rattle.std.specs.Prelude.{◌*◌}
use Rattle.std.specs.List.{flat_map, range_with_len, AllByRecursion, AllZip}
use Rattle.std.proofs.Math.Nat.{mul-le-mul}
use Rattle.std.proofs.lemmas.Bool.{eq-eqb}
use Rattle.std.proofs.lemmas.List.Concat.{flat_map-cons}
use Rattle.std.proofs.lemmas.List.FromFn.{length-map-range_with_len}
use Rattle.frame_core.specs.declared.part.Part as frame_parts
use Rattle.frame_core.specs.Schemas.{Schema}
use Rattle.frame_core.specs.Frames.{Frame}
use Rattle.segment_cut.specs.Cuttings.{Cutting as Sizes, IsCutting}
use Rattle.segment_cut.specs.Grids.{Grid, row_blocks, col_blocks, part_at, block_parts, parts, grid_of}
use Rattle.index_tree.specs.declared.index.Slot.{Slot}
use Rattle.key_kind.specs.declared.key.Key.{Key}
use Rattle.key_kind.specs.Names.{Name}
use Rattle.reply_model.specs.Blocks.{Cutting, run_cutting, Block, Part, shared, fresh, block_sizes, tiles_across}
use Rattle.reply_model.specs.Keyed.{begins_block, block_keys, IsKeyedPart}
use Rattle.reply_model.proofs.GridCounts.{across_counted}
use Rattle.frame_write.specs.declared.pieces.Piece.{Piece}
use Rattle.frame_write.specs.declared.pieces.Piece.TheVariants as pieces
use Rattle.index_tree.specs.SlotTexts.{moved}
use Rattle.frame_write.specs.Pieces.{begin_of, size_of, IsPiece, fresh_slot, fresh_slots, laid}
use Rattle.append_update.specs.RowBlocks.{keys_in, kept_keys}
use Rattle.append_update.proofs.KeyedSlots.{begins-append, begins-moved, run_begins_block, block_keys-append, moved_keys, one_block, keys_for_rows}
use Rattle.append_update.proofs.RowSizes.{new_rows}

-- ---- new slots

-- the keys of one row block, which has so many, and of those behind it
record IsOneBlock (parts : ℕ) (slots : List Slot) (rest : ℕ → List Slot) : Type 0 where
  pub keys : List Key
  pub serial : ℕ
  pub are : block_keys slots ≡ keys ∷ block_keys (rest serial)
  pub count : length keys ≡ parts

module _ (client : ℕ) (symbol : Name) (version : ℕ) (frame : Frame) (to : ℕ) where
  abbrev slots_of : ℕ → List frame_parts.Part → List Slot
  slots_of serial ps = fresh_slots client symbol version to serial frame ps

  slots_of-append : (serial : ℕ) (ps qs : List frame_parts.Part) → slots_of serial (ps ++ qs) ≡ slots_of serial ps ++ slots_of (serial + length ps) qs
  slots_of-append serial [] qs = let same : serial ≡ serial + 0 = omega arith in ap (λ n. slots_of n qs) same
  slots_of-append serial (p ∷ ps) qs =
      let same : suc serial + length ps ≡ serial + suc (length ps) = omega arith in
      ap (λ l. fresh_slot client symbol version to serial frame p ∷ l) (slots_of-append (suc serial) ps qs ∙ ap (λ n. slots_of (suc serial) ps ++ slots_of n qs) same)

  -- a key for each part
  keys_counted : (serial : ℕ) (ps : List frame_parts.Part) → length (map (λ (s : Slot). s.key) (slots_of serial ps)) ≡ length ps
  keys_counted serial [] = refl
  keys_counted serial (p ∷ ps) = ap suc (keys_counted (suc serial) ps)

  module _ (grid : Grid) (cols : 1 ≤ grid.cutting.cols) where
    -- only the first part of a block begins it
    others_follow : (serial block a m : ℕ) → 1 ≤ a → AllByRecursion (λ (s : Slot). 1 ≤ s.part.first_col) (slots_of serial (map (part_at grid block) (range_with_len a m)))
    others_follow serial block a zero some = tt
    others_follow serial block a (suc m) some =
        let more : 1 * 1 ≤ a * grid.cutting.cols = mul-le-mul some cols in
        (omega (arith, more), others_follow (suc serial) block (a + 1) m (omega arith))

    pub blocks_begin : (serial : ℕ) (blocks : List ℕ) → begins_block (slots_of serial (flat_map (block_parts grid) blocks)) ≡ true
    blocks_begin serial [] = refl
    blocks_begin serial (k ∷ blocks) = ap (λ ps. begins_block (slots_of serial ps)) (flat_map-cons (block_parts grid) k blocks) ∙ first (col_blocks grid) (omega arith)
      where
        first : (m : ℕ) → 1 ≤ m → begins_block (slots_of serial (map (part_at grid k) (range_with_len 0 m) ++ flat_map (block_parts grid) blocks)) ≡ true
        first zero some = absurd (omega (arith, some))
        first (suc m) some = let none : 0 * grid.cutting.cols ≡ 0 = omega arith in eq-eqb (0 * grid.cutting.cols) 0 none

    first_block : (serial block m : ℕ) (rest : List frame_parts.Part) → 1 ≤ m → ((n : ℕ) → begins_block (slots_of n rest) ≡ true)
        → IsOneBlock m (slots_of serial (map (part_at grid block) (range_with_len 0 m) ++ rest)) (λ n. slots_of n rest)
    first_block serial block zero rest some begin = absurd (omega (arith, some))
    first_block serial block (suc m) rest some begin =
        let others = map (part_at grid block) (range_with_len (0 + 1) m) in
        let first = fresh_slot client symbol version to serial frame (part_at grid block 0) in
        let slots = slots_of (suc serial) others in
        let next = suc serial + length others in
        record {
          keys = map (λ (s : Slot). s.key) (first ∷ slots);
          serial = next;
          are = ap (λ l. block_keys (first ∷ l)) (slots_of-append (suc serial) others rest) ∙ one_block first slots (slots_of next rest) (others_follow (suc serial) block (0 + 1) m (omega arith)) (begin next);
          count = ap suc (keys_counted (suc serial) others ∙ length-map-range_with_len (part_at grid block) (0 + 1) m);
        }

    -- each row block of a grid has a key for each slice of the columns
    pub blocks_keyed : (serial : ℕ) (blocks : List ℕ) → AllByRecursion (λ (keys : List Key). length keys ≡ col_blocks grid) (block_keys (slots_of serial (flat_map (block_parts grid) blocks)))
    blocks_keyed serial [] = tt
    blocks_keyed serial (k ∷ blocks) =
        let rest = flat_map (block_parts grid) blocks in
        let one = first_block serial k (col_blocks grid) rest (omega arith) (λ n. blocks_begin n blocks) in
        subst (AllByRecursion (λ (keys : List Key). length keys ≡ col_blocks grid)) (sym (ap (λ ps. block_keys (slots_of serial ps)) (flat_map-cons (block_parts grid) k blocks) ∙ one.are))
        (one.count, blocks_keyed one.serial blocks)

-- ---- slots that are laid out

-- a row block has the keys that it keeps, or so many where it keeps none
abbrev pub HasKept : ℕ → Option (List Key) → List Key → Type 0
HasKept slices None keys = length keys ≡ slices
HasKept slices (Some kept) keys = keys ≡ kept

all_kept : (slices : ℕ) (blocks : List (List Key)) → AllZip (HasKept slices) (map (λ keys. Some keys) blocks) blocks
all_kept slices [] = tt
all_kept slices (keys ∷ blocks) = (refl, all_kept slices blocks)

all_new : (slices : ℕ) (sizes : List ℕ) (blocks : List (List Key)) → length blocks ≡ length sizes → AllByRecursion (λ (keys : List Key). length keys ≡ slices) blocks → AllZip (HasKept slices) (map (λ rows. None) sizes) blocks
all_new slices [] [] same all = tt
all_new slices [] (keys ∷ blocks) same all = absurd (omega (arith, same))
all_new slices (n ∷ sizes) [] same all = absurd (omega (arith, same))
all_new slices (n ∷ sizes) (keys ∷ blocks) same all = (all.0, all_new slices sizes blocks (omega (arith, same)) all.1)

both_kept : (slices : ℕ) (xs ys : List (Option (List Key))) (blocks more : List (List Key)) → AllZip (HasKept slices) xs blocks → AllZip (HasKept slices) ys more → AllZip (HasKept slices) (xs ++ ys) (blocks ++ more)
both_kept slices [] ys [] more a b = b
both_kept slices [] ys (keys ∷ blocks) more a b = absurd a
both_kept slices (x ∷ xs) ys [] more a b = absurd a
both_kept slices (x ∷ xs) ys (keys ∷ blocks) more a b = (a.0, both_kept slices xs ys blocks more a.1 b)

module _ (cutting : Sizes) (cut : IsCutting cutting) (client : ℕ) (symbol : Name) (version : ℕ) (schema : Schema) (slots : List Slot) where
  abbrev c : Cutting
  c = run_cutting cutting

  abbrev across : ℕ
  across = tiles_across c (length schema.columns)

  laid_begins : (to serial : ℕ) (list : List Piece) → AllByRecursion (IsPiece schema slots) list → begins_block (laid cutting client symbol version to serial list) ≡ true
  laid_begins to serial [] each = refl
  laid_begins to serial (pieces.Shared run ∷ list) each =
      begins-append (map (moved (begin_of run) to) run) (laid cutting client symbol version (to + size_of run) serial list) (begins-moved (begin_of run) to run (run_begins_block (length schema.columns) run each.0.1))
      (laid_begins (to + size_of run) serial list each.1)
  laid_begins to serial (pieces.Fresh frame ∷ list) each =
      let grid = grid_of frame cutting in
      begins-append (fresh_slots client symbol version to serial frame (parts grid)) (laid cutting client symbol version (to + length frame.rows) (serial + length (parts grid)) list)
      (blocks_begin client symbol version frame to grid cut.some_cols serial (range_with_len 0 (row_blocks grid)))
      (laid_begins (to + length frame.rows) (serial + length (parts grid)) list each.1)

  fresh_keyed : (to serial : ℕ) (frame : Frame) → frame.schema ≡ schema
      → AllZip (HasKept across) (map (λ rows. None) (block_sizes c (length frame.rows))) (block_keys (fresh_slots client symbol version to serial frame (parts (grid_of frame cutting))))
  fresh_keyed to serial frame same =
      let grid = grid_of frame cutting in
      let new = fresh_slots client symbol version to serial frame (parts grid) in
      let slices : col_blocks grid ≡ across = sym (across_counted c (length frame.schema.columns)) ∙ ap (λ (s : Schema). tiles_across c (length s.columns)) same in
      all_new across (block_sizes c (length frame.rows)) (block_keys new)
      (keys_for_rows new (blocks_begin client symbol version frame to grid cut.some_cols serial (range_with_len 0 (row_blocks grid))) ∙ ap length (new_rows cutting cut client symbol version to serial frame))
      (subst (λ n. AllByRecursion (λ (keys : List Key). length keys ≡ n) (block_keys new)) slices (blocks_keyed client symbol version frame to grid cut.some_cols serial (range_with_len 0 (row_blocks grid))))

  -- they have the keys that the pieces keep
  pub laid_keys : (to serial : ℕ) (list : List Piece) → AllByRecursion (IsPiece schema slots) list → AllZip (HasKept across) (keys_in c list) (block_keys (laid cutting client symbol version to serial list))
  laid_keys to serial [] each = tt
  laid_keys to serial (pieces.Shared run ∷ list) each =
      let rest = laid cutting client symbol version (to + size_of run) serial list in
      subst (AllZip (HasKept across) (keys_in c (pieces.Shared run ∷ list)))
      (sym (block_keys-append (map (moved (begin_of run) to) run) rest (laid_begins (to + size_of run) serial list each.1) ∙ ap (λ l. l ++ block_keys rest) (moved_keys (begin_of run) to run)))
      (both_kept across (map (λ keys. Some keys) (block_keys run)) (keys_in c list) (block_keys run) (block_keys rest) (all_kept across (block_keys run)) (laid_keys (to + size_of run) serial list each.1))
  laid_keys to serial (pieces.Fresh frame ∷ list) each =
      let grid = grid_of frame cutting in
      let new = fresh_slots client symbol version to serial frame (parts grid) in
      let rest = laid cutting client symbol version (to + length frame.rows) (serial + length (parts grid)) list in
      subst (AllZip (HasKept across) (keys_in c (pieces.Fresh frame ∷ list))) (sym (block_keys-append new rest (laid_begins (to + length frame.rows) (serial + length (parts grid)) list each.1)))
      (both_kept across (map (λ rows. None) (block_sizes c (length frame.rows))) (keys_in c list) (block_keys new) (block_keys rest) (fresh_keyed to serial frame each.0.1)
      (laid_keys (to + length frame.rows) (serial + length (parts grid)) list each.1))

-- ---- parts

-- parts have their keys where row blocks have what they keep
pub parts_keyed : (names : Block → List Key) (slices : ℕ) (ps : List Part) (blocks : List (List Key)) → AllZip (HasKept slices) (map (kept_keys names) ps) blocks → AllZip (IsKeyedPart names slices) ps blocks
parts_keyed names slices [] [] kept = tt
parts_keyed names slices [] (keys ∷ blocks) kept = absurd kept
parts_keyed names slices (p ∷ ps) [] kept = absurd kept
parts_keyed names slices (shared x ∷ ps) (keys ∷ blocks) kept = (kept.0, parts_keyed names slices ps blocks kept.1)
parts_keyed names slices (fresh rows ∷ ps) (keys ∷ blocks) kept = (kept.0, parts_keyed names slices ps blocks kept.1)
