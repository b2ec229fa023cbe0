-- The row blocks of pieces, and of the slots that are laid out of them.
use Rattle.std.proofs.Common.{◌≡◌, ℕ, suc, ◌+◌, List, [], ◌∷◌, ◌++◌, length, map, refl, sym, ap, ◌∙◌, subst, arith, cond, None}
use Rattle.std.specs.Prelude.{ℤ, ◌*◌, nat_eq}
use Rattle.std.specs.List.{AllByRecursion}
use Rattle.std.proofs.lemmas.List.{append-nil}
use Rattle.frame_core.specs.declared.part.Part as frame_parts
use Rattle.frame_core.specs.Ranges.{Range}
use Rattle.frame_core.specs.Schemas.{Schema}
use Rattle.frame_core.specs.Frames.{Frame}
use Rattle.segment_cut.specs.Cuttings.{Cutting as Sizes, IsCutting}
use Rattle.segment_cut.specs.Grids.{parts, grid_of}
use Rattle.index_tree.specs.declared.index.Slot.{Slot}
use Rattle.key_kind.specs.Names.{Name}
use Rattle.bucket_core.specs.declared.event.Change.TheVariants as changes
use Rattle.bucket_core.specs.History.{History}
use Rattle.store_model.specs.Library.{state_of, base_of}
use Rattle.store_model.specs.Links.{links}
use Rattle.reply_model.specs.Blocks.{Cutting, Part, block_sizes, tiles_across, shared, fresh, cut_rows, parts_of}
use Rattle.reply_model.specs.Standing.{row_sizes, base_rows, rows_of_version, bare_block, part_rows, fresh_in, parts_laid}
use Rattle.reply_model.proofs.GridCounts.{write_counted, grid_rows}
use Rattle.frame_write.specs.declared.pieces.Piece.{Piece}
use Rattle.frame_write.specs.declared.pieces.Piece.TheVariants as pieces
use Rattle.index_tree.specs.SlotTexts.{moved}
use Rattle.frame_write.specs.Pieces.{begin_of, size_of, IsPiece, fresh_slot, fresh_slots, laid, new_tiles}
use Rattle.append_update.specs.Replacing.{appended}
use Rattle.append_update.specs.RowBlocks.{sizes_in, new_blocks, AreParts}
use Rattle.reply_model.specs.Blocks.{run_cutting}
use Rattle.append_update.proofs.SlotSizes.{begins, row_sizes-append, row_sizes-cons}

-- ---- the rows of slots

moved_rows : (from to : ℕ) (run : List Slot) → row_sizes (map (moved from to) run) ≡ row_sizes run
moved_rows from to [] = refl
moved_rows from to (s ∷ run) =
    row_sizes-cons (moved from to s) (map (moved from to) run) ∙ (ap (λ ns. cond (begins s) (s.part.rows ∷ ns) ns) (moved_rows from to run) ∙ sym (row_sizes-cons s run))

-- ---- the rows of new slots

module _ (client : ℕ) (symbol : Name) (version : ℕ) (frame : Frame) where
  -- a slot of this part
  abbrev slot_of : frame_parts.Part → Slot
  slot_of part = record (fresh_slot client symbol version 0 0 frame part) { part = part }

  fresh_rows : (to serial : ℕ) (ps : List frame_parts.Part) → row_sizes (fresh_slots client symbol version to serial frame ps) ≡ row_sizes (map slot_of ps)
  fresh_rows to serial [] = refl
  fresh_rows to serial (p ∷ ps) =
      row_sizes-cons (fresh_slot client symbol version to serial frame p) (fresh_slots client symbol version to (suc serial) frame ps)
      ∙ (ap (λ ns. cond (nat_eq p.first_col 0) (p.rows ∷ ns) ns) (fresh_rows to (suc serial) ps) ∙ sym (row_sizes-cons (slot_of p) (map slot_of ps)))

  slots_have : (ps : List frame_parts.Part) → map (λ (s : Slot). s.part) (map slot_of ps) ≡ ps
  slots_have [] = refl
  slots_have (p ∷ ps) = ap (λ qs. p ∷ qs) (slots_have ps)

-- ---- the slots that are laid out of pieces

module _ (cutting : Sizes) (cut : IsCutting cutting) (client : ℕ) (symbol : Name) (version : ℕ) where
  abbrev c : Cutting
  c = run_cutting cutting

  -- new slots have the rows of the frame's blocks
  pub new_rows : (to serial : ℕ) (frame : Frame) → row_sizes (fresh_slots client symbol version to serial frame (parts (grid_of frame cutting))) ≡ block_sizes c (length frame.rows)
  new_rows to serial frame =
      let ps = parts (grid_of frame cutting) in
      fresh_rows client symbol version frame to serial ps ∙ grid_rows c frame (map (slot_of client symbol version frame) ps) cut.some_rows cut.some_cols (slots_have client symbol version frame ps)

  -- all slots have the rows of the pieces' row blocks
  pub laid_rows : (to serial : ℕ) (list : List Piece) → row_sizes (laid cutting client symbol version to serial list) ≡ sizes_in c list
  laid_rows to serial [] = refl
  laid_rows to serial (pieces.Shared run ∷ list) =
      let rest = laid cutting client symbol version (to + size_of run) serial list in
      row_sizes-append (map (moved (begin_of run) to) run) rest
      ∙ (ap (λ ns. ns ++ row_sizes rest) (moved_rows (begin_of run) to run) ∙ ap (λ ns. row_sizes run ++ ns) (laid_rows (to + size_of run) serial list))
  laid_rows to serial (pieces.Fresh frame ∷ list) =
      let ps = parts (grid_of frame cutting) in
      let rest = laid cutting client symbol version (to + length frame.rows) (serial + length ps) list in
      row_sizes-append (fresh_slots client symbol version to serial frame ps) rest
      ∙ (ap (λ ns. ns ++ row_sizes rest) (new_rows to serial frame)
      ∙ ap (λ ns. block_sizes c (length frame.rows) ++ ns) (laid_rows (to + length frame.rows) (serial + length ps) list))

-- ---- how many tiles are new

pub fresh_all : (sizes : List ℕ) → fresh_in (map fresh sizes) ≡ length sizes
fresh_all [] = refl
fresh_all (n ∷ sizes) = ap (λ k. suc k) (fresh_all sizes)

-- those of each new row block
pub tiles_counted : (cutting : Sizes) (schema : Schema) (slots : List Slot) (list : List Piece) → AllByRecursion (IsPiece schema slots) list
    → new_tiles cutting list ≡ new_blocks (run_cutting cutting) list * tiles_across (run_cutting cutting) (length schema.columns)
tiles_counted cutting schema slots [] each = omega arith
tiles_counted cutting schema slots (pieces.Shared run ∷ list) each = tiles_counted cutting schema slots list each.1
tiles_counted cutting schema slots (pieces.Fresh frame ∷ list) each =
    let c = run_cutting cutting in
    let across = tiles_across c (length schema.columns) in
    let sizes = block_sizes c (length frame.rows) in
    let here : length (parts (grid_of frame cutting)) ≡ length sizes * across =
    sym (write_counted c frame) ∙ (ap (λ k. k * tiles_across c (length frame.schema.columns)) (fresh_all sizes) ∙ ap (λ (s : Schema). length sizes * tiles_across c (length s.columns)) each.0.1) in
    let more = tiles_counted cutting schema slots list each.1 in
    let sum : (length sizes + new_blocks c list) * across ≡ length sizes * across + new_blocks c list * across = omega arith in
    omega (arith, here, more, sum)

-- ---- the parts of a version

pub rows_fresh : (sizes : List ℕ) → map part_rows (map fresh sizes) ≡ sizes
rows_fresh [] = refl
rows_fresh (n ∷ sizes) = ap (λ ns. n ∷ ns) (rows_fresh sizes)

rows_shared : (rows : List ℕ) (ps : List Part) → map part_rows (map shared (map bare_block rows) ++ ps) ≡ rows ++ map part_rows ps
rows_shared [] ps = refl
rows_shared (n ∷ rows) ps = ap (λ ns. n ∷ ns) (rows_shared rows ps)

fresh_shared : (rows : List ℕ) (ps : List Part) → fresh_in (map shared (map bare_block rows) ++ ps) ≡ fresh_in ps
fresh_shared [] ps = refl
fresh_shared (n ∷ rows) ps = fresh_shared rows ps

-- all new rows
all_new : (c : Cutting) (frame : Frame) → AreParts c (pieces.Fresh frame ∷ []) (cut_rows c (length frame.rows))
all_new c frame =
    let sizes = block_sizes c (length frame.rows) in
    record {
      rows = append-nil sizes ∙ sym (rows_fresh sizes);
      fresh = omega (arith, fresh_all sizes);
    }

module _ (c : Cutting) (h : History) (symbol : Name) where
  -- all row blocks of the base, and behind them those of the frame
  pub appended_parts : (slots : List Slot) (frame : Frame) (at : ℤ) → base_rows h symbol ≡ row_sizes slots → AreParts c (appended slots frame) (parts_laid c h symbol (changes.Appended frame at))
  appended_parts slots frame at are =
      let sizes = block_sizes c (length frame.rows) in
      record {
        rows = ap (λ ns. row_sizes slots ++ ns) (append-nil sizes ∙ sym (rows_fresh sizes))
            ∙ (sym (rows_shared (row_sizes slots) (cut_rows c (length frame.rows))) ∙ ap (λ ns. map part_rows (map shared (map bare_block ns) ++ cut_rows c (length frame.rows))) (sym are));
        fresh = omega (arith, fresh_shared (base_rows h symbol) (cut_rows c (length frame.rows)), fresh_all sizes);
      }

  -- without a base those of the frame
  module _ (none : base_of (state_of h symbol) ≡ None) where
    no_rows : base_rows h symbol ≡ []
    no_rows = ap (rows_of_version (links h symbol)) none

    pub appended_alone : (frame : Frame) (at : ℤ) → AreParts c (pieces.Fresh frame ∷ []) (parts_laid c h symbol (changes.Appended frame at))
    appended_alone frame at = subst (AreParts c (pieces.Fresh frame ∷ [])) (ap (λ ns. map shared (map bare_block ns) ++ cut_rows c (length frame.rows)) (sym no_rows)) (all_new c frame)

    pub updated_alone : (frame : Frame) (range : Range) (at : ℤ) → AreParts c (pieces.Fresh frame ∷ []) (parts_laid c h symbol (changes.Updated frame range at))
    updated_alone frame range at =
        subst (AreParts c (pieces.Fresh frame ∷ [])) (ap (λ v. parts_of c v (map bare_block (base_rows h symbol)) (changes.Updated frame range at)) (sym none)) (all_new c frame)
