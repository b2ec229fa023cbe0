-- The parts of a grid, as the slots of an index.
use Rattle.std.proofs.Common.{◌≡◌, ℕ, ◌+◌, ◌<◌, ◌≤◌, ℤ, List, [], ◌∷◌, length, map, Some, refl, sym, ap, ◌∙◌, subst, arith}
use Rattle.std.specs.Prelude.{slice_range, ◌≤ℤ◌}
use Rattle.std.specs.List.{AllByRecursion, range_with_len}
use Rattle.std.proofs.lemmas.List.{length-map}
use Rattle.key_kind.specs.declared.key.KeyKind.TheVariants as kinds
use Rattle.key_kind.specs.Keys.{IsKey, FitsFields}
use Rattle.frame_core.specs.declared.part.Part.{Part}
use Rattle.frame_core.specs.Frames.{Frame, IsFrame, first_stamp, last_stamp}
use Rattle.frame_core.specs.Limits.{IsStorable}
use Rattle.segment_cut.specs.Cuttings.{Cutting, IsCutting}
use Rattle.segment_cut.specs.Tiles.{LiesIn, Tiled, cut}
use Rattle.segment_cut.specs.Grids.{grid_of, part_at, block_parts, row_blocks, col_blocks, parts, tiles_of}
use Rattle.index_tree.specs.declared.index.Slot.{Slot}
use Rattle.index_tree.specs.IndexRules.{IsSlot, Cover, IsIndex}
use Rattle.store_model.specs.Commits.{HasSlotStamps}
use Rattle.frame_core.proofs.Totals.{map-map}
use Rattle.segment_cut.proofs.Cuts.{IsFrame-cut}
use Rattle.segment_cut.proofs.GridLemmas.{begins-within-max, tiled-grid}
use Rattle.segment_cut.proofs.Lists.{all-flat_map, all-map, all-range, all-unmap}
use Rattle.frame_write.proofs.GridCover.{begins_before, begins_before_max, few_parts, cover_from}
use Rattle.frame_write.proofs.CutLimits.{frame_within, within_cut}
use Rattle.frame_write.proofs.RowStamps.{ends_of, ends_ordered, rising_slice, length_slice, first_cut_rows, last_cut_rows}

-- a part that lies in the frame, with 1 to 100,000 rows; 1 to 127 columns, or none where there is none
pub record IsGridPart (f : Frame) (part : Part) : Type 0 where
  pub lies : LiesIn f part
  pub some_rows : 1 ≤ part.rows
  pub most_rows : part.rows ≤ 100000
  pub some_cols : 1 ≤ length f.schema.columns → 1 ≤ part.cols
  pub most_cols : part.cols ≤ 127

-- the rows of the part have a first and a last stamp, in order
pub record HasStamps (f : Frame) (part : Part) : Type 0 where
  pub first : ℤ
  pub last : ℤ
  pub first_is : first_stamp (slice_range f.rows part.first_row (part.first_row + part.rows)) ≡ Some first
  pub last_is : last_stamp (slice_range f.rows part.first_row (part.first_row + part.rows)) ≡ Some last
  pub ordered : first ≤ℤ last

-- the slot's key is one of a tile with the slot's stamps
pub record HasTileKey (s : Slot) : Type 0 where
  pub is_tile : s.key.kind ≡ kinds.TableData
  pub key : IsKey s.key
  pub fields : FitsFields s.key
  pub first : s.key.first ≡ s.first
  pub last : s.key.last ≡ s.last

-- what is cut from a frame that may be written may be written too
pub storable_cut : (f : Frame) (part : Part) → IsStorable f → LiesIn f part → IsStorable (cut f part)
storable_cut f part is lies = record { is_frame = IsFrame-cut f part is.is_frame; timed = is.timed; within = within_cut f part is.within }

-- the part of a block and a slice
pub grid_part : (f : Frame) (c : Cutting) (block slice : ℕ) → IsCutting c → block < row_blocks (grid_of f c) → slice < col_blocks (grid_of f c) → IsGridPart f (part_at (grid_of f c) block slice)
grid_part f c block slice is block_lt slice_lt =
    let row = begins_before (length f.rows) c.rows block is.some_rows block_lt in
    let col = begins-within-max (length f.schema.columns) c.cols slice is.some_cols slice_lt in
    record {
      lies = (omega (arith, row), omega (arith, col));
      some_rows = omega (arith, row, is.some_rows);
      most_rows = omega (arith, is.most_rows);
      some_cols = λ some. omega (arith, begins_before_max (length f.schema.columns) c.cols slice is.some_cols some slice_lt, is.some_cols);
      most_cols = omega (arith, is.most_cols);
    }

-- the parts of a frame's grid, one by one
pub parts_lie_in : (f : Frame) (c : Cutting) → IsCutting c → AllByRecursion (IsGridPart f) (parts (grid_of f c))
parts_lie_in f c is =
    let g = grid_of f c in
    all-flat_map (IsGridPart f) (block_parts g) (range_with_len 0 (row_blocks g)) (all-range _ 0 (row_blocks g) (λ b low b_lt. all-map (IsGridPart f) (part_at g b) (range_with_len 0 (col_blocks g)) (all-range _ 0 (col_blocks g) (λ s low s_lt. grid_part f c b s is (omega (arith, b_lt)) (omega (arith, s_lt))))))

-- the stamps of a cut are those of its rows
pub first_cut : (f : Frame) (part : Part) → first_stamp (cut f part).rows ≡ first_stamp (slice_range f.rows part.first_row (part.first_row + part.rows))
first_cut f part = first_cut_rows part (slice_range f.rows part.first_row (part.first_row + part.rows))

pub last_cut : (f : Frame) (part : Part) → last_stamp (cut f part).rows ≡ last_stamp (slice_range f.rows part.first_row (part.first_row + part.rows))
last_cut f part = last_cut_rows part (slice_range f.rows part.first_row (part.first_row + part.rows))

-- the first and the last stamp of some rows
pub has_stamps : (f : Frame) (part : Part) → IsFrame f → LiesIn f part → 1 ≤ part.rows → HasStamps f part
has_stamps f part is lies some =
    let a = part.first_row in
    let b = part.first_row + part.rows in
    let ends = ends_of (slice_range f.rows a b) (omega (arith, length_slice a b f.rows lies.0)) in
    record {
      first = ends.first;
      last = ends.last;
      first_is = ends.first_is;
      last_is = ends.last_is;
      ordered = ends_ordered (slice_range f.rows a b) ends.first ends.last (rising_slice a b f.rows is.ascending) ends.first_is ends.last_is;
    }

-- the stamps of a slot do not fall
pub slot_ordered : (f : Frame) (s : Slot) → IsFrame f → HasSlotStamps f s → s.first ≤ℤ s.last
slot_ordered f s is stamps =
    let a = s.part.first_row in
    let b = s.part.first_row + s.part.rows in
    ends_ordered (slice_range f.rows a b) s.first s.last (rising_slice a b f.rows is.ascending) stamps.first stamps.last

-- the slots of all parts, in their order, cover the frame
pub grid_covers : (f : Frame) (c : Cutting) (slots : List Slot) → IsFrame f → IsCutting c → map (λ (s : Slot). s.part) slots ≡ parts (grid_of f c) → AllByRecursion (HasSlotStamps f) slots → Cover (length f.rows) (length f.schema.columns) slots
grid_covers f c slots is cutting are stamps = cover_from f c is cutting slots (row_blocks (grid_of f c)) refl are stamps

-- a slot of such a part, with its stamps and such a key
slot_rule : (f : Frame) (s : Slot) → IsFrame f → IsGridPart f s.part → HasSlotStamps f s → HasTileKey s → IsSlot (length f.schema.columns) s
slot_rule f s is part stamps key = record {
  is_tile = key.is_tile;
  key = key.key;
  fields = key.fields;
  first = key.first;
  last = key.last;
  ordered = slot_ordered f s is stamps;
  some_rows = part.some_rows;
  most_rows = part.most_rows;
  some_cols = part.some_cols;
  most_cols = part.most_cols;
  within = part.lies.1;
}

each_rule : (f : Frame) (slots : List Slot) → IsFrame f → AllByRecursion (λ (s : Slot). IsGridPart f s.part) slots → AllByRecursion (HasSlotStamps f) slots → AllByRecursion HasTileKey slots → AllByRecursion (IsSlot (length f.schema.columns)) slots
each_rule f [] is parts stamps keys = tt
each_rule f (s ∷ slots) is parts stamps keys = (slot_rule f s is parts.0 stamps.0 keys.0, each_rule f slots is parts.1 stamps.1 keys.1)

-- each keeps the rules of a slot
pub slot_rules : (f : Frame) (c : Cutting) (slots : List Slot) → IsFrame f → IsCutting c → map (λ (s : Slot). s.part) slots ≡ parts (grid_of f c) → AllByRecursion (HasSlotStamps f) slots → AllByRecursion HasTileKey slots → AllByRecursion (IsSlot (length f.schema.columns)) slots
slot_rules f c slots is cutting are stamps keys =
    let lie : AllByRecursion (IsGridPart f) (map (λ (s : Slot). s.part) slots) = subst (AllByRecursion (IsGridPart f)) (sym are) (parts_lie_in f c cutting) in
    each_rule f slots is (all-unmap (IsGridPart f) (λ (s : Slot). s.part) slots lie) stamps keys

-- and they are an index of the frame
pub index_rules : (f : Frame) (c : Cutting) (slots : List Slot) → IsStorable f → IsCutting c → map (λ (s : Slot). s.part) slots ≡ parts (grid_of f c) → AllByRecursion (HasSlotStamps f) slots → AllByRecursion HasTileKey slots → IsIndex (record { schema = f.schema; rows = length f.rows; slots = slots })
index_rules f c slots is cutting are stamps keys =
    let w = frame_within f is.within in
    let few = few_parts f c 8000000 cutting (omega (arith, w.rows_are)) w.cells_are in
    let long : length slots ≡ length (parts (grid_of f c)) = sym (length-map slots (λ (s : Slot). s.part)) ∙ ap length are in
    record {
      timed = is.timed;
      columns = is.is_frame.columns;
      few_columns = omega (arith, w.columns_are);
      few_rows = omega (arith, w.rows_are);
      few_slots = omega (arith, few, long);
      each = slot_rules f c slots is.is_frame cutting are stamps keys;
      cover = grid_covers f c slots is.is_frame cutting are stamps;
    }

-- their tiles tile the frame
pub slots_tiled : (f : Frame) (c : Cutting) (slots : List Slot) → IsCutting c → map (λ (s : Slot). s.part) slots ≡ parts (grid_of f c) → Tiled f (map (λ (s : Slot). (s.part, cut f s.part)) slots)
slots_tiled f c slots cutting are =
    let same : map (λ (s : Slot). (s.part, cut f s.part)) slots ≡ tiles_of f c = sym (map-map (λ (p : Part). (p, cut f p)) (λ (s : Slot). s.part) slots) ∙ ap (map (λ (p : Part). (p, cut f p))) are in
    subst (Tiled f) (sym same) (tiled-grid f c cutting)
