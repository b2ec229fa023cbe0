-- The version on which another one is made, as its index tells it.
--     IsIndexOf           the index of a frame
--     rows_at, rows_of_slots      the rows of the frame that slots have, each row block once
--     Divides             where a range divides slots
use Rattle.std.specs.Prelude.{◌≡◌, ◌+◌, not, if◌then◌else◌, List, [], length, slice_range, filter, nat_eq}
use Rattle.std.specs.List.{flat_map, AllByRecursion}
use Rattle.frame_core.specs.Ranges.{Range, is_below, is_above}
use Rattle.frame_core.specs.Frames.{Row, Frame}
use Rattle.frame_core.specs.Limits.{IsStorable}
use Rattle.index_tree.specs.declared.index.Slot.{Slot}
use Rattle.index_tree.specs.declared.index.Index.{Index}
use Rattle.index_tree.specs.IndexRules.{IsIndex}
use Rattle.store_model.specs.Commits.{HasSlotStamps}
use Rattle.append_update.specs.declared.cuts.Cuts.{Cuts}

-- the index keeps the rules, has the frame's columns and number of rows, and each of its slots has the stamps of its rows
pub record IsIndexOf (frame : Frame) (index : Index) : Type 0 where
  pub storable : IsStorable frame
  pub rules : IsIndex index
  pub schema : index.schema ≡ frame.schema
  pub rows : index.rows ≡ length frame.rows
  pub stamps : AllByRecursion (HasSlotStamps frame) index.slots

-- the rows of a row block, at the slot that begins it
abbrev pub rows_at : Frame → Slot → List Row
rows_at frame s = if nat_eq s.part.first_col 0 then slice_range frame.rows s.part.first_row (s.part.first_row + s.part.rows) else []

-- the rows of the row blocks that these slots begin
abbrev pub rows_of_slots : Frame → List Slot → List Row
rows_of_slots frame = flat_map (rows_at frame)

-- so many slots end and begin below the range, and so many end and begin not above it
pub record Divides (range : Range) (slots : List Slot) (cuts : Cuts) : Type 0 where
  pub below : cuts.below ≡ length (filter (λ (s : Slot). is_below range s.last) slots)
  pub begun : cuts.begun ≡ length (filter (λ (s : Slot). is_below range s.first) slots)
  pub ended : cuts.ended ≡ length (filter (λ (s : Slot). not (is_above range s.last)) slots)
  pub reached : cuts.reached ≡ length (filter (λ (s : Slot). not (is_above range s.first)) slots)
