-- The row blocks that a range cuts.
use Rattle.std.proofs.Common.{◌≡◌, ℕ, ◌-◌, ◌≤◌, not, List, [], length, take, drop, ap, arith}
use Rattle.std.specs.Prelude.{slice_range}
use Rattle.std.proofs.lemmas.List.Sums.{length-filter, count_by-le-length}
use Rattle.frame_core.specs.Ranges.{Range, is_below, is_above}
use Rattle.frame_core.specs.Frames.{Frame, rows_below, rows_above}
use Rattle.index_tree.specs.declared.index.Slot.{Slot}
use Rattle.index_tree.specs.declared.index.Index.{Index}
use Rattle.append_update.specs.declared.cuts.Cuts.{Cuts}
use Rattle.append_update.specs.Bases.{IsIndexOf, rows_of_slots, Divides}
use Rattle.append_update.proofs.ReplaceLemmas.{below_few, above_few}

module _ (base : Frame) (slots : List Slot) (range : Range) (from to : ℕ) (same : from ≡ to) where
  none_cut : rows_of_slots base (slice_range slots from to) ≡ []
  none_cut = let none : to - from ≡ 0 = omega (arith, same) in ap (λ n. rows_of_slots base (take n (drop from slots))) none

  -- where no block is cut no rows are left
  pub none_left_below : rows_below range (rows_of_slots base (slice_range slots from to)) ≡ []
  none_left_below = ap (rows_below range) none_cut

  pub none_left_above : rows_above range (rows_of_slots base (slice_range slots from to)) ≡ []
  none_left_above = ap (rows_above range) none_cut

module _ (base : Frame) (index : Index) (of : IsIndexOf base index) (range : Range) (cuts : Cuts) (divides : Divides range index.slots cuts) where
  -- the places of the blocks stand in order, and within the slots
  pub below_ordered : cuts.below ≤ cuts.begun
  below_ordered = omega (arith, divides.below, divides.begun, below_few base index of range)

  pub above_ordered : cuts.ended ≤ cuts.reached
  above_ordered = omega (arith, divides.ended, divides.reached, above_few base index of range)

  pub begun_within : cuts.begun ≤ length index.slots
  begun_within = omega (arith, divides.begun, length-filter (λ (s : Slot). is_below range s.first) index.slots, count_by-le-length (λ (s : Slot). is_below range s.first) index.slots)

  pub reached_within : cuts.reached ≤ length index.slots
  reached_within = omega (arith, divides.reached, length-filter (λ (s : Slot). not (is_above range s.first)) index.slots, count_by-le-length (λ (s : Slot). not (is_above range s.first)) index.slots)

  pub below_within : cuts.below ≤ length index.slots
  below_within = omega (arith, below_ordered, begun_within)
