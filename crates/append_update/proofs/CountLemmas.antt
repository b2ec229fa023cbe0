-- How many rows the pieces of an update have.
use Rattle.std.proofs.Common.{◌≡◌, ℕ, ◌+◌, ◌-◌, ◌≤◌, List, [], ◌∷◌, ◌++◌, length, take, drop, sym, ap, ◌∙◌, arith, Option, Some, None, length-append}
use Rattle.std.specs.Prelude.{slice_range}
use Rattle.std.specs.List.{AllByRecursion}
use Rattle.std.proofs.lemmas.List.{length-drop, length-take}
use Rattle.frame_core.specs.Ranges.{Range, is_below, is_above}
use Rattle.frame_core.specs.Frames.{Row, Frame, rows_below, rows_above, replace_range}
use Rattle.index_tree.specs.declared.index.Slot.{Slot}
use Rattle.index_tree.specs.declared.index.Index.{Index}
use Rattle.index_tree.specs.IndexRules.{IsSlot, LeadOn, Cover}
use Rattle.frame_write.specs.Pieces.{begin_of, end_of, size_of}
use Rattle.append_update.specs.declared.cuts.Cuts.{Cuts}
use Rattle.append_update.specs.declared.pieces.Edges.{Edges}
use Rattle.append_update.specs.Bases.{rows_of_slots}
use Rattle.append_update.specs.Replacing.{IsLeft, left_rows, Replaces}
use Rattle.append_update.proofs.ListLemmas.{take_all_of, drop_all_of}
use Rattle.append_update.proofs.FrameLemmas.{frame_within, length-kept}
use Rattle.append_update.proofs.SlotLemmas.{lead-reaches}
use Rattle.append_update.proofs.ReplaceLemmas.{cover, rows_run, first_run, last_run, below_rows, above_rows}

-- slots that all end by a row end by it
ends_by : (n : ℕ) (slots : List Slot) → AllByRecursion (λ (s : Slot). s.part.first_row + s.part.rows ≤ n) slots → end_of slots ≤ n
ends_by n [] all = omega arith
ends_by n (s ∷ []) all = all.0
ends_by n (s ∷ t ∷ more) all = ends_by n (t ∷ more) all.1

each_ends : (rows columns : ℕ) (s : Slot) (more : List Slot) → LeadOn rows columns s more → AllByRecursion (λ (s : Slot). s.part.first_row + s.part.rows ≤ rows) (s ∷ more)
each_ends rows columns s [] lead = (lead-reaches rows columns s [] lead, tt)
each_ends rows columns s (t ∷ more) lead = (lead-reaches rows columns s (t ∷ more) lead, each_ends rows columns t more lead.1)

pub cover_ends : (rows columns : ℕ) (slots : List Slot) → Cover rows columns slots → AllByRecursion (λ (s : Slot). s.part.first_row + s.part.rows ≤ rows) slots
cover_ends rows columns [] covered = tt
cover_ends rows columns (s ∷ more) covered = each_ends rows columns s more covered.2

pub slice_count : (rows : List Row) (from to : ℕ) → to ≤ length rows → length (slice_range rows from to) ≡ to - from
slice_count rows from to le = omega (arith, le, length-take (to - from) (drop from rows), length-drop from rows)

pub left_count : (base : Frame) (rows : List Row) (o : Option Frame) → IsLeft base rows o → length rows ≡ left_rows o
left_count base rows None is = ap length is
left_count base rows (Some f) is = sym (ap (λ (g : Frame). length g.rows) is)

module _ (base : Frame) (range : Range) (index : Index) (cuts : Cuts) (edges : Edges) (r : Replaces base range index cuts edges) where
  abbrev columns : ℕ
  columns = length index.schema.columns

  ends : AllByRecursion (λ (s : Slot). s.part.first_row + s.part.rows ≤ length base.rows) index.slots
  ends = cover_ends (length base.rows) columns index.slots (cover base index r.index_of range)

  few_rows : length base.rows ≤ 2000000
  few_rows = (frame_within base r.index_of.storable.within).rows_are

  first_ends : end_of (take cuts.below index.slots) ≤ length base.rows
  first_ends = ends_by (length base.rows) (take cuts.below index.slots) (take_all_of (λ (s : Slot). s.part.first_row + s.part.rows ≤ length base.rows) cuts.below index.slots ends)

  last_ends : end_of (drop cuts.reached index.slots) ≤ length base.rows
  last_ends = ends_by (length base.rows) (drop cuts.reached index.slots) (drop_all_of (λ (s : Slot). s.part.first_row + s.part.rows ≤ length base.rows) cuts.reached index.slots ends)

  -- the runs end within the limit
  pub first_few : end_of (take cuts.below index.slots) ≤ 2000000
  first_few = omega (arith, first_ends, few_rows)

  pub last_few : end_of (drop cuts.reached index.slots) ≤ 2000000
  last_few = omega (arith, last_ends, few_rows)

  first_count : length (rows_of_slots base (take cuts.below index.slots)) ≡ size_of (take cuts.below index.slots)
  first_count =
      ap length (sym (rows_run base index r.index_of range (take cuts.below index.slots) (take_all_of (IsSlot columns) cuts.below index.slots r.index_of.rules.each) (first_run base index r.index_of range cuts r.divides edges r.are base)))
      ∙ slice_count base.rows (begin_of (take cuts.below index.slots)) (end_of (take cuts.below index.slots)) first_ends

  last_count : length (rows_of_slots base (drop cuts.reached index.slots)) ≡ size_of (drop cuts.reached index.slots)
  last_count =
      ap length (sym (rows_run base index r.index_of range (drop cuts.reached index.slots) (drop_all_of (IsSlot columns) cuts.reached index.slots r.index_of.rules.each) (last_run base index r.index_of range cuts r.divides edges r.are base)))
      ∙ slice_count base.rows (begin_of (drop cuts.reached index.slots)) (end_of (drop cuts.reached index.slots)) last_ends

  below_count : length (rows_below range base.rows) ≡ size_of (take cuts.below index.slots) + left_rows edges.below
  below_count =
      let first : List Row = rows_of_slots base (take cuts.below index.slots) in
      let low : List Row = rows_below range (rows_of_slots base (slice_range index.slots cuts.below cuts.begun)) in
      let whole : length (rows_below range base.rows) ≡ length (first ++ low) = ap length (below_rows base index r.index_of range cuts r.divides edges r.are base) in
      omega (arith, whole, length-append first low, first_count, left_count base low edges.below r.are.below)

  above_count : length (rows_above range base.rows) ≡ left_rows edges.above + size_of (drop cuts.reached index.slots)
  above_count =
      let last : List Row = rows_of_slots base (drop cuts.reached index.slots) in
      let high : List Row = rows_above range (rows_of_slots base (slice_range index.slots cuts.ended cuts.reached)) in
      let whole : length (rows_above range base.rows) ≡ length (high ++ last) = ap length (above_rows base index r.index_of range cuts r.divides edges r.are base) in
      omega (arith, whole, length-append high last, last_count, left_count base high edges.above r.are.above)

  -- and so do the edges
  pub below_left : left_rows edges.below ≤ 2000000
  below_left = omega (arith, below_count, length-kept (λ (r : Row). is_below range r.stamp) base.rows, few_rows)

  pub above_left : left_rows edges.above ≤ 2000000
  above_left = omega (arith, above_count, length-kept (λ (r : Row). is_above range r.stamp) base.rows, few_rows)

  -- all rows of the new frame
  pub replaced_count : (rows : List Row)
      → length (replace_range range rows base.rows) ≡ size_of (take cuts.below index.slots) + left_rows edges.below + length rows + left_rows edges.above + size_of (drop cuts.reached index.slots)
  replaced_count rows =
      omega (arith, length-append (rows_below range base.rows ++ rows) (rows_above range base.rows), length-append (rows_below range base.rows) rows, below_count, above_count)
