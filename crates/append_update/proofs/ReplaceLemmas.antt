-- The pieces of an update hold the rows that it makes of the base.
use Rattle.std.proofs.Common.{◌≡◌, ℕ, ◌≤◌, Bool, true, false, not, List, [], ◌∷◌, ◌++◌, length, take, drop, Option, Some, None, refl, sym, ap, ◌∙◌, subst}
use Rattle.std.specs.Prelude.{slice_range}
use Rattle.std.specs.List.{AllByRecursion, flat_map}
use Rattle.std.proofs.lemmas.Bool.{true≢false}
use Rattle.std.proofs.lemmas.List.{take-append-drop, append_assoc, append-nil}
use Rattle.std.proofs.lemmas.List.Folds.{drop_split}
use Rattle.std.proofs.lemmas.List.Elements.{filter-append}
use Rattle.std.proofs.lemmas.Grind.{flat_map-append}
use Rattle.frame_core.specs.Ranges.{Range, is_below, is_above}
use Rattle.frame_core.specs.Frames.{Row, Frame, NeverFall, stamps_of, rows_below, rows_above, replace_range}
use Rattle.index_tree.specs.declared.index.Slot.{Slot}
use Rattle.index_tree.specs.declared.index.Index.{Index}
use Rattle.index_tree.specs.IndexRules.{IsSlot, Cover}
use Rattle.store_model.specs.Commits.{HasSlotStamps}
use Rattle.append_update.specs.Bases.{IsIndexOf, rows_at, rows_of_slots, Divides}
use Rattle.frame_write.specs.Pieces.{begin_of, end_of, IsRun}
use Rattle.frame_write.specs.Pieces.{rows_held}
use Rattle.append_update.specs.declared.cuts.Cuts.{Cuts}
use Rattle.append_update.specs.declared.pieces.Edges.{Edges}
use Rattle.frame_write.specs.declared.pieces.Piece.TheVariants as pieces
use Rattle.append_update.specs.Replacing.{fresh, replaced, IsLeft, AreEdges}
use Rattle.append_update.proofs.ListLemmas.{FallsOff, passing, divided, passing-le, take_all_of, drop_all_of}
use Rattle.append_update.proofs.SlotLemmas.{rows_of_run, rows_of_all, cover_is_run}
use Rattle.append_update.proofs.RunLemmas.{IsOfBlocks, run-take, run-drop, run-between}
use Rattle.append_update.proofs.RangeLemmas.{below_before, above_behind, slots_below, slots_not_below, slots_above, slots_not_above, falls_below-last, falls_below-first, falls_by-last, falls_by-first}

-- a list in three parts
pub in_three : {X : Type 0} (xs : List X) (from to : ℕ) → from ≤ to → xs ≡ take from xs ++ (slice_range xs from to ++ drop to xs)
in_three xs from to le = sym (take-append-drop from xs) ∙ ap (λ ys. take from xs ++ ys) (drop_split xs from to le)

rows_in_three : (frame : Frame) (slots : List Slot) (from to : ℕ) → from ≤ to → rows_of_slots frame slots ≡ rows_of_slots frame (take from slots) ++ (rows_of_slots frame (slice_range slots from to) ++ rows_of_slots frame (drop to slots))
rows_in_three frame slots from to le =
    ap (rows_of_slots frame) (in_three slots from to le)
    ∙ (flat_map-append (rows_at frame) (take from slots) (slice_range slots from to ++ drop to slots)
    ∙ ap (λ rs. rows_of_slots frame (take from slots) ++ rs) (flat_map-append (rows_at frame) (slice_range slots from to) (drop to slots)))

not_false : (b : Bool) → not b ≡ false → b ≡ true
not_false true e = refl
not_false false e = absurd (true≢false e)

not_true : (b : Bool) → not b ≡ true → b ≡ false
not_true true e = absurd (true≢false (sym e))
not_true false e = refl

map_all : {X : Type 0} (P Q : X → Type 0) → ((x : X) → P x → Q x) → (xs : List X) → AllByRecursion P xs → AllByRecursion Q xs
map_all P Q f [] all = tt
map_all P Q f (x ∷ xs) all = (f x all.0, map_all P Q f xs all.1)

module _ (base : Frame) (index : Index) (of_base : IsIndexOf base index) (range : Range) where
  abbrev slots : List Slot
  slots = index.slots

  abbrev columns : ℕ
  columns = length index.schema.columns

  rises : NeverFall (stamps_of base.rows)
  rises = of_base.storable.is_frame.ascending

  pub cover : Cover (length base.rows) columns slots
  cover = subst (λ n. Cover n columns slots) of_base.rows of_base.rules.cover

  is_run : IsRun columns slots
  is_run = cover_is_run (length base.rows) columns slots cover

  pub all_rows : rows_of_slots base slots ≡ base.rows
  all_rows = rows_of_all base columns slots of_base.rules.each cover

  -- ---- the four tests

  abbrev ends_below : Slot → Bool
  ends_below s = is_below range s.last

  abbrev begins_below : Slot → Bool
  begins_below s = is_below range s.first

  abbrev ends_by : Slot → Bool
  ends_by s = not (is_above range s.last)

  abbrev begins_by : Slot → Bool
  begins_by s = not (is_above range s.first)

  ends_of_blocks : IsOfBlocks columns ends_below
  ends_of_blocks s t same = ap (is_below range) (sym same.last)

  begins_of_blocks : IsOfBlocks columns begins_below
  begins_of_blocks s t same = ap (is_below range) (sym same.first)

  ends_by_of_blocks : IsOfBlocks columns ends_by
  ends_by_of_blocks s t same = ap (λ x. not (is_above range x)) (sym same.last)

  begins_by_of_blocks : IsOfBlocks columns begins_by
  begins_by_of_blocks s t same = ap (λ x. not (is_above range x)) (sym same.first)

  falls-ends : FallsOff ends_below slots
  falls-ends = falls_below-last base rises range (length base.rows) columns slots of_base.rules.each cover

  falls-begins : FallsOff begins_below slots
  falls-begins = falls_below-first base rises range (length base.rows) columns slots of_base.rules.each cover

  falls-ends_by : FallsOff ends_by slots
  falls-ends_by = falls_by-last base rises range (length base.rows) columns slots of_base.rules.each cover

  falls-begins_by : FallsOff begins_by slots
  falls-begins_by = falls_by-first base rises range (length base.rows) columns slots of_base.rules.each cover

  flip : (a b : Bool) → (a ≡ true → b ≡ true) → not b ≡ true → not a ≡ true
  flip true true f e = absurd (true≢false (sym e))
  flip true false f e = absurd (true≢false (sym (f refl)))
  flip false b f e = refl

  ends_then_begins : AllByRecursion (λ s. ends_below s ≡ true → begins_below s ≡ true) slots
  ends_then_begins = map_all (IsSlot columns) _ (λ s is e. below_before range s.first s.last is.ordered e) slots of_base.rules.each

  ends_then_begins_by : AllByRecursion (λ s. ends_by s ≡ true → begins_by s ≡ true) slots
  ends_then_begins_by = map_all (IsSlot columns) _ (λ s is e. flip (is_above range s.first) (is_above range s.last) (above_behind range s.first s.last is.ordered) e) slots of_base.rules.each

  pub below_few : passing ends_below slots ≤ passing begins_below slots
  below_few = passing-le ends_below begins_below slots ends_then_begins

  pub above_few : passing ends_by slots ≤ passing begins_by slots
  above_few = passing-le ends_by begins_by slots ends_then_begins_by

  -- ---- the rows below the range, and those above it

  pub rows_below-base : rows_below range base.rows ≡ rows_of_slots base (take (passing ends_below slots) slots) ++ rows_below range (rows_of_slots base (slice_range slots (passing ends_below slots) (passing begins_below slots)))
  rows_below-base =
      let k = passing ends_below slots in
      let n = passing begins_below slots in
      let low = slots_below base rises range (take k slots) (take_all_of (HasSlotStamps base) k slots of_base.stamps) (divided ends_below slots falls-ends).pass in
      let high = slots_not_below base rises range (drop n slots) (drop_all_of (HasSlotStamps base) n slots of_base.stamps) (divided begins_below slots falls-begins).fail in
      let mid : List Row = rows_of_slots base (slice_range slots k n) in
      let test = λ (r : Row). is_below range r.stamp in
      ap (rows_below range) (sym all_rows ∙ rows_in_three base slots k n below_few)
      ∙ (filter-append test (rows_of_slots base (take k slots)) (mid ++ rows_of_slots base (drop n slots))
      ∙ (ap (λ rs. rs ++ rows_below range (mid ++ rows_of_slots base (drop n slots))) low
      ∙ ap (λ rs. rows_of_slots base (take k slots) ++ rs) (filter-append test mid (rows_of_slots base (drop n slots)) ∙ (ap (λ rs. rows_below range mid ++ rs) high ∙ append-nil (rows_below range mid)))))

  pub rows_above-base : rows_above range base.rows ≡ rows_above range (rows_of_slots base (slice_range slots (passing ends_by slots) (passing begins_by slots))) ++ rows_of_slots base (drop (passing begins_by slots) slots)
  rows_above-base =
      let k = passing ends_by slots in
      let n = passing begins_by slots in
      let low = slots_not_above base rises range (take k slots) (take_all_of (HasSlotStamps base) k slots of_base.stamps)
      (map_all (λ s. ends_by s ≡ true) (λ s. is_above range s.last ≡ false) (λ s e. not_true (is_above range s.last) e) (take k slots) (divided ends_by slots falls-ends_by).pass) in
      let high = slots_above base rises range (drop n slots) (drop_all_of (HasSlotStamps base) n slots of_base.stamps)
      (map_all (λ s. begins_by s ≡ false) (λ s. is_above range s.first ≡ true) (λ s e. not_false (is_above range s.first) e) (drop n slots) (divided begins_by slots falls-begins_by).fail) in
      let mid : List Row = rows_of_slots base (slice_range slots k n) in
      let test = λ (r : Row). is_above range r.stamp in
      ap (rows_above range) (sym all_rows ∙ rows_in_three base slots k n above_few)
      ∙ (filter-append test (rows_of_slots base (take k slots)) (mid ++ rows_of_slots base (drop n slots))
      ∙ (ap (λ rs. rs ++ rows_above range (mid ++ rows_of_slots base (drop n slots))) low
      ∙ (filter-append test mid (rows_of_slots base (drop n slots)) ∙ ap (λ rs. rows_above range mid ++ rs) high)))

  -- ---- the runs

  pub run_below : IsRun columns (take (passing ends_below slots) slots)
  run_below = run-take columns ends_below ends_of_blocks slots is_run falls-ends

  pub run_above : IsRun columns (drop (passing begins_by slots) slots)
  run_above = run-drop columns begins_by begins_by_of_blocks slots is_run falls-begins_by

  -- those behind the ones that end below the range begin a row block, and do not end below it
  pub run_behind : IsRun columns (drop (passing ends_below slots) slots)
  run_behind = run-drop columns ends_below ends_of_blocks slots is_run falls-ends

  pub behind_fail : AllByRecursion (λ (s : Slot). is_below range s.last ≡ false) (drop (passing ends_below slots) slots)
  behind_fail = (divided ends_below slots falls-ends).fail

  -- those up to the last that begins not above the range do so
  pub reached_pass : AllByRecursion (λ (s : Slot). not (is_above range s.first) ≡ true) (take (passing begins_by slots) slots)
  reached_pass = (divided begins_by slots falls-begins_by).pass

  pub run_reached : IsRun columns (take (passing begins_by slots) slots)
  run_reached = run-take columns begins_by begins_by_of_blocks slots is_run falls-begins_by

  -- of the row blocks that are cut
  pub run_cut_below : IsRun columns (slice_range slots (passing ends_below slots) (passing begins_below slots))
  run_cut_below = run-between columns ends_below begins_below ends_of_blocks begins_of_blocks slots ends_then_begins is_run falls-ends falls-begins

  pub run_cut_above : IsRun columns (slice_range slots (passing ends_by slots) (passing begins_by slots))
  run_cut_above = run-between columns ends_by begins_by ends_by_of_blocks begins_by_of_blocks slots ends_then_begins_by is_run falls-ends_by falls-begins_by

  pub rows_run : (run : List Slot) → AllByRecursion (IsSlot columns) run → IsRun columns run → slice_range base.rows (begin_of run) (end_of run) ≡ rows_of_slots base run
  rows_run run each is = sym (rows_of_run base columns run each is)

  module _ (cuts : Cuts) (divides : Divides range slots cuts) (edges : Edges) (are : AreEdges base range slots cuts edges) (frame : Frame) where
    left_rows : (rows : List Row) (o : Option Frame) → IsLeft base rows o → flat_map (rows_held base.rows) (fresh o) ≡ rows
    left_rows rows None is = sym is
    left_rows rows (Some f) is = append-nil f.rows ∙ ap (λ (g : Frame). g.rows) is

    pub below_rows : rows_below range base.rows ≡ rows_of_slots base (take cuts.below slots) ++ rows_below range (rows_of_slots base (slice_range slots cuts.below cuts.begun))
    below_rows =
        rows_below-base
        ∙ (ap (λ k. rows_of_slots base (take k slots) ++ rows_below range (rows_of_slots base (slice_range slots k (passing begins_below slots)))) (sym divides.below)
        ∙ ap (λ n. rows_of_slots base (take cuts.below slots) ++ rows_below range (rows_of_slots base (slice_range slots cuts.below n))) (sym divides.begun))

    pub above_rows : rows_above range base.rows ≡ rows_above range (rows_of_slots base (slice_range slots cuts.ended cuts.reached)) ++ rows_of_slots base (drop cuts.reached slots)
    above_rows =
        rows_above-base
        ∙ (ap (λ k. rows_above range (rows_of_slots base (slice_range slots k (passing begins_by slots))) ++ rows_of_slots base (drop (passing begins_by slots) slots)) (sym divides.ended)
        ∙ ap (λ n. rows_above range (rows_of_slots base (slice_range slots cuts.ended n)) ++ rows_of_slots base (drop n slots)) (sym divides.reached))

    pub first_run : IsRun columns (take cuts.below slots)
    first_run = subst (λ k. IsRun columns (take k slots)) (sym divides.below) run_below

    pub last_run : IsRun columns (drop cuts.reached slots)
    last_run = subst (λ k. IsRun columns (drop k slots)) (sym divides.reached) run_above

    -- the pieces hold the rows
    pub replaced_rows : replace_range range frame.rows base.rows ≡ flat_map (rows_held base.rows) (replaced slots cuts edges frame)
    replaced_rows =
        let first : slice_range base.rows (begin_of (take cuts.below slots)) (end_of (take cuts.below slots)) ≡ rows_of_slots base (take cuts.below slots) =
        rows_run (take cuts.below slots) (take_all_of (IsSlot columns) cuts.below slots of_base.rules.each) first_run in
        let last : slice_range base.rows (begin_of (drop cuts.reached slots)) (end_of (drop cuts.reached slots)) ≡ rows_of_slots base (drop cuts.reached slots) =
        rows_run (drop cuts.reached slots) (drop_all_of (IsSlot columns) cuts.reached slots of_base.rules.each) last_run in
        let low : List Row = rows_below range (rows_of_slots base (slice_range slots cuts.below cuts.begun)) in
        let high : List Row = rows_above range (rows_of_slots base (slice_range slots cuts.ended cuts.reached)) in
        let held = rows_held base.rows in
        let tail : flat_map held (fresh edges.above ++ (pieces.Shared (drop cuts.reached slots) ∷ [])) ≡ high ++ rows_of_slots base (drop cuts.reached slots) =
        flat_map-append held (fresh edges.above) (pieces.Shared (drop cuts.reached slots) ∷ [])
        ∙ (ap (λ rs. rs ++ flat_map held (pieces.Shared (drop cuts.reached slots) ∷ [])) (left_rows high edges.above are.above)
        ∙ ap (λ rs. high ++ rs) (append-nil (held (pieces.Shared (drop cuts.reached slots))) ∙ last)) in
        let mid : flat_map held (fresh edges.below ++ (pieces.Fresh frame ∷ fresh edges.above ++ (pieces.Shared (drop cuts.reached slots) ∷ []))) ≡ low ++ (frame.rows ++ (high ++ rows_of_slots base (drop cuts.reached slots))) =
        flat_map-append held (fresh edges.below) (pieces.Fresh frame ∷ fresh edges.above ++ (pieces.Shared (drop cuts.reached slots) ∷ []))
        ∙ (ap (λ rs. rs ++ (frame.rows ++ flat_map held (fresh edges.above ++ (pieces.Shared (drop cuts.reached slots) ∷ [])))) (left_rows low edges.below are.below)
        ∙ ap (λ rs. low ++ (frame.rows ++ rs)) tail) in
        let whole : flat_map held (replaced slots cuts edges frame) ≡ rows_of_slots base (take cuts.below slots) ++ (low ++ (frame.rows ++ (high ++ rows_of_slots base (drop cuts.reached slots)))) =
        ap (λ rs. rs ++ flat_map held (fresh edges.below ++ (pieces.Fresh frame ∷ fresh edges.above ++ (pieces.Shared (drop cuts.reached slots) ∷ [])))) first ∙ ap (λ rs. rows_of_slots base (take cuts.below slots) ++ rs) mid in
        append_assoc (rows_below range base.rows) frame.rows (rows_above range base.rows)
        ∙ (ap (λ rs. rs ++ (frame.rows ++ rows_above range base.rows)) below_rows
        ∙ (append_assoc (rows_of_slots base (take cuts.below slots)) low (frame.rows ++ rows_above range base.rows)
        ∙ (ap (λ rs. rows_of_slots base (take cuts.below slots) ++ (low ++ (frame.rows ++ rs))) above_rows
        ∙ sym whole)))
