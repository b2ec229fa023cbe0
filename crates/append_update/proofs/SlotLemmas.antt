-- The rows that slots of a frame have.
use Rattle.std.proofs.Common.{◌≡◌, ℕ, zero, suc, ◌+◌, ◌-◌, ◌≤◌, false, List, [], ◌∷◌, ◌++◌, length, take, drop, refl, sym, ap, ◌∙◌, subst, arith, inl, inr}
use Rattle.std.specs.Prelude.{slice_range, nat_eq}
use Rattle.std.specs.List.{AllByRecursion}
use Rattle.std.proofs.lemmas.Bool.{eq-eqb, ne_eqb}
use Rattle.std.proofs.lemmas.List.{drop_all, take_all, drop-drop}
use Rattle.frame_core.specs.Frames.{Row, Frame}
use Rattle.index_tree.specs.declared.index.Slot.{Slot}
use Rattle.index_tree.specs.IndexRules.{IsSlot, LeadOn, Cover}
use Rattle.append_update.specs.Bases.{rows_at, rows_of_slots}
use Rattle.frame_write.specs.Pieces.{begin_of, end_of, IsRun}

-- a slot behind the first column begins no row block
not_zero : (n : ℕ) → 1 ≤ n → nat_eq n 0 ≡ false
not_zero n le = ne_eqb n 0 (λ e. omega (arith, le, e))

behind_first : (frame : Frame) (s : Slot) → 1 ≤ s.part.first_col → rows_at frame s ≡ []
behind_first frame s some = rw (not_zero s.part.first_col some) refl

at_first : (frame : Frame) (s : Slot) → s.part.first_col ≡ 0 → rows_at frame s ≡ slice_range frame.rows s.part.first_row (s.part.first_row + s.part.rows)
at_first frame s first = rw (eq-eqb s.part.first_col 0 first) refl

-- slots that lead on end there
pub end-lead : (last columns : ℕ) (s : Slot) (more : List Slot) → LeadOn last columns s more → end_of (s ∷ more) ≡ last
end-lead last columns s [] lead = lead.0
end-lead last columns s (t ∷ more) lead = end-lead last columns t more lead.1

-- each begins before the end
pub lead-reaches : (last columns : ℕ) (s : Slot) (more : List Slot) → LeadOn last columns s more → s.part.first_row + s.part.rows ≤ last
lead-reaches last columns s [] lead = omega (arith, lead.0)
lead-reaches last columns s (t ∷ more) lead =
    let rest = lead-reaches last columns t more lead.1 in
    elim lead.0 [
      | inl same ↦ omega (arith, rest, same.first_row, same.rows)
      | inr block ↦ omega (arith, rest, block.first_row)
    ]

slice_none : (rows : List Row) (from to : ℕ) → to ≤ from → slice_range rows from to ≡ []
slice_none rows from to le = let none : to - from ≡ 0 = omega (arith, le) in ap (λ n. take n (drop from rows)) none

take_nothing : (m : ℕ) → take {A = Row} m [] ≡ []
take_nothing zero = refl
take_nothing (suc m) = refl

take_both : (n m : ℕ) (rs : List Row) → take n rs ++ take m (drop n rs) ≡ take (n + m) rs
take_both zero m rs = let same : zero + m ≡ m = omega arith in sym (ap (λ k. take k rs) same)
take_both (suc n) m [] = take_nothing m ∙ sym (take_nothing (suc n + m))
take_both (suc n) m (r ∷ rs) =
    let step : suc n + m ≡ suc (n + m) = omega arith in
    ap (λ xs. r ∷ xs) (take_both n m rs) ∙ sym (ap (λ k. take k (r ∷ rs)) step)

-- rows of a place up to another, and on to a third
pub slice_join : (rows : List Row) (from mid to : ℕ) → from ≤ mid → mid ≤ to → slice_range rows from mid ++ slice_range rows mid to ≡ slice_range rows from to
slice_join rows from mid to first later =
    let rest : drop (mid - from) (drop from rows) ≡ drop mid rows = drop-drop (mid - from) from rows ∙ ap (λ n. drop n rows) (omega (arith, first)) in
    ap (λ rs. take (mid - from) (drop from rows) ++ take (to - mid) rs) (sym rest)
    ∙ (take_both (mid - from) (to - mid) (drop from rows) ∙ ap (λ n. take n (drop from rows)) (omega (arith, first, later)))

-- the slots that lead on from one have the rows behind it
rows_behind : (frame : Frame) (last columns : ℕ) (s : Slot) (more : List Slot) → AllByRecursion (IsSlot columns) (s ∷ more) → LeadOn last columns s more
    → rows_of_slots frame more ≡ slice_range frame.rows (s.part.first_row + s.part.rows) last
rows_behind frame last columns s [] each lead = sym (slice_none frame.rows (s.part.first_row + s.part.rows) last (omega (arith, lead.0)))
rows_behind frame last columns s (next ∷ more) each lead = elim lead.0 [
  | inl same ↦
      let some : 1 ≤ s.part.cols = each.0.some_cols (omega (arith, same.left)) in
      let none : rows_at frame next ≡ [] = behind_first frame next (omega (arith, same.first_col, some)) in
      let rest = rows_behind frame last columns next more each.1 lead.1 in
      ap (λ rs. rs ++ rows_of_slots frame more) none ∙ (rest ∙ ap (λ n. slice_range frame.rows n last) (omega (arith, same.first_row, same.rows)))
  | inr block ↦
      let here = at_first frame next block.first_col in
      let rest = rows_behind frame last columns next more each.1 lead.1 in
      let reach = lead-reaches last columns next more lead.1 in
      ap (λ rs. rs ++ rows_of_slots frame more) here
      ∙ (ap (λ rs. slice_range frame.rows next.part.first_row (next.part.first_row + next.part.rows) ++ rs) rest
      ∙ (slice_join frame.rows next.part.first_row (next.part.first_row + next.part.rows) last (omega arith) reach
      ∙ ap (λ n. slice_range frame.rows n last) block.first_row))
]

-- a run of slots has the rows from its first to its last
pub rows_of_run : (frame : Frame) (columns : ℕ) (slots : List Slot) → AllByRecursion (IsSlot columns) slots → IsRun columns slots → rows_of_slots frame slots ≡ slice_range frame.rows (begin_of slots) (end_of slots)
rows_of_run frame columns [] each run = refl
rows_of_run frame columns (s ∷ more) each run =
    let here = at_first frame s run.0 in
    let rest = rows_behind frame (end_of (s ∷ more)) columns s more each run.1 in
    ap (λ rs. rs ++ rows_of_slots frame more) here
    ∙ (ap (λ rs. slice_range frame.rows s.part.first_row (s.part.first_row + s.part.rows) ++ rs) rest
    ∙ slice_join frame.rows s.part.first_row (s.part.first_row + s.part.rows) (end_of (s ∷ more)) (omega arith) (lead-reaches (end_of (s ∷ more)) columns s more run.1))

-- the slots of an index are a run
pub cover_is_run : (rows columns : ℕ) (slots : List Slot) → Cover rows columns slots → IsRun columns slots
cover_is_run rows columns [] cover = tt
cover_is_run rows columns (s ∷ more) cover = (cover.1, subst (λ n. LeadOn n columns s more) (sym (end-lead rows columns s more cover.2)) cover.2)

-- of all rows of its frame
pub rows_of_all : (frame : Frame) (columns : ℕ) (slots : List Slot) → AllByRecursion (IsSlot columns) slots → Cover (length frame.rows) columns slots → rows_of_slots frame slots ≡ frame.rows
rows_of_all frame columns [] each none = sym (drop_all 0 frame.rows (omega (arith, none)))
rows_of_all frame columns (s ∷ more) each cover =
    let whole : slice_range frame.rows 0 (length frame.rows) ≡ frame.rows = take_all (length frame.rows - 0) frame.rows (omega arith) in
    rows_of_run frame columns (s ∷ more) each (cover_is_run (length frame.rows) columns (s ∷ more) cover)
    ∙ (ap (λ n. slice_range frame.rows n (end_of (s ∷ more))) cover.0 ∙ (ap (slice_range frame.rows 0) (end-lead (length frame.rows) columns s more cover.2) ∙ whole))
