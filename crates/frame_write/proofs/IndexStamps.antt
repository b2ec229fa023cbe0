-- The first and the last stamp that the slots of an index have are those of its frame.
use Rattle.std.proofs.Common.{◌≡◌, ℕ, zero, suc, ◌+◌, ◌-◌, ◌≤◌, ℤ, pos, List, [], ◌∷◌, length, take, drop, Option, Some, refl, sym, ap, ◌∙◌, subst, arith}
use Rattle.std.specs.Prelude.{unwrap_or, slice_range}
use Rattle.std.specs.List.{AllByRecursion}
use Rattle.std.proofs.lemmas.List.{take_all, length-drop}
use Rattle.frame_core.specs.Frames.{Row, Frame, first_stamp, last_stamp}
use Rattle.index_tree.specs.declared.index.Slot.{Slot}
use Rattle.index_tree.specs.IndexRules.{IsSlot, LeadOn, Cover}
use Rattle.store_model.specs.Commits.{HasSlotStamps}
use Rattle.frame_write.specs.SlotKeys.{first_of, last_of}

-- the last of the rows from a place on is the last of all, where there are any
last_behind : (n : ℕ) (rows : List Row) → n + 1 ≤ length rows → last_stamp (drop n rows) ≡ last_stamp rows
last_behind zero rows le = refl
last_behind (suc n) [] le = absurd (omega (arith, le))
last_behind (suc n) (r ∷ []) le = absurd (omega (arith, le))
last_behind (suc n) (r ∷ s ∷ rows) le = last_behind n (s ∷ rows) (omega (arith, le))

-- the first of the first rows is the first of all
first_taken : (n : ℕ) (rows : List Row) (x : ℤ) → first_stamp (take n rows) ≡ Some x → first_stamp rows ≡ Some x
first_taken zero rows x e = absurd cc
first_taken (suc n) [] x e = absurd cc
first_taken (suc n) (r ∷ rows) x e = e

first_in : (frame : Frame) (s : Slot) → s.part.first_row ≡ 0 → first_stamp (slice_range frame.rows s.part.first_row (s.part.first_row + s.part.rows)) ≡ Some s.first → first_stamp frame.rows ≡ Some s.first
first_in frame s begins e = first_taken (0 + s.part.rows - 0) frame.rows s.first (subst (λ n. first_stamp (slice_range frame.rows n (n + s.part.rows)) ≡ Some s.first) begins e)

last_in : (frame : Frame) (columns : ℕ) (s : Slot) (more : List Slot) → AllByRecursion (IsSlot columns) (s ∷ more) → AllByRecursion (HasSlotStamps frame) (s ∷ more) → LeadOn (length frame.rows) columns s more
    → last_stamp frame.rows ≡ Some (last_of (s ∷ more))
last_in frame columns s [] each stamps lead =
    let some = each.0.some_rows in
    let all : take (s.part.first_row + s.part.rows - s.part.first_row) (drop s.part.first_row frame.rows) ≡ drop s.part.first_row frame.rows =
    take_all (s.part.first_row + s.part.rows - s.part.first_row) (drop s.part.first_row frame.rows) (omega (arith, length-drop s.part.first_row frame.rows, lead.0)) in
    sym (sym stamps.0.last ∙ (ap last_stamp all ∙ last_behind s.part.first_row frame.rows (omega (arith, lead.0, some))))
last_in frame columns s (t ∷ more) each stamps lead = last_in frame columns t more each.1 stamps.1 lead.1

pub slots_have_stamps : (frame : Frame) (columns : ℕ) (slots : List Slot) → AllByRecursion (IsSlot columns) slots → AllByRecursion (HasSlotStamps frame) slots → Cover (length frame.rows) columns slots
    → (first_of slots ≡ unwrap_or (first_stamp frame.rows) (pos 0)) × (last_of slots ≡ unwrap_or (last_stamp frame.rows) (pos 0))
slots_have_stamps frame columns [] each stamps cover = by frame.rows cover
  where
    by : (rows : List Row) → length rows ≡ 0 → (pos 0 ≡ unwrap_or (first_stamp rows) (pos 0)) × (pos 0 ≡ unwrap_or (last_stamp rows) (pos 0))
    by [] none = (refl, refl)
    by (r ∷ rows) none = absurd (omega (arith, none))
slots_have_stamps frame columns (s ∷ more) each stamps cover = (
  sym (ap (λ (o : Option ℤ). unwrap_or o (pos 0)) (first_in frame s cover.0 stamps.0.first)),
  sym (ap (λ (o : Option ℤ). unwrap_or o (pos 0)) (last_in frame columns s more each stamps cover.2)),
)
