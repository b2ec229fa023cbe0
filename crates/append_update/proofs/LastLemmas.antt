-- The last stamp of the frame that an index tells.
use Rattle.std.proofs.Common.{◌≡◌, ℕ, zero, suc, ◌+◌, ◌-◌, ◌≤◌, List, [], ◌∷◌, length, take, drop, Option, Some, None, refl, sym, ap, ◌∙◌, subst, arith}
use Rattle.std.specs.Prelude.{slice_get, option_map}
use Rattle.std.specs.List.{AllByRecursion}
use Rattle.std.proofs.lemmas.List.{take_all, length-drop}
use Rattle.frame_core.specs.Frames.{Row, Frame, last_stamp}
use Rattle.index_tree.specs.declared.index.Slot.{Slot}
use Rattle.index_tree.specs.declared.index.Index.{Index}
use Rattle.index_tree.specs.declared.span.Span.{Span}
use Rattle.index_tree.specs.IndexRules.{IsSlot, LeadOn, Cover}
use Rattle.index_tree.specs.SlotTexts.{span_of}
use Rattle.store_model.specs.Commits.{HasSlotStamps}
use Rattle.append_update.specs.Bases.{IsIndexOf}

-- the last of the rows from a place on is the last of all, where there are any
last_behind : (n : ℕ) (rows : List Row) → n + 1 ≤ length rows → last_stamp (drop n rows) ≡ last_stamp rows
last_behind zero rows le = refl
last_behind (suc n) [] le = absurd (omega (arith, le))
last_behind (suc n) (r ∷ []) le = absurd (omega (arith, le))
last_behind (suc n) (r ∷ s ∷ rows) le = last_behind n (s ∷ rows) (omega (arith, le))

last_lead : (frame : Frame) (columns : ℕ) (s : Slot) (more : List Slot) → AllByRecursion (IsSlot columns) (s ∷ more) → AllByRecursion (HasSlotStamps frame) (s ∷ more) → LeadOn (length frame.rows) columns s more
    → option_map (λ (t : Slot). t.last) (slice_get (s ∷ more) (length more)) ≡ last_stamp frame.rows
last_lead frame columns s [] each stamps lead =
    let some = each.0.some_rows in
    let all : take (s.part.first_row + s.part.rows - s.part.first_row) (drop s.part.first_row frame.rows) ≡ drop s.part.first_row frame.rows =
    take_all (s.part.first_row + s.part.rows - s.part.first_row) (drop s.part.first_row frame.rows) (omega (arith, length-drop s.part.first_row frame.rows, lead.0)) in
    sym stamps.0.last ∙ (ap last_stamp all ∙ last_behind s.part.first_row frame.rows (omega (arith, lead.0, some)))
last_lead frame columns s (t ∷ more) each stamps lead = last_lead frame columns t more each.1 stamps.1 lead.1

no_rows : (rows : List Row) → length rows ≡ 0 → last_stamp rows ≡ None
no_rows [] e = refl
no_rows (r ∷ rows) e = absurd (omega (arith, e))

pub last_of_index : (frame : Frame) (index : Index) → IsIndexOf frame index → option_map (λ (t : Slot). t.last) (slice_get index.slots (length index.slots - 1)) ≡ last_stamp frame.rows
last_of_index frame index of = by index.slots of.rules.each of.stamps (subst (λ n. Cover n (length index.schema.columns) index.slots) of.rows of.rules.cover)
  where
    by : (slots : List Slot) → AllByRecursion (IsSlot (length index.schema.columns)) slots → AllByRecursion (HasSlotStamps frame) slots → Cover (length frame.rows) (length index.schema.columns) slots
        → option_map (λ (t : Slot). t.last) (slice_get slots (length slots - 1)) ≡ last_stamp frame.rows
    by [] each stamps cover = sym (no_rows frame.rows cover)
    by (s ∷ more) each stamps cover =
        let place : length (s ∷ more) - 1 ≡ length more = omega arith in
        ap (λ n. option_map (λ (t : Slot). t.last) (slice_get (s ∷ more) n)) place ∙ last_lead frame (length index.schema.columns) s more each stamps cover.2

-- the last stamp, as the last slot's span tells it
pub span_last : (o : Option Slot) (span : Span) → Some span ≡ option_map span_of o → Some span.last ≡ option_map (λ (t : Slot). t.last) o
span_last None span e = absurd cc
span_last (Some s) span e = let same : span ≡ span_of s = cc in ap (λ (x : Span). Some x.last) same

pub no_span : (o : Option Slot) → None ≡ option_map span_of o → None ≡ option_map (λ (t : Slot). t.last) o
no_span None e = refl
no_span (Some s) e = absurd cc
