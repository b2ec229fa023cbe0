-- All row blocks of the base.
use Rattle.std.proofs.Common.{◌≡◌, ℕ, ◌-◌, List, length, sym, subst, ap, ◌∙◌, arith}
use Rattle.std.specs.Prelude.{slice_range}
use Rattle.std.proofs.lemmas.List.{take_all}
use Rattle.frame_core.specs.Frames.{Row, Frame}
use Rattle.index_tree.specs.declared.index.Slot.{Slot}
use Rattle.index_tree.specs.declared.index.Index.{Index}
use Rattle.index_tree.specs.IndexRules.{Cover}
use Rattle.frame_write.specs.Pieces.{IsRun}
use Rattle.append_update.specs.Bases.{IsIndexOf, rows_of_slots}
use Rattle.append_update.proofs.SlotLemmas.{cover_is_run, rows_of_all}

whole_slots : (slots : List Slot) → slice_range slots 0 (length slots) ≡ slots
whole_slots slots = take_all (length slots - 0) slots (omega arith)

pub whole_run : (base : Frame) (index : Index) → IsIndexOf base index → IsRun (length index.schema.columns) (slice_range index.slots 0 (length index.slots))
whole_run base index of = subst (IsRun (length index.schema.columns)) (sym (whole_slots index.slots)) (cover_is_run index.rows (length index.schema.columns) index.slots of.rules.cover)

pub whole_is : (base : Frame) (index : Index) → IsIndexOf base index → (n : ℕ) → n ≡ length index.slots → record base { rows = rows_of_slots base (slice_range index.slots 0 n) } ≡ base
whole_is base index of n is =
    ap (λ (rows : List Row). record base { rows = rows })
    (ap (λ k. rows_of_slots base (slice_range index.slots 0 k)) is
    ∙ (ap (rows_of_slots base) (whole_slots index.slots) ∙ rows_of_all base (length index.schema.columns) index.slots of.rules.each (subst (λ k. Cover k (length index.schema.columns) index.slots) of.rows of.rules.cover)))
