use Rattle.std.proofs.Common.{◌≡◌, ◌∙◌, rules, ap, w64, SFits}
use Rattle.std.proofs.lemmas.Int.{to_z-of_z}
use Rattle.key_kind.specs.declared.key.Key.{Key}
use Rattle.index_tree.specs.SlotTexts.{plain_slot_at, slot_with}
use Rattle.index_tree.proofs.SlotTextLaws.{plain_slot_again, slot_read_is}
use Rattle.index_tree.proofs.slot_text.read_slot.Goals as goal

pub first_slot-requires : goal.first_slot-requires
first_slot-requires c =
    let r = c.requires.spelled in
    record { spelled = ((r.0, r.1), ap plain_slot_at r.2 ∙ plain_slot_again r.0 r.1 r.3) }

pub returns : goal.returns
returns c = λ s more is fits.
    let read = slot_read_is s _ more _ _ _ fits is c.first_slot.ensures.slot in
    let same : slot_with c.in_ok-to_key.field-0 c.first_slot.result.1 ≡ s = ap (λ (k : Key). slot_with k c.first_slot.result.1) c.in_ok-to_key.ensures ∙ read.slot_is in
    let first : SFits w64 c.first_slot.result.1.first = search rules in
    let last : SFits w64 c.first_slot.result.1.last = search rules in (
      (λ i. record { key = c.in_ok-to_key.field-0; part = c.first_slot.result.1.part; first = to_z-of_z w64 c.first_slot.result.1.first first i; last = to_z-of_z w64 c.first_slot.result.1.last last i }) ∙ same,
      read.rest_is,
    )
