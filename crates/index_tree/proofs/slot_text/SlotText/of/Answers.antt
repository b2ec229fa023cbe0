use Rattle.std.proofs.Common.{◌≡◌, refl, rules, length, subst, List}
use Rattle.std.specs.Prelude.{IfOk}
use Rattle.index_tree.specs.declared.index.Slot.{Slot}
use Rattle.index_tree.specs.SlotTexts.{SpellSlots}
use Rattle.index_tree.proofs.SlotTextLaws.{slots_are, spell_read}
use Rattle.index_tree.proofs.slot_text.SlotText.of.Goals as goal

pub whole-requires : goal.whole-requires
whole-requires c =
    let spelled : SpellSlots (length c.args.slots.now) c.put_slots.new.out.items c.args.slots.now = record { text = search rules; len = refl; fits = c.requires.fits } in
    record { spelled = spell_read (length c.args.slots.now) c.put_slots.new.out.items c.args.slots.now spelled }

pub returns : goal.returns
returns c =
    let spelled : SpellSlots (length c.args.slots.now) c.put_slots.new.out.items c.args.slots.now = record { text = search rules; len = refl; fits = c.requires.fits } in
    subst (λ (slots : List Slot). IfOk c.whole.result (λ text. text ≡ slots)) (slots_are (length c.args.slots.now) c.put_slots.new.out.items c.args.slots.now spelled) c.whole.ensures
