use Rattle.std.proofs.Common.{◌∙◌, ◌<◌, arith, refl, sym, ap, Some, length}
use Rattle.std.specs.Prelude.{option_map}
use Rattle.index_tree.specs.SlotTexts.{span_of, SpellSlots}
use Rattle.index_tree.proofs.SlotTextLaws.{first_is}
use Rattle.index_tree.proofs.slot_text.SlotText.first.Goals as goal

pub pass_slot-requires : goal.pass_slot-requires
pass_slot-requires c =
    let spelled : SpellSlots (length c.args.self.now) c.bytes.result.now c.args.self.now = record { text = c.bytes.ensures.text; len = refl; fits = c.bytes.ensures.fits } in
    let some : 0 < length c.args.self.now = omega (arith, c.self.invariant.spelled.len, ap length c.self.view_is) in
    let f = first_is _ _ _ spelled some in
    record { spelled = (f.0, f.1, f.4, f.3) }

pub returns : goal.returns
returns c =
    let spelled : SpellSlots (length c.args.self.now) c.bytes.result.now c.args.self.now = record { text = c.bytes.ensures.text; len = refl; fits = c.bytes.ensures.fits } in
    let some : 0 < length c.args.self.now = omega (arith, c.self.invariant.spelled.len, ap length c.self.view_is) in
    let f = first_is _ _ _ spelled some in
    ap (λ x. Some x) (c.pass_slot.ensures f.0 f.1 f.4 f.3).0 ∙ ap (option_map span_of) (sym f.2)
