use Rattle.std.proofs.Common.{◌≡◌, ◌∙◌, ◌<◌, ℕ, List, [], length, Some, arith, refl, sym, ap}
use Rattle.std.specs.Prelude.{option_map}
use Rattle.byte_fields.proofs.Steps.{ok_is}
use Rattle.index_tree.specs.declared.span.Span.{Span}
use Rattle.index_tree.specs.SlotTexts.{span_of, span_at, SpellSlots}
use Rattle.index_tree.proofs.SlotTextLaws.{last_is, spell_few, no_fault}
use Rattle.index_tree.proofs.slot_text.SlotText.last.Goals as goal

pub overflow_sub-bytes : goal.overflow_sub-bytes
overflow_sub-bytes c =
    let spelled : SpellSlots (length c.args.self.now) c.bytes-bytes.result.now c.args.self.now = record { text = c.bytes-bytes.ensures.text; len = refl; fits = c.bytes-bytes.ensures.fits } in
    omega (arith, spell_few _ _ _ spelled, c.self.invariant.spelled.len, ap length c.self.view_is)

pub unreachable-requires : goal.unreachable-requires
unreachable-requires c =
    let spelled : SpellSlots (length c.args.self.now) c.bytes-bytes.result.now c.args.self.now = record { text = c.bytes-bytes.ensures.text; len = refl; fits = c.bytes-bytes.ensures.fits } in
    let some : 0 < length c.args.self.now = omega (arith, c.self.invariant.spelled.len, ap length c.self.view_is) in
    let l = last_is _ _ _ spelled some in
    no_fault (span_at c.split_at.result.1.now) (span_of l.0, []) c.in-Err.field-0 (ap span_at c.split_at.ensures.back ∙ l.2) c.in-Err.ensures

pub returns : goal.returns
returns c =
    let spelled : SpellSlots (length c.args.self.now) c.bytes-bytes.result.now c.args.self.now = record { text = c.bytes-bytes.ensures.text; len = refl; fits = c.bytes-bytes.ensures.fits } in
    let some : 0 < length c.args.self.now = omega (arith, c.self.invariant.spelled.len, ap length c.self.view_is) in
    let l = last_is _ _ _ spelled some in
    let same : (c.in-Ok.span, c.in-Ok.field-0-1.now) ≡ (span_of l.0, []) = ok_is _ _ (sym c.in-Ok.ensures ∙ (ap span_at c.split_at.ensures.back ∙ l.2)) in
    ap (λ (x : Span × List ℕ). Some x.0) same ∙ ap (option_map span_of) (sym l.1)
