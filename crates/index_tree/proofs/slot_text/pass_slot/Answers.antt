use Rattle.std.proofs.Common.{◌≡◌, ◌∙◌, ◌+◌, ℕ, List, length, arith, sym, ap}
use Rattle.std.specs.Prelude.{slice_index_or}
use Rattle.std.proofs.lemmas.List.{length-append, length-drop}
use Rattle.byte_fields.proofs.Steps.{ok_is}
use Rattle.index_tree.specs.declared.span.Span.{Span}
use Rattle.index_tree.specs.SlotTexts.{span_of, span_text, span_at}
use Rattle.index_tree.proofs.SlotTextLaws.{key_passed, span_again, length-span_text, no_fault}
use Rattle.index_tree.proofs.slot_text.pass_slot.Goals as goal

pub split_at-requires : goal.split_at-requires
split_at-requires c =
    let r = c.requires.spelled in
    let behind = ap length (key_passed r.0 c.args.bytes.now r.1 r.2) in
    omega (arith, behind, length-drop (38 + slice_index_or c.args.bytes.now 1 0) c.args.bytes.now, length-append (span_text (span_of r.0)) r.1, length-span_text (span_of r.0))

pub unreachable-requires : goal.unreachable-requires
unreachable-requires c =
    let r = c.requires.spelled in
    no_fault (span_at c.split_at.result.1.now) (span_of r.0, r.1) c.in-Err.field-0 (ap span_at (c.split_at.ensures.back ∙ key_passed r.0 c.args.bytes.now r.1 r.2) ∙ span_again r.0 r.1 r.3) c.in-Err.ensures

pub returns : goal.returns
returns c = λ s more is fits.
    let same : (c.in-Ok.found.0, c.in-Ok.found.1.now) ≡ (span_of s, more) = ok_is _ _ (sym c.in-Ok.ensures ∙ (ap span_at (c.split_at.ensures.back ∙ key_passed s c.args.bytes.now more is) ∙ span_again s more fits)) in (
      ap (λ (x : Span × List ℕ). x.0) same,
      ap (λ (x : Span × List ℕ). x.1) same,
    )
