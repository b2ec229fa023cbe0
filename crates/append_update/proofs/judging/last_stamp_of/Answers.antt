use Rattle.std.proofs.Common.{◌∙◌, ◌-◌, ℤ, Some, List, length, rules, sym, ap, w64, SFits}
use Rattle.std.proofs.lemmas.Int.{to_z-of_z}
use Rattle.std.specs.Prelude.{slice_get, option_map}
use Rattle.index_tree.specs.declared.index.Slot.{Slot}
use Rattle.index_tree.specs.SlotTexts.{span_of}
use Rattle.append_update.proofs.LastLemmas.{span_last, no_span}
use Rattle.append_update.proofs.judging.last_stamp_of.Goals as goal

pub returns-in-Some : goal.returns-in-Some
returns-in-Some c =
    let fits : SFits w64 c.in-Some.span.last = search rules in
    ap (λ (z : ℤ). Some z) (to_z-of_z w64 c.in-Some.span.last fits)
    ∙ span_last _ c.in-Some.span (sym c.in-Some.is ∙ (c.last.ensures ∙ ap (λ (l : List Slot). option_map span_of (slice_get l (length l - 1))) c.slots.ensures))

pub returns-in-None : goal.returns-in-None
returns-in-None c = no_span _ (sym c.in-None.is ∙ (c.last.ensures ∙ ap (λ (l : List Slot). option_map span_of (slice_get l (length l - 1))) c.slots.ensures))
