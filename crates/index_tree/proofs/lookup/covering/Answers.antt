use Rattle.std.proofs.Common.{◌≡◌, ◌∙◌, ◌<◌, sym, length, arith}
use Rattle.index_tree.specs.Covering.{covers}
use Rattle.index_tree.specs.SlotTexts.{slot_with}
use Rattle.index_tree.proofs.Covers.{places_taken, places_left, covered_all}
use Rattle.index_tree.proofs.lookup.covering.Goals as goal
use Rattle.index_tree.proofs.lookup.covering.Goals.{then-is_covered+in_ok-push, else-is_covered}

pub loop-place-preserved : goal.loop-place-preserved
loop-place-preserved c =
    let within : c.loop-place.place < length c.args.index.now.slots = omega (arith, c.loop-place-test.true, c.len-place-end.ensures) in
    let tested : c.is_covered.result ≡ covers c.args.range c.in_ok-columns.columns.items c.at.result.now = c.is_covered.ensures c.at.result.now.key ∙ ((λ i. covers c.args.range (c.deref.ensures.value i) (slot_with c.at.result.now.key (c.span.ensures i)))) in
    elim c.if-is_covered.branch [
      | then-is_covered+in_ok-push w ↦ w.places-is ∙ w.in_ok-push.ensures.ok ∙ places_taken (covers c.args.range c.in_ok-columns.columns.items) c.args.index.now.slots c.loop-place.place c.at.result.now c.loop-place.places within c.at.ensures (sym w.if-is_covered.true ∙ tested) c.loop-place.invariant
      | else-is_covered w ↦ w.places-is ∙ places_left (covers c.args.range c.in_ok-columns.columns.items) c.args.index.now.slots c.loop-place.place c.at.result.now c.loop-place.places within c.at.ensures (sym w.if-is_covered.false ∙ tested) c.loop-place.invariant
    ]

pub returns : goal.returns
returns c = covered_all c.args.range c.args.columns.now c.in_ok-columns.columns.items c.args.index.now.slots c.loop-place.place c.loop-place.places c.in_ok-columns.ensures.permutation (omega (arith, c.loop-place-test.false, c.len-place-end.ensures)) c.loop-place.invariant
