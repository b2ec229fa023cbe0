use Rattle.std.proofs.Common.{◌≡◌, ◌∙◌, ◌+◌, ◌++◌, ◌∷◌, [], filter, take, drop, arith, sym, ap}
use Rattle.std.specs.List.{flat_map}
use Rattle.index_tree.specs.IndexText.{slot_text}
use Rattle.index_tree.specs.IndexRules.{FitsSlot}
use Rattle.index_tree.specs.Covering.{covers}
use Rattle.index_tree.specs.SlotTexts.{slot_with}
use Rattle.index_tree.proofs.Covers.{kept_taken, kept_left, covered_kept}
use Rattle.index_tree.proofs.SlotTextLaws.{slot_at}
use Rattle.index_tree.proofs.lookup.covered.Goals as goal
use Rattle.index_tree.proofs.lookup.covered.Goals.{then-is_covered+in_ok-slot+in_ok-push, else-is_covered}

pub pass_slot-requires : goal.pass_slot-requires
pass_slot-requires c =
    let at = slot_at FitsSlot c.args.slots.now c.loop.counter (omega (arith, c.loop-test.true, c.len-end.ensures)) c.bytes-rest.ensures.fits in
    record { spelled = (at.slot, flat_map slot_text (drop (c.loop.counter + 1) c.args.slots.now), c.loop.invariant.left ∙ at.text, at.holds) }

pub read_slot-requires : goal.read_slot-requires
read_slot-requires c =
    let at = slot_at FitsSlot c.args.slots.now c.loop.counter (omega (arith, c.loop-test.true, c.len-end.ensures)) c.bytes-rest.ensures.fits in
    record { spelled = (at.slot, flat_map slot_text (drop (c.loop.counter + 1) c.args.slots.now), c.loop.invariant.left ∙ at.text, at.holds) }

pub loop-preserved : goal.loop-preserved
loop-preserved c =
    let at = slot_at FitsSlot c.args.slots.now c.loop.counter (omega (arith, c.loop-test.true, c.len-end.ensures)) c.bytes-rest.ensures.fits in
    let more = flat_map slot_text (drop (c.loop.counter + 1) c.args.slots.now) in
    let passed = c.pass_slot.ensures at.slot more (c.loop.invariant.left ∙ at.text) at.holds in
    let test = covers c.args.range c.in_ok-columns.columns.items in
    let tested : c.is_covered.result ≡ test at.slot = c.is_covered.ensures at.slot.key ∙ (λ i. covers c.args.range (c.deref.ensures.value i) (slot_with at.slot.key (passed.0 i))) in
    record {
      done = elim c.if-is_covered.branch [
        | then-is_covered+in_ok-slot+in_ok-push w ↦
            let read = w.in_ok-slot.ensures at.slot more (c.loop.invariant.left ∙ at.text) at.holds in
            w.found-is ∙ (w.in_ok-push.ensures.ok ∙ ((λ i. c.loop.invariant.done i ++ read.0 i ∷ []) ∙ (kept_taken test (take c.loop.counter c.args.slots.now) at.slot (sym w.if-is_covered.true ∙ tested) ∙ ap (filter test) (sym at.taken))))
        | else-is_covered w ↦ w.found-is ∙ (c.loop.invariant.done ∙ (kept_left test (take c.loop.counter c.args.slots.now) at.slot (sym w.if-is_covered.false ∙ tested) ∙ ap (filter test) (sym at.taken)))
      ];
      left = passed.1;
    }

pub returns : goal.returns
returns c = covered_kept c.args.range c.args.columns.now c.in_ok-columns.columns.items c.args.slots.now c.loop.counter c.loop.found c.in_ok-columns.ensures.permutation (omega (arith, c.loop-test.false, c.len-end.ensures)) c.loop.invariant.done
