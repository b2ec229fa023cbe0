use Rattle.std.proofs.Common.{◌∙◌, ◌+◌, ◌++◌, ◌∷◌, [], length, drop, arith, sym, ap}
use Rattle.std.specs.List.{flat_map}
use Rattle.index_tree.specs.IndexText.{slot_text}
use Rattle.index_tree.specs.IndexRules.{FitsSlot}
use Rattle.index_tree.proofs.SlotTextLaws.{slot_at}
use Rattle.index_tree.proofs.slot_text.SlotText.to_slots.Goals as goal

pub read_slot-requires : goal.read_slot-requires
read_slot-requires c =
    let at = slot_at FitsSlot c.args.self.now c.loop.counter (omega (arith, c.loop-test.true, c.self.invariant.spelled.len, ap length c.self.view_is)) c.bytes-rest.ensures.fits in
    record { spelled = (at.slot, flat_map slot_text (drop (c.loop.counter + 1) c.args.self.now), c.loop.invariant.left ∙ at.text, at.holds) }

pub loop-preserved : goal.loop-preserved
loop-preserved c =
    let at = slot_at FitsSlot c.args.self.now c.loop.counter (omega (arith, c.loop-test.true, c.self.invariant.spelled.len, ap length c.self.view_is)) c.bytes-rest.ensures.fits in
    let read = c.in_ok-slot.ensures at.slot (flat_map slot_text (drop (c.loop.counter + 1) c.args.self.now)) (c.loop.invariant.left ∙ at.text) at.holds in
    record {
      done = c.in_ok-push.ensures.ok ∙ ((λ i. c.loop.invariant.done i ++ read.0 i ∷ []) ∙ sym at.taken);
      left = read.1;
    }
