use Rattle.std.specs.Prelude.{IfOk}
use Rattle.std.proofs.Common.{◌≡◌, ◌∙◌, ◌+◌, ◌++◌, ℕ, List, length, take, drop, map, arith, sym, ap, subst}
use Rattle.std.specs.List.{flat_map, AllByRecursion}
use Rattle.index_tree.specs.declared.index.Slot.{Slot}
use Rattle.index_tree.specs.IndexText.{slot_text}
use Rattle.index_tree.specs.IndexRules.{FitsSlot}
use Rattle.index_tree.specs.SlotTexts.{MayMove, moved}
use Rattle.index_tree.proofs.SlotTextLaws.{slots_are, spell_read, slot_at, all_both, moved_more, moved_all}
use Rattle.index_tree.proofs.slot_text.SlotText.rewritten.Goals as goal

pub put_moved-requires : goal.put_moved-requires
put_moved-requires c =
    let fits : AllByRecursion FitsSlot c.args.self.now = c.bytes-rest.ensures.fits in
    let all = all_both FitsSlot (MayMove c.args.from c.args.to) c.args.self.now fits c.requires.may in
    let at = slot_at (λ s. FitsSlot s × MayMove c.args.from c.args.to s) c.args.self.now c.loop.counter (omega (arith, c.loop-test.true, c.self.invariant.spelled.len, ap length c.self.view_is)) all in
    (at.slot, flat_map slot_text (drop (c.loop.counter + 1) c.args.self.now), c.loop.invariant.left ∙ at.text, at.holds.0, at.holds.1)

pub loop-preserved : goal.loop-preserved
loop-preserved c =
    let fits : AllByRecursion FitsSlot c.args.self.now = c.bytes-rest.ensures.fits in
    let at = slot_at FitsSlot c.args.self.now c.loop.counter (omega (arith, c.loop-test.true, c.self.invariant.spelled.len, ap length c.self.view_is)) fits in
    let f = moved c.args.from c.args.to in
    let put = c.in_ok-rest.ensures at.slot (flat_map slot_text (drop (c.loop.counter + 1) c.args.self.now)) (c.loop.invariant.left ∙ at.text) at.holds in
    record {
      done = put.0 ∙ (ap (λ (l : List ℕ). l ++ slot_text (f at.slot)) c.loop.invariant.done ∙ (sym (moved_more c.args.from c.args.to (take c.loop.counter c.args.self.now) at.slot) ∙ ap (λ (l : List Slot). flat_map slot_text (map f l)) (sym at.taken)));
      left = put.1;
    }

pub whole-requires : goal.whole-requires
whole-requires c = record {
  spelled = spell_read _ _ _ (moved_all c.self.inside.count c.loop.counter c.loop.bytes.items c.args.from c.args.to c.args.self.now (sym (ap length c.self.view_is) ∙ c.self.invariant.spelled.len) (omega (arith, c.loop-test.false)) c.loop.invariant.done c.bytes-rest.ensures.fits c.requires.may);
}

pub returns : goal.returns
returns c = subst (λ (slots : List Slot). IfOk c.whole.result (λ text. text ≡ slots))
    (slots_are _ _ _ (moved_all c.self.inside.count c.loop.counter c.loop.bytes.items c.args.from c.args.to c.args.self.now (sym (ap length c.self.view_is) ∙ c.self.invariant.spelled.len) (omega (arith, c.loop-test.false)) c.loop.invariant.done c.bytes-rest.ensures.fits c.requires.may))
    c.whole.ensures
