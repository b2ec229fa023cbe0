use Rattle.std.proofs.Common.{◌≡◌, List, subst}
use Rattle.std.specs.Prelude.{IfOk}
use Rattle.index_tree.specs.declared.index.Slot.{Slot}
use Rattle.index_tree.proofs.SlotTextLaws.{unmoved}
use Rattle.index_tree.proofs.slot_text.SlotText.moved.Goals as goal

pub returns-then-from-to : goal.returns-then-from-to
returns-then-from-to c = subst (λ (slots : List Slot). IfOk c.copy.result (λ text. text ≡ slots)) (unmoved c.args.from c.args.to c.args.self.now c.if-from-to.true c.requires.may) c.copy.ensures
