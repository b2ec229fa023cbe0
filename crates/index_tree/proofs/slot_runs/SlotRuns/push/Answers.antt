use Rattle.std.proofs.Common.{◌∙◌, ◌++◌, List, length, arith, ap}
use Rattle.std.proofs.lemmas.List.{length-append}
use Rattle.index_tree.specs.declared.index.Slot.{Slot}
use Rattle.index_tree.specs.SlotTexts.{all_slots}
use Rattle.index_tree.proofs.RunLaws.{runs_more}
use Rattle.index_tree.proofs.slot_runs.SlotRuns.push.Goals as goal

pub invariant_of-self-2 : goal.invariant_of-self-2
invariant_of-self-2 c =
    let more = ap length (ap all_slots c.in_ok-push.ensures.ok ∙ runs_more c.self.inside.runs c.args.run) in
    omega (arith, more, length-append (all_slots c.self.inside.runs) c.args.run, c.self.invariant, c.len.ensures, c.in-Some.ensures)

pub returns-clause-ok : goal.returns-clause-ok
returns-clause-ok c = ap all_slots c.in_ok-push.ensures.ok ∙ (runs_more c.self.inside.runs c.args.run ∙ ap (λ (slots : List Slot). slots ++ c.args.run) c.self.view_is)
