use Rattle.std.proofs.Common.{◌∙◌, sym, ap}
use Rattle.index_tree.specs.SlotTexts.{all_slots}
use Rattle.index_tree.proofs.RunLaws.{last_left, last_found}
use Rattle.index_tree.proofs.slot_runs.SlotRuns.last.Goals as goal

pub returns-in-Some-last : goal.returns-in-Some-last
returns-in-Some-last c = last_found c.in-Some.before.now c.in-Some.run'.now c.args.self.now c.in-Some-last.span (ap all_slots (sym c.in-Some.ensures.cases.0) ∙ c.loop-run.invariant) (sym c.last.ensures ∙ c.in-Some-last.is)

pub loop-run-preserved : goal.loop-run-preserved
loop-run-preserved c = sym (last_left c.in-Some.before.now c.in-Some.run'.now (sym c.last.ensures ∙ c.in_default-last.is)) ∙ (ap all_slots (sym c.in-Some.ensures.cases.0) ∙ c.loop-run.invariant)
