use Rattle.std.proofs.Common.{◌∙◌, sym}
use Rattle.index_tree.proofs.RunLaws.{first_left, first_found}
use Rattle.index_tree.proofs.slot_runs.SlotRuns.first.Goals as goal

pub returns-in-Some : goal.returns-in-Some
returns-in-Some c = first_found c.items-runs.result.now c.loop-run.run-index c.run-item.result c.args.self.now c.in-Some.span c.loop-run-test.true c.run-item.is c.loop-run.invariant (sym c.first.ensures ∙ c.in-Some.is)

pub loop-run-preserved : goal.loop-run-preserved
loop-run-preserved c = sym (first_left c.items-runs.result.now c.loop-run.run-index c.run-item.result c.loop-run-test.true c.run-item.is (sym c.first.ensures ∙ c.in_default.is)) ∙ c.loop-run.invariant
