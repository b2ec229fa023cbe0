use Rattle.std.proofs.Common.{◌∙◌, ◌++◌, ℕ, List, arith, ap}
use Rattle.std.specs.List.{flat_map}
use Rattle.std.proofs.lemmas.List.{take_all}
use Rattle.index_tree.specs.declared.index.Slot.{Slot}
use Rattle.index_tree.specs.IndexText.{slot_text}
use Rattle.index_tree.proofs.RunLaws.{runs_text}
use Rattle.index_tree.proofs.writing.put_runs.Goals as goal

pub returns : goal.returns
returns c = c.loop-run.invariant ∙ ap (λ (l : List ℕ). c.args.out.now.items ++ l)
    (ap (λ (runs : List (List Slot)). flat_map (flat_map slot_text) runs) (take_all c.loop-run.run-index c.args.runs.now (omega (arith, c.loop-run-test.false))) ∙ runs_text c.args.runs.now)
