use Rattle.std.proofs.Common.{◌≡◌, map}
use Rattle.task_queue.specs.Hands.{numbers}
use Rattle.task_runs.proofs.turns.in_turn.Given as goal

-- what the tasks so far have given
abbrev pub invariant-loop-done : goal.invariant-loop-done
invariant-loop-done g l = l.all.items ≡ map (g.W.Work.gives l.work) (numbers l.done)
