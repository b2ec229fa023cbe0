use Rattle.std.proofs.Common.{◌≡◌}
use Rattle.task_queue.specs.Tasks.{gathered, IsLastOf}
use Rattle.task_runs.specs.Results.{results_of}
use Rattle.task_runs.proofs.pulling.pull_rest.Given as goal

-- what was pulled so far was carried out
abbrev pub invariant-loop : goal.invariant-loop
invariant-loop g l = (goal.iterator-loop g).can_next l.iterator' × (goal.iterator-loop g).is_finite l.iterator' × IsLastOf l.queue l.last
    × (l.results.items ≡ results_of (g.W.Work.gives l.work) (gathered l.last))
