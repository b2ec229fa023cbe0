use Rattle.std.proofs.Common.{length, ◌+◌, ◌*◌}
use Rattle.task_queue.specs.Tasks.{inside}
use Rattle.task_runs.proofs.threads.+fn-run_pullers-join+arg2+run_pullers.Given as goal

-- the pullers that are left, twice, since each call runs the next in a closure
abbrev pub decreases-run_pullers : goal.decreases-run_pullers
decreases-run_pullers g l = 2 * length (inside l.pullers)

abbrev pub decreases-join+arg2 : goal.decreases-join+arg2
decreases-join+arg2 g l = 2 * length (inside l.pullers) + 1
