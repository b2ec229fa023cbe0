use Rattle.task_queue.proofs.Dealing.{knows_left}
use Rattle.task_queue.proofs.queue.TaskQueue.end.Goals as goal

pub len_as-requires-clause-rule : goal.len_as-requires-clause-rule
len_as-requires-clause-rule g c = knows_left _ _ c.gather-last.result.shares
