use Rattle.std.proofs.Common.{◌<◌, ap, subst, arith}
use Rattle.std.specs.Prelude.{Contains}
use Rattle.crossbeam_queue.specs.Passes.{view}
use Rattle.task_queue.specs.declared.hand.Hand.{Hand}
use Rattle.task_queue.proofs.Balance.{within}
use Rattle.task_queue.proofs.Dealing.{pulls, others}
use Rattle.task_queue.proofs.Told.{on_some}
use Rattle.task_queue.proofs.queue.TaskQueue.pull.Goals as goal

pub pop_as-requires-clause-rule : goal.pop_as-requires-clause-rule
pop_as-requires-clause-rule g c = let some_share : 0 < (view c.args.puller.now.pass).shares = omega (arith, c.args.puller.now.share) in (pulls _ _ some_share, others _ _ some_share)

pub returns-clause-some : goal.returns-clause-some
returns-clause-some g c = on_some _ _ _ c.pop_as.result c.pop_as.ensures.rule (λ x told. let bounds = within 1 c.args.self.now.tasks x (subst (λ l. Contains l x) c.requires.puller.1 told.1) in (ap (λ (v : Hand). v.taken) told.0, bounds.0, omega (arith, bounds.1)))
