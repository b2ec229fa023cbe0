use Rattle.std.proofs.Common.{◌≡◌, ◌+◌, ◌++◌, List, length}
use Rattle.std.specs.List.{flat_map}
use Rattle.crossbeam_queue.specs.Passes.{view, IsPassOf}
use Rattle.task_queue.specs.declared.puller.Puller.{Puller}
use Rattle.task_queue.specs.Hands.{numbers}
use Rattle.task_queue.specs.Tasks.{taken}
use Rattle.task_queue.proofs.queue.TaskQueue.gather.Given as goal

-- the pullers so far are absorbed
abbrev pub invariant-loop-puller : goal.invariant-loop-puller
invariant-loop-puller l = goal.iterator-loop-puller.can_next l.puller-iterator × goal.iterator-loop-puller.is_finite l.puller-iterator × IsPassOf l.self.queue l.rest
    × ((done : List Puller) × (done ++ l.puller-iterator.rest.items ≡ l.fn.pullers.pullers.items) × ((view l.rest).shares + l.fn.pullers.made ≡ 64 + length done) × ((view l.rest).queued ≡ numbers l.self.tasks) × ((view l.rest).taken ≡ flat_map taken done) × (l.puller-iterator.rest.len + length done ≡ length l.fn.pullers.pullers.items))
