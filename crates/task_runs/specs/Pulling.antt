-- all_taken: the numbers that pullers have pulled, those of the first in front.
-- IsFresh: a puller of a queue that has pulled nothing. AreFresh: so are one puller and those inside, which have room for it.
-- CameBack: those inside are back, and one more.
use Rattle.std.specs.Prelude.{◌≡◌, ◌<◌, ◌+◌, ℕ, List, [], length, All}
use Rattle.std.specs.List.{flat_map}
use Rattle.task_queue.specs.declared.puller.Puller.{Puller}
use Rattle.task_queue.specs.declared.puller.Pullers.{Pullers}
use Rattle.task_queue.specs.declared.queue.TaskQueue.{TaskQueue}
use Rattle.task_queue.specs.Tasks.{taken, inside, home, IsOf}

abbrev pub all_taken : Pullers → List ℕ
all_taken ps = flat_map taken (inside ps)

abbrev pub IsFresh : TaskQueue → Puller → Type 0
IsFresh queue p = IsOf queue p × (taken p ≡ [])

abbrev pub AreFresh : TaskQueue → Puller → Pullers → Type 0
AreFresh queue first ps = IsFresh queue first × All (IsOf queue) (inside ps) × All (λ p. taken p ≡ []) (inside ps) × (length (inside ps) < ps.made)

abbrev pub CameBack : TaskQueue → Pullers → Pullers → Type 0
CameBack queue sent back = All (IsOf queue) (inside back) × (length (inside back) ≡ length (inside sent) + 1)
    × (back.made ≡ sent.made) × (home back ≡ home sent)
