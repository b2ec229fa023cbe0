-- What contracts see of a queue of tasks and of its pullers.
--     taken          the numbers that a puller has pulled
--     gathered       the numbers that all pullers, gathered in one, have pulled
--     inside         the pullers that a set of them has
--     IsAt, IsOf     a puller is of a queue
--     home, IsFor    where pullers come from; they are of a queue
--     AreAllOf       these are all pullers of a queue
--     IsLastOf       the pullers that were gathered are those of a queue
use Rattle.std.specs.Prelude.{◌≡◌, ℕ, List, length, All}
use Rattle.atomic_table.specs.Seated.{TableId}
use Rattle.crossbeam_queue.specs.Passes.{view, Pass}
use Rattle.task_queue.specs.declared.hand.Hand.{Hand}
use Rattle.task_queue.specs.Hands.{numbers}
use Rattle.task_queue.specs.declared.puller.LastPuller.{LastPuller}
use Rattle.task_queue.specs.declared.puller.Puller.{Puller}
use Rattle.task_queue.specs.declared.puller.Pullers.{Pullers}
use Rattle.task_queue.specs.declared.queue.TaskQueue.{TaskQueue}

abbrev pub taken : Puller → List ℕ
taken p = (view p.pass).taken

abbrev pub gathered : LastPuller → List ℕ
gathered p = (view p.pass).taken

abbrev pub inside : Pullers → List Puller
inside ps = ps.pullers.items

abbrev pub IsAt : TableId → ℕ → Puller → Type 0
IsAt id tasks p = (p.pass.table_id ≡ id) × ((view p.pass).queued ≡ numbers tasks)

abbrev pub IsOf : TaskQueue → Puller → Type 0
IsOf q p = IsAt q.queue.table.shared.table_id q.tasks p

-- where the pullers come from
abbrev pub home : Pullers → Pass ℕ Hand
home ps = ps.rest

abbrev pub IsFor : TaskQueue → Pass ℕ Hand → Type 0
IsFor q p = (p.table_id ≡ q.queue.table.shared.table_id) × ((view p).queued ≡ numbers q.tasks)

abbrev pub AreAllOf : TaskQueue → Pullers → Type 0
AreAllOf q ps = IsFor q (home ps) × All (IsOf q) (inside ps) × (length (inside ps) ≡ ps.made)

abbrev pub IsLastOf : TaskQueue → LastPuller → Type 0
IsLastOf q p = IsFor q p.pass
