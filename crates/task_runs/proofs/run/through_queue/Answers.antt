use Rattle.std.proofs.Common.{subst}
use Rattle.std.specs.List.Sorted.{IsPermutation}
use Rattle.task_queue.specs.Hands.{numbers}
use Rattle.task_queue.specs.Tasks.{inside, gathered}
use Rattle.task_runs.proofs.Pulled.{first_taken, whole, are_right}
use Rattle.task_runs.proofs.run.through_queue.Goals as goal

pub run_pullers-pullers-requires-clause-first : goal.run_pullers-pullers-requires-clause-first
run_pullers-pullers-requires-clause-first g c κs within = first_taken (inside c.in_ok-queue.pullers) (inside c.take_out.new.self) c.in-Some.puller c.args.pullers c.in_ok-queue.ensures.none c.in-Some.ensures.some

pub in_order-requires-clause-whole : goal.in_order-requires-clause-whole
in_order-requires-clause-whole g c = let all = c.pull_rest.new.last in
    whole (g.W.Work.gives c.args.work.now) _ c.pull_rest.new.results.items (gathered all) c.in_ok-pull_rest.ensures.results (subst (λ n. IsPermutation (numbers n) (gathered all)) c.in_ok-queue.ensures.queue c.in_ok-pull_rest.ensures.all)

pub in_order-requires-clause-right : goal.in_order-requires-clause-right
in_order-requires-clause-right g c = let gives = g.W.Work.gives c.args.work.now in (gives, are_right gives c.pull_rest.new.results.items (gathered c.pull_rest.new.last) c.in_ok-pull_rest.ensures.results)

pub returns : goal.returns
returns g c = let gives = g.W.Work.gives c.args.work.now in c.in_order.ensures gives (are_right gives c.pull_rest.new.results.items (gathered c.pull_rest.new.last) c.in_ok-pull_rest.ensures.results)
