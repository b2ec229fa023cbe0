use Rattle.std.proofs.Common.{sym, subst}
use Rattle.std.specs.Prelude.{All}
use Rattle.std.proofs.lemmas.Result.{IfOk-weaker}
use Rattle.std.proofs.lemmas.List.Elements.{All-push}
use Rattle.std.specs.List.{flat_map}
use Rattle.task_queue.specs.Tasks.{IsOf, inside, taken}
use Rattle.task_runs.specs.Results.{results_of}
use Rattle.task_runs.proofs.Pulled.{one_more}
use Rattle.task_runs.proofs.threads.+fn-run_pullers-join+arg2+run_pullers.Goals as goal

pub returns-clause-pullers : goal.returns-clause-pullers
returns-clause-pullers g t c = let queue = c.args.queue.now in
    subst (All (IsOf queue)) (sym c.put_in-2.ensures.inside) (All-push (IsOf queue) (inside c.join-pullers.result.0.0) c.join-pullers.result.1.0 c.join-pullers.ensures.first.0.0 c.join-pullers.ensures.second.0)

pub returns-clause-results : goal.returns-clause-results
returns-clause-results g t c = let gives = g.W.Work.gives c.args.work.now in let ps = inside c.join-pullers.result.0.0 in let p = c.join-pullers.result.1.0 in
    IfOk-weaker c.both.result _ _ (λ v is. one_more gives v.items ps p (inside c.put_in-2.new.self) is c.put_in-2.ensures.inside)
    (c.both.ensures (results_of gives (flat_map taken ps)) (results_of gives (taken p)) c.join-pullers.ensures.first.1 c.join-pullers.ensures.second.1)
