use Rattle.std.proofs.Common.{◌++◌, ◌∷◌, [], sym, ap, ◌∙◌}
use Rattle.std.proofs.lemmas.List.{map-append}
use Rattle.task_queue.specs.Tasks.{gathered}
use Rattle.task_runs.specs.Results.{results_of, result_of}
use Rattle.task_runs.proofs.pulling.pull_rest.Goals as goal

pub loop-preserved : goal.loop-preserved
loop-preserved g c = let x = c.in-Some-pull_left.task in let gives = g.W.Work.gives c.args.work.now in (
  tt,
  tt,
  c.in-Some-pull_left.ensures.puller,
  c.in_ok-push.ensures.items ∙ (λ i. c.loop.invariant.3 i ++ record { task = x; value = c.in_ok-value.ensures i } ∷ [])
      ∙ sym (map-append (result_of gives) (gathered c.loop.last) (x ∷ [])) ∙ ap (results_of gives) (sym c.in-Some-pull_left.ensures.some.0),
)
