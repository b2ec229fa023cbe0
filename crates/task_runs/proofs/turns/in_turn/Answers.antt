use Rattle.std.proofs.Common.{arith, ◌+◌, ◌++◌, ◌∷◌, [], sym, ap, ◌∙◌, map}
use Rattle.std.proofs.lemmas.List.{map-append}
use Rattle.task_queue.specs.Hands.{numbers}
use Rattle.task_queue.proofs.Balance.{numbers_more}
use Rattle.task_runs.proofs.turns.in_turn.Goals as goal

pub loop-done-preserved : goal.loop-done-preserved
loop-done-preserved g c = let gives = g.W.Work.gives c.args.work.now in let done = c.loop-done.done in
    c.in_ok-push.ensures.items ∙ (λ i. c.loop-done.invariant i ++ c.in_ok-given.ensures i ∷ [])
    ∙ sym (map-append gives (numbers done) ((done + 1) ∷ [])) ∙ ap (map gives) (sym (numbers_more 1 done (done + 1) (omega arith)))
