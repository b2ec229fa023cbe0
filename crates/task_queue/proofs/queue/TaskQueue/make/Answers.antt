use Rattle.std.proofs.Common.{rules, arith, ◌≡◌, ◌+◌, ◌++◌, ◌∷◌, [], ℕ, List, sym, ap, ◌∙◌, subst, map, replicate}
use Rattle.std.specs.Prelude.{All}
use Rattle.std.proofs.lemmas.List.{map-append, replicate-append-replicate}
use Rattle.std.proofs.lemmas.List.Elements.{All-push}
use Rattle.task_queue.specs.declared.hand.Hand.{Hand}
use Rattle.task_queue.specs.declared.puller.Puller.{Puller}
use Rattle.task_queue.specs.Tasks.{IsAt, taken}
use Rattle.task_queue.proofs.Dealing.{gives}
use Rattle.task_queue.proofs.queue.TaskQueue.make.Goals as goal

pub another-pass-requires-clause-rule : goal.another-pass-requires-clause-rule
another-pass-requires-clause-rule g c = gives _ _ (omega (arith, c.loop.invariant.shares, c.loop-test.true, c.requires.pullers)) c.loop.invariant.none

empty_more : (ps : List Puller) (p : Puller) (n : ℕ) → map taken ps ≡ replicate n [] → taken p ≡ [] → map taken (ps ++ p ∷ []) ≡ replicate (n + 1) []
empty_more ps p n all one = map-append taken ps (p ∷ []) ∙ (λ i. all i ++ one i ∷ []) ∙ replicate-append-replicate n 1 []

pub loop-preserved : goal.loop-preserved
loop-preserved g c = record {
  pass = search rules;
  shares = (let now = ap (λ (v : Hand). v.shares) c.another-pass.ensures.rule.0 in omega (arith, now, c.loop.invariant.shares, c.loop-test.true, c.requires.pullers));
  queued = search rules;
  none = search rules;
  all = subst (All (IsAt c.in_ok-queue.queue.table.shared.table_id c.args.tasks)) (sym c.in-Ok.ensures.items) (All-push (IsAt c.in_ok-queue.queue.table.shared.table_id c.args.tasks) c.loop.all.items _ c.loop.invariant.all (c.another-pass.ensures.queue.1.0, ap (λ (v : Hand). v.queued) c.another-pass.ensures.rule.1 ∙ c.loop.invariant.queued));
  empty = ap (map taken) c.in-Ok.ensures.items ∙ empty_more c.loop.all.items _ c.loop.counter c.loop.invariant.empty (ap (λ (v : Hand). v.taken) c.another-pass.ensures.rule.1);
  count = search rules;
  room = search rules;
}
