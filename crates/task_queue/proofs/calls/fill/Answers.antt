use Rattle.std.proofs.Common.{ℕ, List, sym, ap, ◌∙◌, length, arith, rules, ◌++◌, ◌∷◌, [], ◌+◌, length-append}
use Rattle.std.proofs.lemmas.List.Sorted.{length_permutation}
use Rattle.std.proofs.lemmas.List.FromFn.{length-range_with_len}
use Rattle.task_queue.specs.declared.hand.Hand.{Hand}
use Rattle.crossbeam_queue.specs.Passes.{view}
use Rattle.task_queue.specs.Hands.{hand}
use Rattle.task_queue.proofs.Balance.{numbers_more}
use Rattle.task_queue.proofs.Dealing.{queues, knows_left}
use Rattle.task_queue.proofs.calls.fill.Goals as goal

pub push_as-requires-clause-rule : goal.push_as-requires-clause-rule
push_as-requires-clause-rule g c = let all = ap (λ (v : Hand). v.shares) c.loop-number.invariant.1 in (queues _ _ _ _ all, knows_left _ _ all)

pub unreachable-requires : goal.unreachable-requires
unreachable-requires g c = let held = c.in_default.ensures.rule.2 in let n = c.loop-number.number in let v = view c.loop-number.pass in
    let queued = ap (λ (v : Hand). length v.queued) c.loop-number.invariant.1 ∙ length-range_with_len 1 n in
    let taken = ap (λ (v : Hand). length v.taken) c.loop-number.invariant.1 in
    omega (arith, held.1, c.requires.room, c.loop-number-test.true, queued, taken, length-append v.taken held.0, length_permutation v.queued (v.taken ++ held.0) held.2)

pub loop-number-preserved : goal.loop-number-preserved
loop-number-preserved g c = (search rules, c.in-Ok.ensures.rule ∙ (λ i. let v = c.loop-number.invariant.1 i in hand v.shares (v.queued ++ (c.loop-number.number + 1) ∷ []) v.taken) ∙ ap (λ (l : List ℕ). hand 64 l []) (sym (numbers_more 1 c.loop-number.number (c.loop-number.number + 1) (omega arith))))
