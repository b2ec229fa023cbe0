use Rattle.std.proofs.Common.{ℕ, List}
use Rattle.std.proofs.lemmas.Result.{err_from_is_err_and}
use Rattle.index_tree.specs.declared.index.Slot.{Slot}
use Rattle.index_tree.proofs.IndexLoops.{slots_more, slots_stopped}
use denote.Ref.{Bor}
use Rattle.index_tree.proofs.reading.read_slots.Goals as goal

pub returns-in_err-rest : goal.returns-in_err-rest
returns-in_err-rest c =
    let p = err_from_is_err_and c.from_residual-in_err-rest.result c.from_residual-in_err-rest.ensures.1 in
    rw (p.1, p.2) (slots_stopped (λ (x : List Slot × Bor (List ℕ)). (x.0, x.1.now)) c.args.total c.args.columns c.args.count c.loop.counter c.args.bytes.now c.loop.rest.now c.loop.reach c.loop.slots _ c.loop-test.true c.loop.invariant c.in_err-rest.ensures.stopped)

pub loop-preserved : goal.loop-preserved
loop-preserved c =
    let next = c.in_ok-rest.ensures.pushed in
    let read = slots_more c.args.total c.args.columns c.args.count c.loop.counter c.args.bytes.now c.loop.rest.now c.loop.reach c.loop.slots next.0 _ c.loop-test.true c.loop.invariant next.1 in
    rw (next.2, next.3) read
