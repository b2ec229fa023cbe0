use Rattle.std.proofs.lemmas.Result.{err_from_is_err_and}
use Rattle.index_tree.specs.SlotViews.{slot_seen}
use Rattle.index_tree.proofs.reading.push_next.Goals as goal

pub returns-in_err-slot-clause-stopped : goal.returns-in_err-slot-clause-stopped
returns-in_err-slot-clause-stopped c =
    let p = err_from_is_err_and c.from_residual.result c.from_residual.ensures.1 in
    rw (p.1, p.2) c.in_err-slot.ensures.gives

pub returns-clause-pushed : goal.returns-clause-pushed
returns-clause-pushed c = (slot_seen c.in_ok-slot.slot, c.in_ok-slot.ensures.gives, c.in_ok-push_slot.ensures, c.of.ensures)
