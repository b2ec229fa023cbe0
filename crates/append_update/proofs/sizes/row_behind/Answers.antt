use Rattle.std.proofs.Common.{◌≡◌, ◌+◌, arith}
use Rattle.frame_write.specs.Pieces.{end_of}
use Rattle.frame_write.proofs.LayoutLemmas.{end_at}
use Rattle.append_update.proofs.sizes.row_behind.Goals as goal

pub overflow_add-result : goal.overflow_add-result
overflow_add-result c =
    let same : c.in-Some.slot.now.part.first_row + c.in-Some.slot.now.part.rows ≡ end_of c.args.slots.now = end_at c.args.slots.now c.in-Some.slot.now c.in-Some.ensures.value in
    omega (arith, same, c.requires.few)

pub returns-in-Some : goal.returns-in-Some
returns-in-Some c = end_at c.args.slots.now c.in-Some.slot.now c.in-Some.ensures.value
