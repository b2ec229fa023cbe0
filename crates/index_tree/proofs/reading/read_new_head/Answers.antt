use Rattle.std.proofs.Common.{◌∙◌, not, ap, sym}
use Rattle.std.proofs.lemmas.Result.{err_from_is_err_and}
use Rattle.segment_bytes.proofs.ColumnLoops.{head_fresh, head_taken, head_fails}
use Rattle.index_tree.proofs.reading.read_new_head.Goals as goal

pub returns-in_err-kind-clause-head : goal.returns-in_err-kind-clause-head
returns-in_err-kind-clause-head c = λ earlier noted.
    let p = err_from_is_err_and c.from_residual.result c.from_residual.ensures.1 in
    rw (p.1, p.2) (head_fails earlier c.args.bytes.now _ c.in_err-kind.ensures)

pub returns-then-not-branch-clause-head : goal.returns-then-not-branch-clause-head
returns-then-not-branch-clause-head c = λ earlier noted.
    head_taken earlier c.args.bytes.now (c.in_ok-kind.name.now, c.in_ok-kind.kind) c.in_ok-kind.after.now c.in_ok-kind.ensures
    (sym (noted c.in_ok-kind.name.now) ∙ sym c.in_ok-note_name.ensures.is_new ∙ ap not c.if-not-branch.true)

pub returns-clause-head : goal.returns-clause-head
returns-clause-head c = λ earlier noted.
    head_fresh earlier c.args.bytes.now (c.in_ok-kind.name.now, c.in_ok-kind.kind) c.in_ok-kind.after.now c.in_ok-kind.ensures
    (sym (noted c.in_ok-kind.name.now) ∙ sym c.in_ok-note_name.ensures.is_new ∙ ap not c.if-not-branch.false)
