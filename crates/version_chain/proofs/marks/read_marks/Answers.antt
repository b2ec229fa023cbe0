use Rattle.std.proofs.Common.{arith, ◌∙◌, None}
use Rattle.std.proofs.lemmas.Result.{err_from_is_err_and}
use Rattle.store_model.specs.ChainText.{start, mark_at, marks_at, tomb_of}
use Rattle.version_chain.specs.Reads.{form_of}
use Rattle.version_chain.proofs.Steps.{so_far_more, so_far_fails, so_far_ends, mark_step, marks_step, stops_as, mark_fails, tag_fails, mark_found}
use Rattle.version_chain.proofs.marks.read_marks.Goals as goal

pub returns-in_err-tag : goal.returns-in_err-tag
returns-in_err-tag c =
    let p = err_from_is_err_and c.from_residual.result c.from_residual.ensures.1 in
    rw (p.1, p.2) (marks_step start None c.args.count c.args.bytes.now
    ∙ so_far_fails mark_step (start, None) c.args.count c.args.bytes.now c.loop.counter c.loop.marks (form_of c.loop.next, c.loop.tomb) c.loop.rest.now _ c.loop-test.true
    (tag_fails (form_of c.loop.next) c.loop.tomb c.loop.rest.now _ c.in_err-tag.ensures) c.loop.invariant)

pub returns-in_err-mark : goal.returns-in_err-mark
returns-in_err-mark c =
    let p = err_from_is_err_and c.from_residual-in_err-mark.result c.from_residual-in_err-mark.ensures.1 in
    rw (p.1, p.2) (stops_as c.in_err-mark.field-0.0 (mark_at c.in_ok-tag.tag c.loop.tomb c.in_ok-tag.after.now) (marks_at start None c.args.count c.args.bytes.now)
    (λ left e. marks_step start None c.args.count c.args.bytes.now
    ∙ so_far_fails mark_step (start, None) c.args.count c.args.bytes.now c.loop.counter c.loop.marks (form_of c.loop.next, c.loop.tomb) c.loop.rest.now left c.loop-test.true
    (mark_fails (form_of c.loop.next) c.loop.tomb c.loop.rest.now c.in_ok-tag.tag (form_of c.in_ok-tag.behind) c.in_ok-tag.after.now left c.in_ok-tag.ensures e) c.loop.invariant) c.in_err-mark.ensures)

pub loop-preserved : goal.loop-preserved
loop-preserved c = rw (c.in_ok-push.ensures.ok, c.tomb_version-tomb.ensures) (so_far_more mark_step (start, None) c.args.count c.args.bytes.now c.loop.counter c.loop.marks (form_of c.loop.next, c.loop.tomb) c.loop.rest.now
    c.in_ok-mark.mark (form_of c.in_ok-tag.behind, tomb_of c.in_ok-mark.mark) c.in_ok-mark.after.now c.loop-test.true
    (mark_found (form_of c.loop.next) c.loop.tomb c.loop.rest.now c.in_ok-tag.tag (form_of c.in_ok-tag.behind) c.in_ok-tag.after.now c.in_ok-mark.mark c.in_ok-mark.after.now c.in_ok-tag.ensures c.in_ok-mark.ensures) c.loop.invariant)

pub returns : goal.returns
returns c = marks_step start None c.args.count c.args.bytes.now ∙ so_far_ends mark_step (start, None) c.args.count c.args.bytes.now c.loop.counter c.loop.marks (form_of c.loop.next, c.loop.tomb) c.loop.rest.now (omega (arith, c.loop-test.false)) c.loop.invariant
