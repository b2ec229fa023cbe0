use Rattle.frame_core.specs.Refusals.{Answers}
use Rattle.expr_clause.specs.Asking.{query}
use Rattle.row_clauses.proofs.Refusing.{on_err, refuses_whole}
use Rattle.parallel_read.proofs.QueryLaws.{refused, answered}
use Rattle.parallel_read.proofs.run_clauses.Goals as goal

pub returns : goal.returns
returns c = λ f columns is of.
    answered f c.in_ok-frame.frame c.args.tiles.now.range columns c.args.clauses.now c.apply_clauses.result (c.in_ok-frame.ensures f columns is of) c.apply_clauses.ensures

pub returns-in_err-check : goal.returns-in_err-check
returns-in_err-check c = λ f columns is of.
    let whole = query f c.args.tiles.now.range columns c.args.clauses.now in
    on_err (λ r. Answers r whole) c.from_residual.result c.in_err-check.field-0.0 c.from_residual.ensures.0 c.from_residual.ensures.1
    (refuses_whole c.in_err-check.field-0.0 _ whole c.in_err-check.ensures (refused f c.args.tiles.now.range columns c.args.tiles.now.schema c.args.clauses.now c.from_residual.result c.in_err-check.field-0.0 of.schema))
