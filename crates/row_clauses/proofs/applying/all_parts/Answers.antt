use Rattle.frame_core.specs.Refusals.{Answers}
use Rattle.expr_clause.specs.Asking.{run_all, runs}
use Rattle.row_clauses.proofs.Refusing.{on_err, refuses_whole}
use Rattle.row_clauses.proofs.RunLaws.{part_fits, part_done, part_schema, part_refused}
use Rattle.row_clauses.proofs.applying.all_parts.Goals as goal

pub part_of-requires-clause-fit : goal.part_of-requires-clause-fit
part_of-requires-clause-fit c =
    (part_fits c.args.clauses.now c.loop-at.at c.end_of_part-end.result c.end_of_part-end.ensures.forward c.end_of_part-end.ensures.within c.loop-at.frame.schema c.loop-at.invariant.fit).0

pub returns-in_err-frame : goal.returns-in_err-frame
returns-in_err-frame c =
    let total = run_all 1 (runs c.args.clauses.now) c.args.frame in
    on_err (λ r. Answers r total) c.from_residual.result c.in_err-frame.field-0.0 c.from_residual.ensures.0 c.from_residual.ensures.1
    (refuses_whole c.in_err-frame.field-0.0 _ total c.in_err-frame.ensures
    (part_refused c.args.clauses.now c.loop-at.at c.end_of_part-end.result c.end_of_part-end.ensures.forward c.end_of_part-end.ensures.within c.loop-at.frame total c.in_err-frame.field-0.0 c.end_of_part-end.ensures.part c.loop-at.invariant.runs))

pub loop-at-preserved : goal.loop-at-preserved
loop-at-preserved c = record {
  within = c.end_of_part-end.ensures.within;
  runs = part_done c.args.clauses.now c.loop-at.at c.end_of_part-end.result c.end_of_part-end.ensures.forward c.end_of_part-end.ensures.within c.loop-at.frame c.in_ok-frame.frame _ c.end_of_part-end.ensures.part c.loop-at.invariant.runs c.in_ok-frame.ensures;
  fit = part_schema c.args.clauses.now c.loop-at.at c.end_of_part-end.result c.end_of_part-end.ensures.forward c.end_of_part-end.ensures.within c.loop-at.frame c.in_ok-frame.frame c.loop-at.invariant.fit c.in_ok-frame.ensures;
}
