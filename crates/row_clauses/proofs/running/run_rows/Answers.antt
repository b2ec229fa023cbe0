use Rattle.std.proofs.Common.{subst}
use Rattle.row_clauses.specs.Plans.{IsPlan}
use Rattle.row_clauses.proofs.running.run_rows.Goals as goal

pub rows_of-requires-clause-way : goal.rows_of-requires-clause-way
rows_of-requires-clause-way c = record {
  frame = c.schema.ensures.frame;
  fit = c.requires.fit;
  plain = c.requires.plain;
  plan_is = subst (λ s. IsPlan s c.args.clauses.now c.in_ok-plan.plan) c.schema.ensures.schema c.in_ok-plan.ensures;
}
