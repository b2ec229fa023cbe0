use Rattle.std.proofs.Common.{◌∙◌, ap, sym}
use Rattle.expr_clause.specs.Typing.{check}
use Rattle.row_clauses.proofs.RunLaws.{all_fit}
use Rattle.row_clauses.proofs.applying.apply_clauses.Goals as goal

pub all_parts-requires-clause-fit : goal.all_parts-requires-clause-fit
all_parts-requires-clause-fit c = all_fit 1 c.args.clauses.now c.args.frame.schema c.in_ok-check.field-0 (ap (check c.args.clauses.now) (sym c.schema.ensures.schema) ∙ c.in_ok-check.ensures)
