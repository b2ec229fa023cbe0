use Rattle.row_clauses.proofs.WayLaws.{apply_named}
use Rattle.row_clauses.proofs.passing.one_clause.Goals as goal

pub returns-in-Apply : goal.returns-in-Apply
returns-in-Apply c = apply_named c.args.spots.now c.args.frame.now c.args.row _ c.applied.result c.args.clause.now c.in-Apply.name c.in-Apply.expr _ c.in-Apply.is c.applied.ensures
