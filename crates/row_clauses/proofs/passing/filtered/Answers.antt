use Rattle.std.proofs.Common.{refl}
use Rattle.row_clauses.proofs.WayLaws.{filter_done}
use Rattle.row_clauses.proofs.passing.filtered.Goals as goal

pub returns-in-Some : goal.returns-in-Some
returns-in-Some c = filter_done c.args.spots.now c.args.frame.now c.args.row _ _ c.args.expr.now _ _ c.in-Some.cell _ _ refl refl c.in-Some.is c.in_ok-cell.ensures c.flag_in.ensures c.kept.ensures
