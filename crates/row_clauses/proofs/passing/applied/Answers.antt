use Rattle.std.proofs.Common.{refl}
use Rattle.row_clauses.proofs.WayLaws.{apply_done, apply_over}
use Rattle.row_clauses.proofs.passing.applied.Goals as goal

pub returns-in_ok-push-in-Some : goal.returns-in_ok-push-in-Some
returns-in_ok-push-in-Some c = λ name.
    apply_done c.args.spots.now c.args.frame.now c.args.row _ _ name c.args.expr.now _ _ c.in-Some.cell _ refl c.deref.ensures.value c.in-Some.is c.in_ok-cell.ensures c.in_ok-push-in-Some.ensures.items

pub returns-in-None : goal.returns-in-None
returns-in-None c = λ name. apply_over c.args.spots.now c.args.frame.now c.args.row _ name c.args.expr.now _ _ c.deref.ensures.value c.in-None.is c.in_ok-cell.ensures
