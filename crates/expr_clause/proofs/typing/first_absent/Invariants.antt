use Rattle.std.proofs.Common.{◌≡◌, ◌+◌, drop}
use Rattle.expr_clause.specs.Typing.{absent_from}
use Rattle.expr_clause.proofs.typing.first_absent.Given as goal

-- the names that are left have the first absent one of all
abbrev pub invariant-loop-place : goal.invariant-loop-place
invariant-loop-place l = absent_from (l.place + 1) l.columns (drop l.place l.names) ≡ absent_from 1 l.columns l.names
