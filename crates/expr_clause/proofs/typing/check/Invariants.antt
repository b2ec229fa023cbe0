use Rattle.std.proofs.Common.{◌≡◌, ◌+◌, drop}
use Rattle.expr_clause.specs.Typing.{check, check_from}
use Rattle.expr_clause.proofs.typing.check.Given as goal

-- the clauses that are left give of the schema so far what all give of the first one
abbrev pub invariant-loop-number : goal.invariant-loop-number
invariant-loop-number l = check_from (l.number + 1) (drop l.number l.clauses) l.given ≡ check l.clauses l.schema
