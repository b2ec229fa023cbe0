use Rattle.expr_clause.specs.Asking.{pass}
use Rattle.row_clauses.proofs.ThroughLaws.{Through}
use Rattle.row_clauses.proofs.running.each_row.Given as goal

-- the rows that are left add to those so far what comes through of all
abbrev pub invariant-loop-row : goal.invariant-loop-row
invariant-loop-row l = Through l.frame l.plan.schema (pass l.first l.frame.schema l.clauses) l.row l.out
