use Rattle.std.proofs.Common.{◌≡◌, drop}
use Rattle.std.specs.List.{list_all}
use Rattle.expr_clause.specs.Fitting.{is_small_clause}
use Rattle.expr_clause.proofs.fitting.all_small.Given as goal

-- the clauses that are left answer for all
abbrev pub invariant-loop-clause : goal.invariant-loop-clause
invariant-loop-clause l = list_all is_small_clause (drop l.clause-index l.clauses) ≡ list_all is_small_clause l.clauses
