use Rattle.std.proofs.Common.{◌≡◌, ◌+◌, ◌-◌, ◌≤◌, drop, length}
use Rattle.expr_clause.specs.Asking.{run_all, runs}
use Rattle.row_clauses.specs.Plans.{AllFit}
use Rattle.row_clauses.proofs.applying.all_parts.Given as goal

-- the clauses that are left make of the frame so far what all make of the first one
abbrev pub invariant-loop-at : goal.invariant-loop-at
invariant-loop-at l = record {
  within : l.at ≤ length l.clauses;
  runs : run_all (l.at + 1) (runs (drop l.at l.clauses)) l.frame ≡ run_all 1 (runs l.clauses) l.fn.frame;
  fit : AllFit (drop l.at l.clauses) l.frame.schema;
}

abbrev pub decreases-loop-at : goal.decreases-loop-at
decreases-loop-at l = length l.clauses - l.at
