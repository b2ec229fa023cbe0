use Rattle.std.proofs.Common.{◌≡◌, ◌+◌, drop, length}
use Rattle.expr_clause.specs.Asking.{pass}
use Rattle.row_clauses.specs.Lying.{AreTyped, row_at, spots_of, lay_all, places_from}
use Rattle.row_clauses.proofs.WayLaws.{Rest}
use Rattle.row_clauses.proofs.passing.pass_row.Given as goal

-- the clauses that are left make of the row so far what all make of the frame's row
abbrev pub invariant-loop-place : goal.invariant-loop-place
invariant-loop-place l =
    l.spots ≡ spots_of l.frame.schema (places_from 0 (length l.frame.schema.columns)) (length l.frame.schema.columns) l.clauses → AreTyped l.frame.schema.columns (row_at l.frame l.row).cells
    → Rest l.frame l.row (pass l.first l.frame.schema l.clauses (row_at l.frame l.row)) (lay_all l.frame.schema (places_from 0 (length l.frame.schema.columns)) (length l.frame.schema.columns) l.clauses)
    (l.first + l.place) (drop l.place l.clauses) (drop l.place l.spots) l.made.items
