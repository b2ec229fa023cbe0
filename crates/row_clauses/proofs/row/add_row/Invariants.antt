use Rattle.std.proofs.Common.{◌≡◌, take}
use Rattle.row_clauses.specs.Lying.{cells_at, lying}
use Rattle.row_clauses.proofs.row.add_row.Given as goal

-- the cells so far were added
abbrev pub invariant-loop-place : goal.invariant-loop-place
invariant-loop-place l = l.out ≡ record l.initial.out { begun = lying (cells_at l.frame l.row l.made) (take l.place-index l.layout) }
