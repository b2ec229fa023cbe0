use Rattle.std.proofs.Common.{◌≡◌, take}
use Rattle.std.specs.List.{list_any}
use Rattle.frame_core.specs.Frames.{cell_of}
use Rattle.expr_clause.specs.Exprs.{literal_cell}
use Rattle.expr_clause.specs.Cells.{same_cell}
use Rattle.expr_clause.proofs.cells.among.Given as goal

-- one of the literals so far is the cell
abbrev pub invariant-loop-literal : goal.invariant-loop-literal
invariant-loop-literal l = l.found ≡ list_any (λ x. same_cell (cell_of l.cell) (literal_cell x)) (take l.literal-index l.list)
