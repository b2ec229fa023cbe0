use Rattle.std.proofs.Common.{◌≡◌, map, take}
use Rattle.frame_core.specs.Frames.{cell_of}
use Rattle.row_clauses.specs.Lying.{cells_at, operand}
use Rattle.row_clauses.proofs.row.find_operands.Given as goal

-- the cells of the spots so far
abbrev pub invariant-loop-spot : goal.invariant-loop-spot
invariant-loop-spot l = map cell_of l.operands.items ≡ map (operand (cells_at l.frame l.row l.made)) (take l.spot-index l.spots)
