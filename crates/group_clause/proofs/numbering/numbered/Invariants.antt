use Rattle.std.proofs.Common.{take}
use Rattle.frame_core.specs.Columns.{column_cells}
use Rattle.group_clause.specs.Blocks.{IsNumbering}
use Rattle.group_clause.proofs.numbering.numbered.Given as goal

-- the rows so far have their numbers
abbrev pub invariant-loop-row : goal.invariant-loop-row
invariant-loop-row l = IsNumbering l.numbers.items l.keys.keys (take l.row (column_cells l.column))
