use Rattle.std.proofs.Common.{take}
use Rattle.frame_core.specs.Columns.{column_cells}
use Rattle.group_clause.specs.Blocks.{TalliedBy}
use Rattle.group_clause.proofs.block.tally_column.Given as goal

-- the tallies of the rows so far
abbrev pub invariant-loop-row : goal.invariant-loop-row
invariant-loop-row l = TalliedBy l.count (take l.row l.numbers) (take l.row (column_cells l.column)) l.tallies.items
