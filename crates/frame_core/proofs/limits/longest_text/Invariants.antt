use Rattle.std.proofs.Common.{◌≡◌, max, map, drop}
use Rattle.std.specs.Prelude.{fold}
use Rattle.frame_core.specs.declared.column.Column.{Column}
use Rattle.frame_core.specs.Columns.{column_cells}
use Rattle.frame_core.specs.Limits.{longest_text}
use Rattle.frame_core.proofs.limits.longest_text.Given as goal

-- the columns that are left make of the longest so far what all make of nothing
abbrev pub invariant-loop-column : goal.invariant-loop-column
invariant-loop-column l = fold max l.longest (map (λ (c : Column). longest_text (column_cells c)) (drop l.column-index l.columns)) ≡ fold max 0 (map (λ (c : Column). longest_text (column_cells c)) l.columns)
