use Rattle.std.proofs.Common.{◌≡◌, take}
use Rattle.std.specs.List.{AllByRecursion}
use Rattle.frame_core.specs.declared.column.Column.{Column}
use Rattle.frame_core.specs.Frames.{IsCell}
use Rattle.frame_core.specs.Columns.{column_cells}
use Rattle.frame_core.proofs.making.copy_columns.Given as goal

-- the columns so far were copied, and have cells of 64 bits or UTF-8
abbrev pub invariant-loop-column : goal.invariant-loop-column
invariant-loop-column l = record {
  copies : l.copies ≡ take l.column-index l.columns;
  cells : AllByRecursion (λ (c : Column). AllByRecursion IsCell (column_cells c)) l.copies;
}
