use Rattle.std.proofs.Common.{◌≡◌, map, take}
use Rattle.std.specs.Prelude.{slice_range}
use Rattle.frame_core.specs.declared.column.Column.{Column}
use Rattle.frame_core.specs.Columns.{column_type, column_cells}
use Rattle.frame_core.proofs.cutting.column_parts.Given as goal

-- the columns so far were cut
abbrev pub invariant-loop-column : goal.invariant-loop-column
invariant-loop-column l = record {
  kinds : map column_type l.parts ≡ map column_type (take l.column-index l.columns);
  cells : map column_cells l.parts ≡ map (λ (c : Column). slice_range (column_cells c) l.from l.to) (take l.column-index l.columns);
}
