use Rattle.std.proofs.Common.{◌≡◌, [], map, take}
use Rattle.std.specs.List.{AllByRecursion}
use Rattle.frame_core.specs.Schemas.{Head}
use Rattle.frame_core.specs.declared.column.Column.{Column}
use Rattle.frame_core.specs.Columns.{column_type, column_cells}
use Rattle.segment_cut.proofs.joining.empty_columns.Given as goal

-- the columns so far have their types and no cells
abbrev pub invariant-loop-kind : goal.invariant-loop-kind
invariant-loop-kind l = record {
  kinds : map column_type l.columns.items ≡ map (λ (h : Head). h.1) (take l.kind-index l.heads);
  cells : AllByRecursion (λ (c : Column). column_cells c ≡ []) l.columns.items;
}
