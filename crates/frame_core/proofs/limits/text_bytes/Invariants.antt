use Rattle.std.proofs.Common.{◌≡◌, ◌*◌, ◌^◌, ◌≤◌, take}
use Rattle.std.specs.Prelude.{sum_by}
use Rattle.frame_core.specs.declared.column.Column.{Column}
use Rattle.frame_core.specs.Columns.{column_cells}
use Rattle.frame_core.specs.Limits.{all_text_bytes}
use Rattle.frame_core.proofs.limits.text_bytes.Given as goal

-- the bytes of the columns so far, of which each has less than 2^64
abbrev pub invariant-loop-column : goal.invariant-loop-column
invariant-loop-column l = record {
  sum : l.bytes ≡ sum_by (λ (c : Column). all_text_bytes (column_cells c)) (take l.column-index l.columns);
  small : l.bytes ≤ l.column-index * 2 ^ 64;
}
