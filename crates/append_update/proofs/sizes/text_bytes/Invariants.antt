use Rattle.std.proofs.Common.{◌≡◌, ◌+◌, ◌-◌, length}
use Rattle.std.specs.Prelude.{sum_by}
use Rattle.frame_core.specs.Columns.{columns_from}
use Rattle.frame_core.specs.Limits.{all_text_bytes}
use Rattle.append_update.specs.Sizes.{text_total}
use Rattle.append_update.proofs.sizes.text_bytes.Given as goal

-- with those of the columns that are left they are all
abbrev pub invariant-loop-place : goal.invariant-loop-place
invariant-loop-place l = l.bytes + sum_by all_text_bytes (columns_from l.place (length l.frame.schema.columns - l.place) l.frame.rows) ≡ text_total l.frame.rows
