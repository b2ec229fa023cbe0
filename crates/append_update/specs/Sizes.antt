-- How large a new version is.
--     text_total          the bytes of all texts of rows
--     kept_rows           the rows of a base that stay
--     is_text             whether cells of a type are texts
use Rattle.std.specs.Prelude.{ℕ, ◌+◌, Bool, true, false, List, ◌++◌, Option, Some, None, sum_by}
use Rattle.frame_core.specs.declared.cell.ColType.{ColType}
use Rattle.frame_core.specs.declared.cell.ColType.TheVariants as types
use Rattle.frame_core.specs.Ranges.{Range}
use Rattle.frame_core.specs.Frames.{Row, rows_below, rows_above}
use Rattle.frame_core.specs.Limits.{all_text_bytes}

-- the bytes of all texts
abbrev pub text_total : List Row → ℕ
text_total rows = sum_by (λ (r : Row). all_text_bytes r.cells) rows

-- the rows outside the range; all where none is given
abbrev pub kept_rows : Option Range → List Row → List Row
kept_rows None rows = rows
kept_rows (Some range) rows = rows_below range rows ++ rows_above range rows

-- cells of the type are texts
abbrev pub is_text : ColType → Bool
is_text types.Text = true
is_text _ = false
