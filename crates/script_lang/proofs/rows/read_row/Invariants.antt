use Rattle.std.proofs.Common.{◌≡◌, ◌-◌, length}
use Rattle.std.specs.Prelude.{option_map}
use Rattle.script_lang.specs.Fronts.{whole_number_at, line_at}
use Rattle.script_lang.specs.Rows.{with_row}
use Rattle.script_lang.proofs.RowSteps.{from_place}
use Rattle.script_lang.proofs.rows.read_row.Given as goal

-- what is left of the row makes of the columns so far what the whole row makes of those at the start
abbrev pub invariant-loop-place : goal.invariant-loop-place
invariant-loop-place l = option_map (from_place l.place l.columns) (line_at whole_number_at (l.count - l.place) l.rest) ≡ option_map (with_row l.fn.columns) (line_at whole_number_at (length l.fn.columns) l.bytes)
