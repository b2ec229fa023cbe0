use Rattle.std.proofs.Common.{◌≡◌, ◌-◌, length}
use Rattle.std.specs.Prelude.{option_map}
use Rattle.script_lang.specs.Fronts.{whole_number_at, line_at, all_of}
use Rattle.script_lang.specs.PlainFiles.{plain_rows_of}
use Rattle.script_lang.specs.Rows.{add_rows}
use Rattle.script_lang.proofs.rows.read_rows.Given as goal

-- the rows that are left make of the columns so far what all rows make of those at the start
abbrev pub invariant-loop : goal.invariant-loop
invariant-loop l = option_map (add_rows l.columns) (all_of (line_at whole_number_at (length l.fn.columns)) (length l.bytes - l.counter) l.rest) ≡ option_map (add_rows l.fn.columns) (plain_rows_of (length l.fn.columns) l.bytes)
