use Rattle.std.proofs.Common.{◌≡◌, ◌-◌}
use Rattle.script_lang.specs.Fronts.{line_at}
use Rattle.script_lang.specs.PlainFiles.{column_name_at}
use Rattle.script_lang.proofs.LineSteps.{behind}
use Rattle.script_lang.proofs.header.read_names.Given as goal

-- the names so far and those that are left are all of them
abbrev pub invariant-loop-place : goal.invariant-loop-place
invariant-loop-place l = behind l.names (line_at column_name_at (l.count - l.place) l.rest) ≡ line_at column_name_at l.count l.bytes
