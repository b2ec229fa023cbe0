use Rattle.std.proofs.Common.{◌≡◌, ◌++◌, take, map}
use Rattle.frame_core.specs.Schemas.{Head}
use Rattle.reply_text.specs.Commas.{further_fields}
use Rattle.reply_text.proofs.frame_lines.push_names.Given as goal

-- the names so far stand in the line
abbrev pub invariant-loop-place : goal.invariant-loop-place
invariant-loop-place l = l.line.items ≡ l.fn.line.items ++ further_fields l.timed (take l.place (map (λ (c : Head). c.0) l.frame.schema.columns))
