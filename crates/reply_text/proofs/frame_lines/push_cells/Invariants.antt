use Rattle.std.proofs.Common.{◌≡◌, ◌++◌, take, map, Some}
use Rattle.std.specs.Prelude.{slice_get}
use Rattle.frame_core.specs.Frames.{Row}
use Rattle.reply_text.specs.Commas.{further_fields}
use Rattle.reply_text.specs.FrameText.{cell_text}
use Rattle.reply_text.proofs.frame_lines.push_cells.Given as goal

-- the cells so far stand in the line
abbrev pub invariant-loop-column : goal.invariant-loop-column
invariant-loop-column l = (r : Row) → slice_get l.frame.rows l.row ≡ Some r → l.line.items ≡ l.fn.line.items ++ further_fields l.timed (take l.column (map cell_text r.cells))
