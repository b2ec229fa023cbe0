use Rattle.std.proofs.Common.{take, map, Ok}
use Rattle.std.specs.List.{concat}
use Rattle.frame_core.specs.Frames.{Row}
use Rattle.reply_text.specs.FrameText.{record_text, row_fields}
use Rattle.program_run.specs.Endings.{Prints}
use Rattle.program_run.proofs.print.print_rows.Given as goal

-- the rows so far were printed
abbrev pub invariant-loop-row : goal.invariant-loop-row
invariant-loop-row g l = Prints g.S.Sink.written g.S.Sink.faults l.fn.out l.out (concat (take l.row (map (λ (r : Row). record_text (row_fields l.frame.schema.timed r)) l.frame.rows))) (Ok tt)
