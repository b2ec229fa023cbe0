use Rattle.std.proofs.Common.{take, map, Ok}
use Rattle.std.specs.List.{concat}
use Rattle.reply_text.specs.Replies.{version_line}
use Rattle.program_run.specs.Endings.{Prints}
use Rattle.program_run.proofs.print.print_versions.Given as goal

-- the versions so far were printed
abbrev pub invariant-loop-row : goal.invariant-loop-row
invariant-loop-row g l = Prints g.S.Sink.written g.S.Sink.faults l.fn.out l.out (concat (take l.row-index (map version_line l.rows))) (Ok tt)
