use Rattle.std.proofs.Common.{take, map, Ok}
use Rattle.std.specs.List.{concat}
use Rattle.reply_text.specs.FrameText.{ended}
use Rattle.program_run.specs.Endings.{Prints}
use Rattle.program_run.proofs.print.print_names.Given as goal

-- the names so far were printed
abbrev pub invariant-loop-name : goal.invariant-loop-name
invariant-loop-name g l = Prints g.S.Sink.written g.S.Sink.faults l.fn.out l.out (concat (take l.name-index (map ended l.names))) (Ok tt)
