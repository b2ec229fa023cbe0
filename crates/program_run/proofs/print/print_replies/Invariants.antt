use Rattle.std.proofs.Common.{take, Ok}
use Rattle.std.specs.List.{concat}
use Rattle.program_run.specs.Endings.{Prints}
use Rattle.program_run.proofs.Shown.{reply_texts}
use Rattle.program_run.proofs.print.print_replies.Given as goal

-- the replies so far were printed
abbrev pub invariant-loop-place : goal.invariant-loop-place
invariant-loop-place g l = Prints g.S.Sink.written g.S.Sink.faults l.fn.out l.out (concat (take l.place (reply_texts l.who 1 l.replies))) (Ok tt)
