use Rattle.std.proofs.Common.{◌≡◌, ◌++◌, Result, Err, sym, subst}
use Rattle.std.specs.Prelude.{codes}
use Rattle.std.specs.List.{concat}
use Rattle.program_edge.specs.declared.sink.SinkErr.{SinkErr}
use Rattle.reply_text.specs.Replies.{part_lines, end_line}
use Rattle.program_run.specs.Endings.{Prints}
use Rattle.program_run.proofs.Prints.{printed-then, printed-stop, handed-on}
use Rattle.program_run.proofs.print.print_end.Goals as goal

pub returns-in_err-print_part : goal.returns-in_err-print_part
returns-in_err-print_part g c =
    let same : c.from_residual.result ≡ Err c.in_err-print_part.field-0.0 = handed-on c.from_residual.result c.in_err-print_part.field-0.0 c.from_residual.ensures.1 in
    subst (λ (x : Result (Unit {0}) SinkErr). Prints g.S.Sink.written g.S.Sink.faults c.args.out.now c.print_part.new.out (concat (part_lines (codes "last") 1 c.args.last.now) ++ end_line c.args.end) x) (sym same)
    (printed-stop (g.S.Sink.written c.args.out.now) (g.S.Sink.written c.print_part.new.out) (g.S.Sink.faults c.args.out.now) (g.S.Sink.faults c.print_part.new.out)
    (concat (part_lines (codes "last") 1 c.args.last.now)) (end_line c.args.end) c.in_err-print_part.field-0.0 c.in_err-print_part.ensures)

pub returns : goal.returns
returns g c =
    printed-then (g.S.Sink.written c.args.out.now) (g.S.Sink.written c.print_part.new.out) (g.S.Sink.written c.put_made.new.out) (g.S.Sink.faults c.args.out.now) (g.S.Sink.faults c.print_part.new.out) (g.S.Sink.faults c.put_made.new.out)
    (concat (part_lines (codes "last") 1 c.args.last.now)) (end_line c.args.end) c.put_made.result c.in_ok-print_part.ensures (c.put_made.ensures (end_line c.args.end) c.end_line.ensures)
