use Rattle.std.proofs.Common.{◌≡◌, Result, Err, sym, subst}
use Rattle.std.specs.List.{concat}
use Rattle.program_edge.specs.declared.sink.SinkErr.{SinkErr}
use Rattle.reply_text.specs.Replies.{reply_line, reply_lines, lines_after}
use Rattle.program_run.specs.Endings.{Prints}
use Rattle.program_run.proofs.Prints.{printed-then, printed-stop, handed-on}
use Rattle.program_run.proofs.print.print_reply.Goals as goal

pub returns-in_err-put_made : goal.returns-in_err-put_made
returns-in_err-put_made g c =
    let same : c.from_residual.result ≡ Err c.in_err-put_made.field-0.0 = handed-on c.from_residual.result c.in_err-put_made.field-0.0 c.from_residual.ensures.1 in
    subst (λ (x : Result (Unit {0}) SinkErr). Prints g.S.Sink.written g.S.Sink.faults c.args.out.now c.put_made.new.out (concat (reply_lines c.args.who.now c.args.number c.args.reply.now)) x) (sym same)
    (printed-stop (g.S.Sink.written c.args.out.now) (g.S.Sink.written c.put_made.new.out) (g.S.Sink.faults c.args.out.now) (g.S.Sink.faults c.put_made.new.out)
    (reply_line c.args.who.now c.args.number c.args.reply.now) (concat (lines_after c.args.reply.now.outcome)) c.in_err-put_made.field-0.0
    (c.in_err-put_made.ensures (reply_line c.args.who.now c.args.number c.args.reply.now) c.reply_line.ensures))

pub returns : goal.returns
returns g c =
    printed-then (g.S.Sink.written c.args.out.now) (g.S.Sink.written c.put_made.new.out) (g.S.Sink.written c.print_after.new.out) (g.S.Sink.faults c.args.out.now) (g.S.Sink.faults c.put_made.new.out) (g.S.Sink.faults c.print_after.new.out)
    (reply_line c.args.who.now c.args.number c.args.reply.now) (concat (lines_after c.args.reply.now.outcome)) c.print_after.result
    (c.in_ok-put_made.ensures (reply_line c.args.who.now c.args.number c.args.reply.now) c.reply_line.ensures) c.print_after.ensures
