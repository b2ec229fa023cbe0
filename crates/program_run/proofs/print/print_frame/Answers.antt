use Rattle.std.proofs.Common.{◌≡◌, Result, Err, map, sym, subst}
use Rattle.std.specs.List.{concat}
use Rattle.program_edge.specs.declared.sink.SinkErr.{SinkErr}
use Rattle.frame_core.specs.Frames.{Row}
use Rattle.reply_text.specs.FrameText.{record_text, row_fields, header_fields, frame_lines}
use Rattle.program_run.specs.Endings.{Printed}
use Rattle.program_run.proofs.Prints.{printed-then, printed-stop, handed-on}
use Rattle.program_run.proofs.print.print_frame.Goals as goal

pub returns-in_err-put_made : goal.returns-in_err-put_made
returns-in_err-put_made g c =
    let same : c.from_residual.result ≡ Err c.in_err-put_made.field-0.0 = handed-on c.from_residual.result c.in_err-put_made.field-0.0 c.from_residual.ensures.1 in
    subst (λ (x : Result (Unit {0}) SinkErr). Printed (g.S.Sink.written c.args.out.now) (g.S.Sink.written c.put_made.new.out) (g.S.Sink.faults c.args.out.now) (g.S.Sink.faults c.put_made.new.out) (concat (frame_lines c.args.frame.now)) x) (sym same)
    (printed-stop (g.S.Sink.written c.args.out.now) (g.S.Sink.written c.put_made.new.out) (g.S.Sink.faults c.args.out.now) (g.S.Sink.faults c.put_made.new.out)
    (record_text (header_fields c.args.frame.now)) (concat (map (λ (r : Row). record_text (row_fields c.args.frame.now.schema.timed r)) c.args.frame.now.rows)) c.in_err-put_made.field-0.0
    (c.in_err-put_made.ensures (record_text (header_fields c.args.frame.now)) c.header_line.ensures))

pub returns : goal.returns
returns g c =
    printed-then (g.S.Sink.written c.args.out.now) (g.S.Sink.written c.put_made.new.out) (g.S.Sink.written c.print_rows.new.out) (g.S.Sink.faults c.args.out.now) (g.S.Sink.faults c.put_made.new.out) (g.S.Sink.faults c.print_rows.new.out)
    (record_text (header_fields c.args.frame.now)) (concat (map (λ (r : Row). record_text (row_fields c.args.frame.now.schema.timed r)) c.args.frame.now.rows)) c.print_rows.result
    (c.in_ok-put_made.ensures (record_text (header_fields c.args.frame.now)) c.header_line.ensures) c.print_rows.ensures
