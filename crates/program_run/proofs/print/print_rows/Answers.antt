use Rattle.std.proofs.Common.{◌≡◌, ℕ, ◌<◌, List, Result, Err, map, sym, subst}
use Rattle.program_edge.specs.declared.sink.SinkErr.{SinkErr}
use Rattle.frame_core.specs.Texts.{Text}
use Rattle.frame_core.specs.Frames.{Row}
use Rattle.std.specs.List.{concat}
use Rattle.reply_text.specs.FrameText.{record_text, row_fields}
use Rattle.program_run.specs.Endings.{Printed}
use Rattle.program_run.proofs.Prints.{got, row-more, row-refused, handed-on}
use Rattle.program_run.proofs.Shown.{slice_get-map}
use Rattle.program_run.proofs.print.print_rows.Goals as goal

pub returns-in_err-put_row : goal.returns-in_err-put_row
returns-in_err-put_row g c =
    let row = got c.args.frame.now.rows c.loop-row.row (subst (λ (n : ℕ). c.loop-row.row < n) c.rows-row-end.ensures.rows c.loop-row-test.true) in
    let same : c.from_residual.result ≡ Err c.in_err-put_row.field-0.0 = handed-on c.from_residual.result c.in_err-put_row.field-0.0 c.from_residual.ensures.1 in
    let texts : List Text = map (λ (r : Row). record_text (row_fields c.args.frame.now.schema.timed r)) c.args.frame.now.rows in
    subst (λ (x : Result (Unit {0}) SinkErr). Printed (g.S.Sink.written c.args.out.now) (g.S.Sink.written c.put_row.new.out) (g.S.Sink.faults c.args.out.now) (g.S.Sink.faults c.put_row.new.out) (concat texts) x) (sym same)
    (row-refused (g.S.Sink.written c.args.out.now) (g.S.Sink.written c.loop-row.out) (g.S.Sink.written c.put_row.new.out) (g.S.Sink.faults c.args.out.now) (g.S.Sink.faults c.loop-row.out) (g.S.Sink.faults c.put_row.new.out)
    texts c.loop-row.row (record_text (row_fields c.args.frame.now.schema.timed row.0)) c.in_err-put_row.field-0.0
    (slice_get-map (λ (r : Row). record_text (row_fields c.args.frame.now.schema.timed r)) c.args.frame.now.rows c.loop-row.row row.0 row.1)
    c.loop-row.invariant (c.in_err-put_row.ensures row.0 row.1))

pub loop-row-preserved : goal.loop-row-preserved
loop-row-preserved g c =
    let row = got c.args.frame.now.rows c.loop-row.row (subst (λ (n : ℕ). c.loop-row.row < n) c.rows-row-end.ensures.rows c.loop-row-test.true) in
    row-more (g.S.Sink.written c.args.out.now) (g.S.Sink.written c.loop-row.out) (g.S.Sink.written c.put_row.new.out) (g.S.Sink.faults c.args.out.now) (g.S.Sink.faults c.loop-row.out) (g.S.Sink.faults c.put_row.new.out)
    (map (λ (r : Row). record_text (row_fields c.args.frame.now.schema.timed r)) c.args.frame.now.rows) c.loop-row.row (record_text (row_fields c.args.frame.now.schema.timed row.0))
    (slice_get-map (λ (r : Row). record_text (row_fields c.args.frame.now.schema.timed r)) c.args.frame.now.rows c.loop-row.row row.0 row.1)
    c.loop-row.invariant (c.in_ok-put_row.ensures row.0 row.1)
