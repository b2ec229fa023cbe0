use Rattle.std.proofs.Common.{◌≡◌, Result, Err, map, sym, subst}
use Rattle.std.specs.List.{concat}
use Rattle.std.proofs.lemmas.Option.{slice_get-get_or}
use Rattle.program_edge.specs.declared.sink.SinkErr.{SinkErr}
use Rattle.reply_text.specs.Replies.{version_line}
use Rattle.program_run.specs.Endings.{Prints}
use Rattle.program_run.proofs.Prints.{row-more, row-refused, handed-on}
use Rattle.program_run.proofs.Shown.{slice_get-map}
use Rattle.program_run.proofs.print.print_versions.Goals as goal

pub returns-in_err-put_made : goal.returns-in_err-put_made
returns-in_err-put_made g c =
    let same : c.from_residual.result ≡ Err c.in_err-put_made.field-0.0 = handed-on c.from_residual.result c.in_err-put_made.field-0.0 c.from_residual.ensures.1 in
    subst (λ (x : Result (Unit {0}) SinkErr). Prints g.S.Sink.written g.S.Sink.faults c.args.out.now c.put_made.new.out (concat (map version_line c.args.rows.now)) x) (sym same)
    (row-refused (g.S.Sink.written c.args.out.now) (g.S.Sink.written c.loop-row.out) (g.S.Sink.written c.put_made.new.out) (g.S.Sink.faults c.args.out.now) (g.S.Sink.faults c.loop-row.out) (g.S.Sink.faults c.put_made.new.out)
    (map version_line c.args.rows.now) c.loop-row.row-index (version_line _) c.in_err-put_made.field-0.0
    (slice_get-map version_line c.args.rows.now c.loop-row.row-index _ (slice_get-get_or c.args.rows.now c.loop-row.row-index _ c.loop-row-test.true))
    c.loop-row.invariant (c.in_err-put_made.ensures (version_line _) c.version_line.ensures))

pub loop-row-preserved : goal.loop-row-preserved
loop-row-preserved g c =
    row-more (g.S.Sink.written c.args.out.now) (g.S.Sink.written c.loop-row.out) (g.S.Sink.written c.put_made.new.out) (g.S.Sink.faults c.args.out.now) (g.S.Sink.faults c.loop-row.out) (g.S.Sink.faults c.put_made.new.out)
    (map version_line c.args.rows.now) c.loop-row.row-index (version_line _)
    (slice_get-map version_line c.args.rows.now c.loop-row.row-index _ (slice_get-get_or c.args.rows.now c.loop-row.row-index _ c.loop-row-test.true))
    c.loop-row.invariant (c.in_ok-put_made.ensures (version_line _) c.version_line.ensures)
