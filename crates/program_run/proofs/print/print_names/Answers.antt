use Rattle.std.proofs.Common.{◌≡◌, ◌∙◌, Result, Err, map, sym, subst}
use Rattle.std.specs.Prelude.{IfOk}
use Rattle.std.specs.List.{concat}
use Rattle.frame_core.specs.Texts.{Text}
use Rattle.program_edge.specs.declared.sink.SinkErr.{SinkErr}
use Rattle.reply_text.specs.FrameText.{ended}
use Rattle.program_run.specs.Endings.{Prints}
use Rattle.reply_text.proofs.Commas.{got-at}
use Rattle.program_run.proofs.Prints.{row-more, row-refused, handed-on}
use Rattle.program_run.proofs.Shown.{slice_get-map}
use Rattle.program_run.proofs.print.print_names.Goals as goal

pub returns-in_err-put_made : goal.returns-in_err-put_made
returns-in_err-put_made g c =
    let same : c.from_residual.result ≡ Err c.in_err-put_made.field-0.0 = handed-on c.from_residual.result c.in_err-put_made.field-0.0 c.from_residual.ensures.1 in
    subst (λ (x : Result (Unit {0}) SinkErr). Prints g.S.Sink.written g.S.Sink.faults c.args.out.now c.put_made.new.out (concat (map ended c.args.names.now)) x) (sym same)
    (row-refused (g.S.Sink.written c.args.out.now) (g.S.Sink.written c.loop-name.out) (g.S.Sink.written c.put_made.new.out) (g.S.Sink.faults c.args.out.now) (g.S.Sink.faults c.loop-name.out) (g.S.Sink.faults c.put_made.new.out)
    (map ended c.args.names.now) c.loop-name.name-index (ended c.name-item.result) c.in_err-put_made.field-0.0
    (slice_get-map ended c.args.names.now c.loop-name.name-index c.name-item.result (got-at c.args.names.now c.loop-name.name-index c.name-item.result c.loop-name-test.true c.name-item.is))
    c.loop-name.invariant (c.in_err-put_made.ensures (ended c.name-item.result) (subst (λ (t : Text). IfOk c.name_line.result (λ made. made.items ≡ ended t)) (c.text.ensures.bytes ∙ c.name.ensures.same) c.name_line.ensures)))

pub loop-name-preserved : goal.loop-name-preserved
loop-name-preserved g c =
    row-more (g.S.Sink.written c.args.out.now) (g.S.Sink.written c.loop-name.out) (g.S.Sink.written c.put_made.new.out) (g.S.Sink.faults c.args.out.now) (g.S.Sink.faults c.loop-name.out) (g.S.Sink.faults c.put_made.new.out)
    (map ended c.args.names.now) c.loop-name.name-index (ended c.name-item.result)
    (slice_get-map ended c.args.names.now c.loop-name.name-index c.name-item.result (got-at c.args.names.now c.loop-name.name-index c.name-item.result c.loop-name-test.true c.name-item.is))
    c.loop-name.invariant (c.in_ok-put_made.ensures (ended c.name-item.result) (subst (λ (t : Text). IfOk c.name_line.result (λ made. made.items ≡ ended t)) (c.text.ensures.bytes ∙ c.name.ensures.same) c.name_line.ensures))
