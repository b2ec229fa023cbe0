use Rattle.std.proofs.Common.{◌≡◌, ℕ, ◌+◌, ◌≤◌, Result, Ok, Err, sym, subst, length, arith}
use Rattle.std.specs.List.{concat}
use Rattle.program_edge.specs.declared.sink.SinkErr.{SinkErr}
use Rattle.frame_core.specs.Texts.{Text}
use Rattle.reply_text.specs.Replies.{reply_lines}
use Rattle.program_run.specs.Endings.{Prints}
use Rattle.reply_text.proofs.Commas.{got-at}
use Rattle.program_run.proofs.Prints.{row-more, row-refused, row-end, handed-on}
use Rattle.program_run.proofs.Shown.{reply_texts, part-texts, reply-text-at, length-reply_texts}
use Rattle.program_run.proofs.print.print_replies.Goals as goal

pub returns-in_err-print_reply : goal.returns-in_err-print_reply
returns-in_err-print_reply g c =
    let same : c.from_residual.result ≡ Err c.in_err-print_reply.field-0.0 = handed-on c.from_residual.result c.in_err-print_reply.field-0.0 c.from_residual.ensures.1 in
    let swap : c.loop-place.place + 1 ≡ 1 + c.loop-place.place = omega arith in
    subst (λ (t : Text). Prints g.S.Sink.written g.S.Sink.faults c.args.out.now c.print_reply.new.out t c.from_residual.result) (sym (part-texts c.args.who.now 1 c.args.replies.now))
    (subst (λ (x : Result (Unit {0}) SinkErr). Prints g.S.Sink.written g.S.Sink.faults c.args.out.now c.print_reply.new.out (concat (reply_texts c.args.who.now 1 c.args.replies.now)) x) (sym same)
    (row-refused (g.S.Sink.written c.args.out.now) (g.S.Sink.written c.loop-place.out) (g.S.Sink.written c.print_reply.new.out) (g.S.Sink.faults c.args.out.now) (g.S.Sink.faults c.loop-place.out) (g.S.Sink.faults c.print_reply.new.out)
    (reply_texts c.args.who.now 1 c.args.replies.now) c.loop-place.place (concat (reply_lines c.args.who.now (1 + c.loop-place.place) c.index-replies-place.result)) c.in_err-print_reply.field-0.0
    (reply-text-at c.args.who.now 1 c.args.replies.now c.loop-place.place c.index-replies-place.result (got-at c.args.replies.now c.loop-place.place c.index-replies-place.result c.loop-place-test.true c.index-replies-place.is)) c.loop-place.invariant
    (subst (λ (n : ℕ). Prints g.S.Sink.written g.S.Sink.faults c.loop-place.out c.print_reply.new.out (concat (reply_lines c.args.who.now n c.index-replies-place.result)) (Err c.in_err-print_reply.field-0.0)) swap c.in_err-print_reply.ensures)))

pub loop-place-preserved : goal.loop-place-preserved
loop-place-preserved g c =
    let swap : c.loop-place.place + 1 ≡ 1 + c.loop-place.place = omega arith in
    row-more (g.S.Sink.written c.args.out.now) (g.S.Sink.written c.loop-place.out) (g.S.Sink.written c.print_reply.new.out) (g.S.Sink.faults c.args.out.now) (g.S.Sink.faults c.loop-place.out) (g.S.Sink.faults c.print_reply.new.out)
    (reply_texts c.args.who.now 1 c.args.replies.now) c.loop-place.place (concat (reply_lines c.args.who.now (1 + c.loop-place.place) c.index-replies-place.result))
    (reply-text-at c.args.who.now 1 c.args.replies.now c.loop-place.place c.index-replies-place.result (got-at c.args.replies.now c.loop-place.place c.index-replies-place.result c.loop-place-test.true c.index-replies-place.is)) c.loop-place.invariant
    (subst (λ (n : ℕ). Prints g.S.Sink.written g.S.Sink.faults c.loop-place.out c.print_reply.new.out (concat (reply_lines c.args.who.now n c.index-replies-place.result)) (Ok tt)) swap c.in_ok-print_reply.ensures)

pub returns : goal.returns
returns g c =
    let full : length (reply_texts c.args.who.now 1 c.args.replies.now) ≤ c.loop-place.place = omega (arith, length-reply_texts c.args.who.now 1 c.args.replies.now, c.loop-place-test.false) in
    subst (λ (t : Text). Prints g.S.Sink.written g.S.Sink.faults c.args.out.now c.loop-place.out t (Ok tt)) (sym (part-texts c.args.who.now 1 c.args.replies.now))
    (row-end (g.S.Sink.written c.args.out.now) (g.S.Sink.written c.loop-place.out) (g.S.Sink.faults c.args.out.now) (g.S.Sink.faults c.loop-place.out) (reply_texts c.args.who.now 1 c.args.replies.now) c.loop-place.place full c.loop-place.invariant)
