use Rattle.std.proofs.Common.{◌≡◌, ◌++◌, Result, Ok, Err, sym, subst}
use Rattle.std.specs.List.{concat}
use Rattle.program_edge.specs.declared.sink.SinkErr.{SinkErr}
use Rattle.frame_core.specs.Texts.{Text}
use Rattle.reply_text.specs.Replies.{part_lines, clients_lines}
use Rattle.program_run.specs.Endings.{Prints}
use Rattle.program_run.proofs.Prints.{printed-then, printed-stop, handed-on}
use Rattle.program_run.proofs.Shown.{clients-cons}
use Rattle.program_run.proofs.print.+print_clients.Goals as goal

-- the first client's replies were not printed
pub returns-in_err-print_part : goal.returns-in_err-print_part
returns-in_err-print_part g t c =
    let e = c.in_err-print_part.field-0.0 in
    let same : c.from_residual.result ≡ Err e = handed-on c.from_residual.result e c.from_residual.ensures.1 in
    let first = concat (part_lines c.in-Some.name.now 1 c.in-Some-split_first.replies.now) in
    let others = concat (clients_lines c.in-Some.other_names.now c.in-Some-split_first.other_blocks.now) in
    let printed : Prints g.S.Sink.written g.S.Sink.faults c.args.out.now c.print_part.new.out first (Err e) =
    subst (λ (who : Text). Prints g.S.Sink.written g.S.Sink.faults c.args.out.now c.print_part.new.out (concat (part_lines who 1 c.in-Some-split_first.replies.now)) (Err e)) c.text.ensures c.in_err-print_part.ensures in
    subst (λ (x : Text). Prints g.S.Sink.written g.S.Sink.faults c.args.out.now c.print_part.new.out x c.from_residual.result)
    (sym (clients-cons c.args.names.now c.in-Some.other_names.now c.args.blocks.now c.in-Some-split_first.other_blocks.now c.in-Some.name.now c.in-Some-split_first.replies.now c.in-Some.ensures.cases.0 c.in-Some-split_first.ensures.cases.0))
    (subst (λ (x : Result (Unit {0}) SinkErr). Prints g.S.Sink.written g.S.Sink.faults c.args.out.now c.print_part.new.out (first ++ others) x) (sym same)
    (printed-stop (g.S.Sink.written c.args.out.now) (g.S.Sink.written c.print_part.new.out) (g.S.Sink.faults c.args.out.now) (g.S.Sink.faults c.print_part.new.out) first others e printed))

pub returns : goal.returns
returns g t c =
    let first = concat (part_lines c.in-Some.name.now 1 c.in-Some-split_first.replies.now) in
    let others = concat (clients_lines c.in-Some.other_names.now c.in-Some-split_first.other_blocks.now) in
    let printed : Prints g.S.Sink.written g.S.Sink.faults c.args.out.now c.print_part.new.out first (Ok tt) =
    subst (λ (who : Text). Prints g.S.Sink.written g.S.Sink.faults c.args.out.now c.print_part.new.out (concat (part_lines who 1 c.in-Some-split_first.replies.now)) (Ok tt)) c.text.ensures c.in_ok-print_part.ensures in
    subst (λ (x : Text). Prints g.S.Sink.written g.S.Sink.faults c.args.out.now c.print_clients.new.out x c.print_clients.result)
    (sym (clients-cons c.args.names.now c.in-Some.other_names.now c.args.blocks.now c.in-Some-split_first.other_blocks.now c.in-Some.name.now c.in-Some-split_first.replies.now c.in-Some.ensures.cases.0 c.in-Some-split_first.ensures.cases.0))
    (printed-then (g.S.Sink.written c.args.out.now) (g.S.Sink.written c.print_part.new.out) (g.S.Sink.written c.print_clients.new.out) (g.S.Sink.faults c.args.out.now) (g.S.Sink.faults c.print_part.new.out) (g.S.Sink.faults c.print_clients.new.out)
    first others c.print_clients.result printed c.print_clients.ensures)
