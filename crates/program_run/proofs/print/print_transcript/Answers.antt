use Rattle.std.proofs.Common.{◌≡◌, ◌++◌, List, Result, Ok, Err, sym, subst}
use Rattle.std.specs.Prelude.{codes}
use Rattle.std.specs.List.{concat}
use Rattle.program_edge.specs.declared.sink.SinkErr.{SinkErr}
use Rattle.frame_core.specs.Texts.{Text}
use Rattle.reply_model.specs.declared.reply.Reply.{Reply}
use Rattle.reply_text.specs.Replies.{part_lines, clients_lines}
use Rattle.program_run.specs.Endings.{Prints}
use Rattle.program_run.proofs.Prints.{printed-then, printed-stop, handed-on}
use Rattle.program_run.proofs.Shown.{end_text, transcript-text}
use Rattle.program_run.proofs.print.print_transcript.Goals as goal

-- the first replies were not printed
pub returns-in_err-print_part : goal.returns-in_err-print_part
returns-in_err-print_part g c =
    let e = c.in_err-print_part.field-0.0 in
    let same : c.from_residual.result ≡ Err e = handed-on c.from_residual.result e c.from_residual.ensures.1 in
    let first = concat (part_lines (codes "first") 1 c.args.replies.now.first) in
    let clients = concat (clients_lines c.args.names.now c.args.replies.now.blocks) in
    subst (λ (t : Text). Prints g.S.Sink.written g.S.Sink.faults c.args.out.now c.print_part.new.out t c.from_residual.result) (sym (transcript-text c.args.names.now c.args.replies.now c.args.end))
    (subst (λ (x : Result (Unit {0}) SinkErr). Prints g.S.Sink.written g.S.Sink.faults c.args.out.now c.print_part.new.out ((first ++ clients) ++ end_text c.args.replies.now.last c.args.end) x) (sym same)
    (printed-stop (g.S.Sink.written c.args.out.now) (g.S.Sink.written c.print_part.new.out) (g.S.Sink.faults c.args.out.now) (g.S.Sink.faults c.print_part.new.out) (first ++ clients) (end_text c.args.replies.now.last c.args.end) e
    (printed-stop (g.S.Sink.written c.args.out.now) (g.S.Sink.written c.print_part.new.out) (g.S.Sink.faults c.args.out.now) (g.S.Sink.faults c.print_part.new.out) first clients e c.in_err-print_part.ensures)))

-- the clients' replies were not printed
pub returns-in_err-print_clients : goal.returns-in_err-print_clients
returns-in_err-print_clients g c =
    let e = c.in_err-print_clients.field-0.0 in
    let same : c.from_residual-in_err-print_clients.result ≡ Err e = handed-on c.from_residual-in_err-print_clients.result e c.from_residual-in_err-print_clients.ensures.1 in
    let first = concat (part_lines (codes "first") 1 c.args.replies.now.first) in
    let clients = concat (clients_lines c.args.names.now c.args.replies.now.blocks) in
    let printed : Prints g.S.Sink.written g.S.Sink.faults c.print_part.new.out c.print_clients.new.out clients (Err e) =
    subst (λ (blocks : List (List Reply)). Prints g.S.Sink.written g.S.Sink.faults c.print_part.new.out c.print_clients.new.out (concat (clients_lines c.args.names.now blocks)) (Err e)) c.items.ensures c.in_err-print_clients.ensures in
    subst (λ (t : Text). Prints g.S.Sink.written g.S.Sink.faults c.args.out.now c.print_clients.new.out t c.from_residual-in_err-print_clients.result) (sym (transcript-text c.args.names.now c.args.replies.now c.args.end))
    (subst (λ (x : Result (Unit {0}) SinkErr). Prints g.S.Sink.written g.S.Sink.faults c.args.out.now c.print_clients.new.out ((first ++ clients) ++ end_text c.args.replies.now.last c.args.end) x) (sym same)
    (printed-stop (g.S.Sink.written c.args.out.now) (g.S.Sink.written c.print_clients.new.out) (g.S.Sink.faults c.args.out.now) (g.S.Sink.faults c.print_clients.new.out) (first ++ clients) (end_text c.args.replies.now.last c.args.end) e
    (printed-then (g.S.Sink.written c.args.out.now) (g.S.Sink.written c.print_part.new.out) (g.S.Sink.written c.print_clients.new.out) (g.S.Sink.faults c.args.out.now) (g.S.Sink.faults c.print_part.new.out) (g.S.Sink.faults c.print_clients.new.out)
    first clients (Err e) c.in_ok-print_part.ensures printed)))

pub returns : goal.returns
returns g c =
    let first = concat (part_lines (codes "first") 1 c.args.replies.now.first) in
    let clients = concat (clients_lines c.args.names.now c.args.replies.now.blocks) in
    let printed : Prints g.S.Sink.written g.S.Sink.faults c.print_part.new.out c.print_clients.new.out clients (Ok tt) =
    subst (λ (blocks : List (List Reply)). Prints g.S.Sink.written g.S.Sink.faults c.print_part.new.out c.print_clients.new.out (concat (clients_lines c.args.names.now blocks)) (Ok tt)) c.items.ensures c.in_ok-print_clients.ensures in
    subst (λ (t : Text). Prints g.S.Sink.written g.S.Sink.faults c.args.out.now c.print_end.new.out t c.print_end.result) (sym (transcript-text c.args.names.now c.args.replies.now c.args.end))
    (printed-then (g.S.Sink.written c.args.out.now) (g.S.Sink.written c.print_clients.new.out) (g.S.Sink.written c.print_end.new.out) (g.S.Sink.faults c.args.out.now) (g.S.Sink.faults c.print_clients.new.out) (g.S.Sink.faults c.print_end.new.out)
    (first ++ clients) (end_text c.args.replies.now.last c.args.end) c.print_end.result
    (printed-then (g.S.Sink.written c.args.out.now) (g.S.Sink.written c.print_part.new.out) (g.S.Sink.written c.print_clients.new.out) (g.S.Sink.faults c.args.out.now) (g.S.Sink.faults c.print_part.new.out) (g.S.Sink.faults c.print_clients.new.out)
    first clients (Ok tt) c.in_ok-print_part.ensures printed)
    c.print_end.ensures)
