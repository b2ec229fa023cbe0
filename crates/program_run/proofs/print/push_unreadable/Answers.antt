use Rattle.std.specs.Prelude.{codes}
use Rattle.std.proofs.lemmas.Result.{on_ok_weaker}
use Rattle.reply_text.proofs.Lines.{onto}
use Rattle.program_run.proofs.print.push_unreadable.Goals as goal

pub returns : goal.returns
returns c = on_ok_weaker c.push_text-2.result (λ added.
    onto c.args.line.now.items (codes "cannot read ") c.args.name.now c.push_text.new.line.items c.push_text-2.new.line.items c.in_ok-push_text.ensures added) c.push_text-2.ensures
