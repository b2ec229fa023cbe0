use Rattle.std.proofs.Common.{◌++◌, ◌∙◌, append_assoc, sym, ap}
use Rattle.std.specs.Prelude.{codes}
use Rattle.std.specs.List.{join_with_byte}
use Rattle.std.proofs.lemmas.List.{append-nil}
use Rattle.std.proofs.lemmas.Result.{on_ok_weaker}
use Rattle.frame_core.specs.Texts.{Text}
use Rattle.reply_text.proofs.Left.{left-none, left-some}
use Rattle.reply_text.proofs.replies.push_left.Goals as goal

pub returns-then-is_empty : goal.returns-then-is_empty
returns-then-is_empty c = sym (ap (λ (t : Text). c.args.line.now.items ++ t) (left-none c.args.left.now c.if-is_empty.ensures) ∙ append-nil c.args.line.now.items)

pub returns : goal.returns
returns c = on_ok_weaker c.push_symbols.result (λ added.
    added ∙ (ap (λ (t : Text). t ++ join_with_byte 44 c.args.left.now) c.in_ok-push_text.ensures
    ∙ (append_assoc c.args.line.now.items (codes " left=") (join_with_byte 44 c.args.left.now)
    ∙ ap (λ (t : Text). c.args.line.now.items ++ t) (sym (left-some c.args.left.now c.if-is_empty.ensures))))) c.push_symbols.ensures
