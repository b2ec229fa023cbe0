use Rattle.std.proofs.Common.{◌∙◌, false, Some, ap, sym}
use Rattle.reply_text.proofs.Commas.{further-more, got-at}
use Rattle.reply_text.proofs.replies.push_symbols.Goals as goal

pub loop-place-preserved : goal.loop-place-preserved
loop-place-preserved c =
    further-more false c.args.line.now.items c.loop-place.line.items c.push_comma.new.line.items c.push_text.new.line.items
    c.args.symbols.now c.loop-place.place c.text.result.now
    (got-at c.args.symbols.now c.loop-place.place c.index-symbols-place.result c.loop-place-test.true c.index-symbols-place.is ∙ ap (λ t. Some t) (sym (c.text.ensures.bytes ∙ c.name.ensures.same)))
    c.loop-place.invariant c.in_ok-push_comma.ensures c.in_ok-push_text.ensures
