use Rattle.std.proofs.Common.{◌≡◌, true, sym, ◌∙◌}
use Rattle.script_lang.specs.Words.{is_plain}
use Rattle.script_lang.proofs.Words.{is_plain-utf8}
use Rattle.script_lang.proofs.plain_word.plain_text.Goals as goal

pub returns-in-Err : goal.returns-in-Err
returns-in-Err c =
    let plain : is_plain c.args.word.now ≡ true = sym c.is_plain.ensures ∙ c.if-not-is_plain.false in
    absurd (c.in-Err.ensures.cases.0 (is_plain-utf8 c.args.word.now plain))
