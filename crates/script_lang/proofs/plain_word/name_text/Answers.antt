use Rattle.std.proofs.Common.{sym}
use Rattle.script_lang.proofs.Words.{identifier_at-utf8}
use Rattle.script_lang.proofs.plain_word.name_text.Goals as goal

pub returns-in-Err : goal.returns-in-Err
returns-in-Err c = absurd (c.in-Err.ensures.cases.0 (identifier_at-utf8 c.args.word.now c.in_ok-name.name.now c.in_ok-name.rest.now (sym c.in_ok-name.ensures)))
