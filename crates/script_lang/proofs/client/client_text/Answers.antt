use Rattle.std.proofs.Common.{◌≡◌, true, sym, ◌∙◌}
use Rattle.script_lang.specs.Clients.{is_client_name}
use Rattle.script_lang.proofs.Words.{is_client_name-utf8}
use Rattle.script_lang.proofs.client.client_text.Goals as goal

pub returns-in-Err : goal.returns-in-Err
returns-in-Err c =
    let name : is_client_name c.args.word.now ≡ true = sym c.is_client_name.ensures ∙ c.if-not-is_client_name.false in
    absurd (c.in-Err.ensures.cases.0 (is_client_name-utf8 c.args.word.now name))
