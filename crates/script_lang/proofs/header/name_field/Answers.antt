use Rattle.std.proofs.Common.{sym}
use Rattle.script_lang.proofs.Words.{identifier_at-name}
use Rattle.script_lang.proofs.header.name_field.Goals as goal

pub returns-then-end-stop-clause-name : goal.returns-then-end-stop-clause-name
returns-then-end-stop-clause-name c = identifier_at-name c.args.bytes.now c.in_ok-name.name.now c.in_ok-name.after.now (sym c.in_ok-name.ensures) c.if-name-gt255.false
