use Rattle.script_lang.proofs.Words.{column_name-none, column_name-some, column_name-long}
use Rattle.script_lang.proofs.options.column_of.Goals as goal

pub returns-in_default : goal.returns-in_default
returns-in_default c = column_name-none c.args.word.now c.in_default.ensures

pub returns-then-name-gt255 : goal.returns-then-name-gt255
returns-then-name-gt255 c = column_name-long c.args.word.now c.in-Some.name.now c.in-Some.ensures c.if-name-gt255.true

pub returns-in-Ok : goal.returns-in-Ok
returns-in-Ok c = rw c.in-Ok.ensures.name (column_name-some c.args.word.now c.in-Some.name.now c.in-Some.ensures c.if-name-gt255.false)
