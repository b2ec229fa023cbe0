use Rattle.std.proofs.Common.{◌∙◌, sym, arith}
use Rattle.frame_write.proofs.LayoutLemmas.{end_seen, end_none}
use Rattle.frame_write.proofs.laying.end_of.Goals as goal

pub overflow_add-result : goal.overflow_add-result
overflow_add-result c = omega (arith, end_seen c.args.run.now c.in-Some.span (sym c.in-Some.is ∙ c.last.ensures), c.requires.1)

pub returns-in-Some : goal.returns-in-Some
returns-in-Some c = end_seen c.args.run.now c.in-Some.span (sym c.in-Some.is ∙ c.last.ensures)

pub returns-in-None : goal.returns-in-None
returns-in-None c = end_none c.args.run.now (sym c.in-None.is ∙ c.last.ensures)
