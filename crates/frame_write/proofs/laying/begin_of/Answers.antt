use Rattle.std.proofs.Common.{◌∙◌, sym}
use Rattle.frame_write.proofs.LayoutLemmas.{begin_seen, begin_none}
use Rattle.frame_write.proofs.laying.begin_of.Goals as goal

pub returns-in-Some : goal.returns-in-Some
returns-in-Some c = begin_seen c.args.run.now c.in-Some.span (sym c.in-Some.is ∙ c.first.ensures)

pub returns-in-None : goal.returns-in-None
returns-in-None c = begin_none c.args.run.now (sym c.in-None.is ∙ c.first.ensures)
