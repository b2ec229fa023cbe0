use Rattle.std.proofs.Common.{◌≡◌, ◌∙◌, sym, rules, subst, to_z, of_z, w64}
use Rattle.frame_write.proofs.LayoutLemmas.{last_seen, last_none}
use Rattle.frame_write.proofs.laying.last_of.Goals as goal

pub returns-in-Some : goal.returns-in-Some
returns-in-Some c = subst (λ z. to_z w64 (of_z w64 c.in-Some.span.last) ≡ z) (last_seen c.args.slots.now c.in-Some.span (sym c.in-Some.is ∙ c.last.ensures)) (search rules)

pub returns-in-None : goal.returns-in-None
returns-in-None c = last_none c.args.slots.now (sym c.in-None.is ∙ c.last.ensures)
