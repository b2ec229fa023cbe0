use Rattle.std.proofs.Common.{◌≡◌, ◌∙◌, sym, rules, subst, to_z, of_z, w64}
use Rattle.frame_write.proofs.LayoutLemmas.{first_seen, first_none}
use Rattle.frame_write.proofs.laying.first_of.Goals as goal

pub returns-in-Some : goal.returns-in-Some
returns-in-Some c = subst (λ z. to_z w64 (of_z w64 c.in-Some.span.first) ≡ z) (first_seen c.args.slots.now c.in-Some.span (sym c.in-Some.is ∙ c.first.ensures)) (search rules)

pub returns-in-None : goal.returns-in-None
returns-in-None c = first_none c.args.slots.now (sym c.in-None.is ∙ c.first.ensures)
