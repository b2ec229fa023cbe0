use Rattle.std.proofs.Common.{◌∙◌, refl, sym}
use Rattle.append_update.proofs.ReplacePlans.{large_some, large_none}
use Rattle.append_update.proofs.fitting.unless_too_large.Goals as goal

pub returns-in-Some-clause-judged : goal.returns-in-Some-clause-judged
returns-in-Some-clause-judged c = λ table range r many.
    let large = large_some _ _ (sym (c.replaced_too_large.ensures table range r many) ∙ c.in-Some.is) in
    record { place_is = refl; what = large.0; large = large.1; why_is = large.2 }

pub returns-in-None-clause-judged : goal.returns-in-None-clause-judged
returns-in-None-clause-judged c = λ table range r many. large_none _ (sym (c.replaced_too_large.ensures table range r many) ∙ c.in-None.is)
