use Rattle.std.proofs.Common.{◌≡◌, ℕ, [], refl, ap, ◌∙◌, subst, inl, inr, None, Result, Ok, length, rules}
use Rattle.frame_core.specs.declared.refusal.Refused.{Refused}
use Rattle.prune_rule.specs.declared.burying.Tried.{Tried}
use Rattle.prune_rule.specs.declared.burying.Tried.TheVariants as tried
use Rattle.prune_rule.specs.Marked.{IsTriedBy}
use Rattle.prune_rule.proofs.AttemptLemmas.{filled_of}
use Rattle.prune_rule.proofs.burying.attempt_on.Goals as goal

pub returns-in-Err-clause-did : goal.returns-in-Err-clause-did
returns-in-Err-clause-did g c = inl (record { same = refl; why = c.in-Err.why; declined = c.in-Err.ensures.refused; is = refl })

pub returns-then-is_empty-clause-did : goal.returns-then-is_empty-clause-did
returns-then-is_empty-clause-did g c =
    let none : c.in-Ok.numbers ≡ [] = search rules in
    let done : ℕ → Result Tried Refused = λ n. Ok (tried.Done (record { versions = n; place = c.args.state.now.place; commit = None })) in
    inr (inl (record { same = refl; answered = c.in-Ok.ensures.chosen ∙ ap Ok none; is = ap done (c.len-versions.ensures ∙ ap length none) }))

pub mark_chosen-requires : goal.mark_chosen-requires
mark_chosen-requires g c =
    let some : c.in-Ok.numbers ≡ [] → ⊥ = search rules in
    record { may = c.requires.may c.in-Ok.numbers (filled_of c.in-Ok.numbers some) c.in-Ok.ensures.chosen }

pub returns-clause-did : goal.returns-clause-did
returns-clause-did g c =
    let some : c.in-Ok.numbers ≡ [] → ⊥ = search rules in
    inr (inr (record {
      numbers = c.in-Ok.numbers;
      filled = filled_of c.in-Ok.numbers some;
      answered = c.in-Ok.ensures.chosen;
      marked = c.mark_chosen.result;
      did = c.mark_chosen.ensures.did;
      judged = subst (λ n. IsTriedBy n c.mark_chosen.result c.judged.result) c.len-versions.ensures c.judged.ensures;
    }))
