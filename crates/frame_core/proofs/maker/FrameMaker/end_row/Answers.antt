use Rattle.std.proofs.Common.{◌≡◌, ◌∙◌, ◌++◌, ◌∷◌, [], ℤ, ap, w64}
use Rattle.std.proofs.lemmas.Int.{to_z-of_z}
use Rattle.frame_core.proofs.MakerLemmas.{IsMaking-row, made_row}
use Rattle.frame_core.proofs.maker.FrameMaker.end_row.Goals as goal

pub invariant_of-self-2 : goal.invariant_of-self-2
invariant_of-self-2 c =
    let pushed : c.push.new.self ≡ c.self.inside.stamps ++ c.args.stamp ∷ [] = c.in_ok-push.ensures.ok ∙ ap (λ (z : ℤ). c.self.inside.stamps ++ z ∷ []) (to_z-of_z w64 c.args.stamp c.ranges.stamp) in
    IsMaking-row _ _ _ _ _ _ _ _ c.self.invariant c.self.view_is c.requires.full c.requires.rising c.requires.untimed c.ranges.stamp pushed

pub returns-clause-ok : goal.returns-clause-ok
returns-clause-ok c =
    let pushed : c.push.new.self ≡ c.self.inside.stamps ++ c.args.stamp ∷ [] = c.in_ok-push.ensures.ok ∙ ap (λ (z : ℤ). c.self.inside.stamps ++ z ∷ []) (to_z-of_z w64 c.args.stamp c.ranges.stamp) in
    made_row _ _ _ _ _ _ _ _ c.self.invariant c.self.view_is c.requires.full pushed
