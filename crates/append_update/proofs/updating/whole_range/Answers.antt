use Rattle.std.proofs.Common.{rules, ◌≡◌, ℤ, w64, to_z, of_z, sym, ap, ◌∙◌, subst, Option, Some, None}
use Rattle.std.proofs.lemmas.Bool.{true≢false}
use Rattle.frame_core.specs.Ranges.{Range, InOrder}
use Rattle.frame_core.specs.Frames.{first_stamp}
use Rattle.reply_model.specs.CommitAnswers.{outside}
use Rattle.append_update.proofs.OutsideLemmas.{whole_inside, whole_ordered}
use Rattle.append_update.proofs.updating.whole_range.Goals as goal

pub returns-in_default-make-clause-range : goal.returns-in_default-make-clause-range
returns-in_default-make-clause-range c =
    let rows = c.args.frame.now.rows in
    let first : first_stamp rows ≡ Some c.in-Some.first = sym c.first_stamp.ensures ∙ c.in-Some.is in
    let raw : to_z w64 (of_z w64 c.in-Some.first) ≡ c.in-Some.first = search rules in
    absurd (true≢false (sym (c.in_default-make.ensures.some.1 (subst (λ t. InOrder (Some t) c.last_stamp.result) (sym raw) (subst (InOrder (Some c.in-Some.first)) (sym c.last_stamp.ensures) (whole_ordered c.in-Some.first rows c.requires.storable.is_frame.ascending first))))))

pub returns-clause-inside : goal.returns-clause-inside
returns-clause-inside c =
    let rows = c.args.frame.now.rows in
    let first : first_stamp rows ≡ Some c.in-Some.first = sym c.first_stamp.ensures ∙ c.in-Some.is in
    let raw : to_z w64 (of_z w64 c.in-Some.first) ≡ c.in-Some.first = search rules in
    subst (λ (r : Range). outside 1 r rows ≡ None)
    (sym (c.ordered.ensures.same ∙ (c.in-Some-make.ensures.range ∙ (ap (λ t. record { from = Some t; to = c.last_stamp.result }) raw ∙ ap (λ (o : Option ℤ). record { from = Some c.in-Some.first; to = o }) c.last_stamp.ensures))))
    (whole_inside c.in-Some.first rows c.requires.storable.is_frame.ascending first)
