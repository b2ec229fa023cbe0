use Rattle.std.proofs.Common.{◌≡◌, ◌∷◌, ◌++◌, [], ap, sym, ◌∙◌, subst, reverse, List}
use mathlib.Core.Logic.{∥∥₁_map}
use Rattle.std.proofs.lemmas.List.{reverse-append}
use Rattle.turn_cell.specs.declared.view.View.{View}
use Rattle.turn_cell.specs.declared.badge.Badge.{Badge}
use Rattle.turn_cell.specs.Views.{stepped_view, resting_view}
use Rattle.bucket_core.specs.declared.event.Event.{Event}
use Rattle.bucket_shared.specs.Authors.{AreEnded, AreHad}
use Rattle.bucket_shared.proofs.Authors.{AreEnded-add, AreHad-add}
use Rattle.bucket_shared.proofs.turn.add.Given.{Over}
use Rattle.bucket_shared.proofs.turn.add.Goals as goal

-- the view after the event
after : (g : Over) (c : goal.After-give g) → c.give.new.seat.me.0 ≡ resting_view (stepped_view c.begin.new.seat.me.0 g.K.EventName.event)
after g c = c.give.ensures.view ∙ ap (λ (v : View Event). resting_view v) c.step.ensures.view

pub returns : goal.returns
returns g c =
    let e = g.K.EventName.event in
    let v = c.args.seat.now.me.0 in
    let w = c.give.new.seat.me.0 in
    let may = c.requires.may in
    let begun = c.begin.ensures in
    let badge : w.badge ≡ v.badge = ap (λ (x : View Event). x.badge) (after g c) ∙ begun.badge in
    let seen : w.seen ≡ v.seen ++ e ∷ [] = ap (λ (x : View Event). x.seen) (after g c) ∙ ap (λ (log : List Event). log ++ e ∷ []) begun.seen in
    record {
      same_cell = c.give.ensures.cell ∙ (c.step.ensures.cell ∙ begun.same_cell);
      rests = c.give.ensures.rests;
      badge = badge;
      seen = seen;
      history = ap reverse seen ∙ reverse-append v.seen (e ∷ []);
      notes = ap (λ (x : View Event). x.notes) (after g c) ∙ begun.notes;
      ended = ∥∥₁_map may.ended (λ (k : AreEnded v.badge v.seen). subst (λ (x : Badge × List Event). AreEnded x.0 x.1) (sym (λ i. (badge i, seen i))) (AreEnded-add v.badge v.seen e may.author k));
      had = ∥∥₁_map may.had (λ (k : AreHad v.badge v.seen). subst (λ (x : Badge × List Event). AreHad x.0 x.1) (sym (λ i. (badge i, seen i))) (AreHad-add v.badge v.seen e may.holds.0 may.author k));
    }
