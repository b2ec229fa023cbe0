use Rattle.std.proofs.Common.{◌≡◌, sym, ap, subst, ◌∙◌}
use mathlib.Core.Logic.{∥∥₁_map}
use Rattle.std.proofs.lemmas.List.{length-reverse}
use Rattle.turn_cell.specs.declared.badge.Badge.{Badge}
use Rattle.turn_cell.specs.declared.view.View.{View}
use Rattle.bucket_shared.specs.Authors.{AreEnded}
use Rattle.bucket_shared.proofs.Authors.{AreEnded-later, AreHad-finds}
use Rattle.bucket_shared.proofs.Growth.{Looks-finds, puts_by-later}
use Rattle.bucket_shared.proofs.NotesKept.{KeepsNotes-finds}
use Rattle.bucket_shared.proofs.turn.take.Goals as goal

pub returns : goal.returns
returns g c =
    let v = c.args.seat.now.me.0 in
    let w = c.take.new.seat.me.0 in
    let finds = c.take.ensures.finds in
    let badge : w.badge ≡ v.badge = ap (λ (x : View _). x.badge) finds.same in
    record {
      same_cell = c.take.ensures.cell;
      holds = c.take.ensures.holds;
      none_begun = ap (λ (x : View _). x.begun) finds.same;
      stands = c.take.ensures.stands;
      counted = c.take.ensures.stands.shows.count ∙ length-reverse w.seen;
      given = c.take.ensures.greatest;
      lawful = ∣ c.take.ensures.stands.lawful ∣₁;
      ended = ∥∥₁_map c.requires.ended (λ (k : AreEnded v.badge v.seen). subst (λ (b : Badge). AreEnded b w.seen) (sym badge) (AreEnded-later v.badge v.seen w.seen finds.later c.take.ensures.joined k));
      had = ∣ AreHad-finds v w finds ∣₁;
      badge = badge;
      looks = Looks-finds v w finds c.take.ensures.own c.take.ensures.stands.lawful;
      served = puts_by-later v.badge.number v.seen w.seen finds.later c.take.ensures.own;
      noted = KeepsNotes-finds v w finds;
      finds = finds;
      joined = c.take.ensures.joined;
    }
