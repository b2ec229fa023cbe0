use Rattle.std.proofs.Common.{◌≡◌, ◌≢◌, ◌++◌, ℕ, List, length, inl, refl, sym, ap, ◌∙◌, subst, reverse}
use mathlib.Core.List.{IsPrefix}
use mathlib.Core.Logic.{∥∥₁_elim, ∥∥₁_map, ∥∥₁_prop}
use Rattle.std.proofs.lemmas.List.{length-reverse}
use Rattle.turn_cell.specs.declared.badge.Badge.{Badge}
use Rattle.turn_cell.specs.declared.view.Note.{Note}
use Rattle.turn_cell.specs.declared.view.View.{View}
use Rattle.turn_cell.specs.Badges.{Among, Has, Awaits, joined_at, joined_badge}
use Rattle.turn_cell.specs.Entries.{entries_by}
use Rattle.turn_cell.proofs.Prefixes.{prefix_trans}
use Rattle.turn_cell.proofs.Sole.{has_left, has_right}
use Rattle.bucket_core.specs.declared.event.Event.{Event}
use Rattle.bucket_core.specs.History.{author}
use Rattle.bucket_core.specs.Laws.{IsLawful}
use Rattle.store_model.specs.Law.{IsClaimed}
use Rattle.bucket_shared.specs.Authors.{AreEnded}
use Rattle.bucket_shared.specs.Notes.{KeepsNotes}
use Rattle.bucket_shared.proofs.Authors.{AreEnded-join}
use Rattle.bucket_shared.proofs.Growth.{Looks-later, puts_by-later}
use Rattle.bucket_shared.proofs.seated.Seated.merge.Goals as goal

-- neither seat's joined clients have made events since, nor has the other one's
pub take-store-requires-clause-ended : goal.take-store-requires-clause-ended
take-store-requires-clause-ended g c =
    let v = c.args.self.now.seat.me.0 in
    let w = c.args.other.seat.me.0 in
    let joined = c.join.new.seat.me.0 in
    let badge : joined.badge ≡ joined_badge v.badge w.badge (length w.seen) = ap (λ (x : View Event). x.badge) c.join.ensures.view in
    let apart = subst (λ (b : Badge). (n l : ℕ) → Among (joined_at n l) b.joined → n ≢ b.number) badge c.join.ensures.joined_apart in
    ∥∥₁_elim c.args.self.now.ended ∥∥₁_prop (λ (kv : AreEnded v.badge v.seen). ∥∥₁_map c.args.other.ended (λ (kw : AreEnded w.badge w.seen).
    subst (λ (b : Badge). AreEnded b joined.seen) (sym badge)
    (AreEnded-join v w joined.seen c.join.ensures.later c.join.ensures.other_later c.join.ensures.joined c.join.ensures.other_joined c.args.other.rests.0 apart kv kw)))

pub returns : goal.returns
returns g c =
    let v = c.args.self.now.seat.me.0 in
    let w = c.args.other.seat.me.0 in
    let new = c.give.new.seat.me.0 in
    let turn = c.take-store.ensures in
    let view = c.join.ensures.view in
    let seen = sym (ap (λ (x : View Event). x.seen) c.give.ensures.view) in
    -- no event of a client that one of the seats has came in
    let own : entries_by author v.badge.number new.seen ≡ entries_by author v.badge.number v.seen =
    ap (λ (x : View Event). entries_by author v.badge.number x.seen) c.give.ensures.view
    ∙ (turn.joined v.badge.number (subst (λ (x : View Event). Has x.badge v.badge.number) (sym view) (has_left v.badge w.badge (length w.seen) v.badge.number (inl (c.args.self.now.rests.0, refl))))
    ∙ c.join.ensures.own) in
    let other_own : entries_by author w.badge.number new.seen ≡ entries_by author w.badge.number w.seen =
    ap (λ (x : View Event). entries_by author w.badge.number x.seen) c.give.ensures.view
    ∙ (turn.joined w.badge.number (subst (λ (x : View Event). Has x.badge w.badge.number) (sym view) (has_right v.badge w.badge (length w.seen) w.badge.number (inl (c.args.other.rests.0, refl))))
    ∙ c.join.ensures.other_own) in
    let later = subst (λ (log : List Event). IsPrefix c.join.new.seat.me.0.seen log) seen turn.finds.later in
    let lawful = subst (λ (log : List Event). IsLawful IsClaimed (reverse log)) seen turn.stands.lawful in
    let badge : new.badge ≡ joined_badge v.badge w.badge (length w.seen) = ap (λ (x : View Event). x.badge) c.give.ensures.view ∙ (turn.badge ∙ ap (λ (x : View Event). x.badge) view) in
    record {
      store = c.give.ensures.cell ∙ (turn.same_cell ∙ c.join.ensures.cell);
      client = ap (λ (b : Badge). b.number) badge;
      limit = refl;
      badge = badge ∙ ap (joined_badge v.badge w.badge) (sym (length-reverse w.seen));
      apart = c.join.ensures.apart;
      looks = Looks-later v.badge.number v.seen new.seen (prefix_trans _ _ _ c.join.ensures.later later) own lawful;
      other_looks = Looks-later w.badge.number w.seen new.seen (prefix_trans _ _ _ c.join.ensures.other_later later) other_own lawful;
      noted = subst (λ (x : View Event). KeepsNotes (v.notes ++ w.notes) x) (sym c.give.ensures.view) (subst (λ (notes : List Note). KeepsNotes notes c.take-store.new.seat.me.0) (ap (λ (x : View Event). x.notes) view) turn.noted);
      awaits = λ ns all none. subst (λ (b : Badge). Awaits b ns) (sym (ap (λ (x : View Event). x.badge) c.give.ensures.view ∙ turn.badge)) (c.join.ensures.awaits ns all none);
      served = puts_by-later v.badge.number v.seen new.seen (prefix_trans _ _ _ c.join.ensures.later later) own;
    }
