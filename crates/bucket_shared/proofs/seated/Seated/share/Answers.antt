use Rattle.std.proofs.Common.{◌≡◌, ◌+◌, ◌<◌, ◌≤◌, ℕ, [], reverse, refl, sym, ap, ◌∙◌, subst, arith, ⊎_elim}
use mathlib.Core.Logic.{∥∥₁_map}
use Rattle.turn_cell.specs.declared.badge.Badge.{Badge}
use Rattle.turn_cell.specs.declared.view.View.{View}
use Rattle.turn_cell.specs.Badges.{Among, badge_after_split, new_badge}
use Rattle.turn_cell.specs.Entries.{entries_by}
use Rattle.turn_cell.specs.Views.{view_after_split, resting_view}
use Rattle.bucket_core.specs.declared.event.Event.{Event}
use Rattle.bucket_core.specs.History.{author, AllByOthers}
use Rattle.bucket_shared.specs.Authors.{AreEnded, AreHad}
use Rattle.bucket_shared.specs.Notes.{KeepsNotes}
use Rattle.bucket_shared.proofs.Authors.{AreEnded-split, AreEnded-new, AreHad-split, AreHad-new}
use Rattle.bucket_shared.proofs.Growth.{nothing_by}
use Rattle.bucket_shared.proofs.Trying.{stays_given}
use Rattle.bucket_shared.proofs.seated.Seated.share.Given.{Over}
use Rattle.bucket_shared.proofs.seated.Seated.share.Goals as goal

-- the turn was given again, and no number
pub returns-then-store-clause-none : goal.returns-then-store-clause-none
returns-then-store-clause-none g c = stays_given c.args.self.now _ c.take-store.new.seat c.take-store.result c.take-store.ensures c.give.ensures.cell c.give.ensures.view refl

-- the view after the split
after : (g : Over) (c : goal.After-give-2 g) → c.give-2.new.seat.me.0 ≡ resting_view (view_after_split c.take-store.new.seat.me.0)
after g c = c.give-2.ensures.view ∙ ap (λ (v : View Event). resting_view v) c.split-seat.ensures.view

pub invariant_of-self-2-clause-ended : goal.invariant_of-self-2-clause-ended
invariant_of-self-2-clause-ended g c =
    let v = c.take-store.new.seat.me.0 in
    ∥∥₁_map c.take-store.ensures.ended (λ (k : AreEnded v.badge v.seen). subst (λ (x : View Event). AreEnded x.badge x.seen) (sym (after g c)) (AreEnded-split v.badge (v.top + 1) v.seen k))

pub invariant_of-self-2-clause-had : goal.invariant_of-self-2-clause-had
invariant_of-self-2-clause-had g c =
    let v = c.take-store.new.seat.me.0 in
    ∥∥₁_map c.take-store.ensures.had (λ (h : AreHad v.badge v.seen). subst (λ (x : View Event). AreHad x.badge x.seen) (sym (after g c)) (AreHad-split v.badge (v.top + 1) v.seen h))

pub invariant_of-made-clause-ended : goal.invariant_of-made-clause-ended
invariant_of-made-clause-ended g c =
    let v = c.take-store.new.seat.me.0 in
    ∣ subst (λ (x : View Event). AreEnded x.badge x.seen) (sym c.split-seat.ensures.new_view) (AreEnded-new v.badge (v.top + 1) v.seen) ∣₁

pub invariant_of-made-clause-had : goal.invariant_of-made-clause-had
invariant_of-made-clause-had g c =
    let turn = c.take-store.ensures in
    let v = c.take-store.new.seat.me.0 in
    let less : v.badge.first < v.top + 1 = subst (λ (b : Badge). b.first < v.top + 1) (sym turn.badge) (let first : c.args.self.now.seat.me.0.badge.first ≤ v.top = turn.finds.first in omega (arith, first)) in
    ∣ subst (λ (x : View Event). AreHad x.badge x.seen) (sym c.split-seat.ensures.new_view) (AreHad-new v.badge (v.top + 1) v.seen less) ∣₁

pub returns-clause-split : goal.returns-clause-split
returns-clause-split g c =
    let after : c.give-2.new.seat.me.0 ≡ resting_view (view_after_split c.take-store.new.seat.me.0) = c.give-2.ensures.view ∙ ap (λ (v : View Event). resting_view v) c.split-seat.ensures.view in
    let turn = c.take-store.ensures in
    let old = c.args.self.now.seat.me.0 in
    let taken = c.take-store.new.seat.me.0 in
    let made = c.split-seat.result.me.0 in
    let n : ℕ = taken.top + 1 in
    let number : made.badge.number ≡ n = ap (λ (v : View Event). v.badge.number) c.split-seat.ensures.new_view in
    let same : made.seen ≡ taken.seen = ap (λ (v : View Event). v.seen) c.split-seat.ensures.new_view in
    let none : entries_by author n made.seen ≡ [] = ap (entries_by author n) same ∙ c.split-seat.ensures.new_number in
    let kept : KeepsNotes old.notes (view_after_split taken) = turn.noted in
    record {
      same_store = c.give-2.ensures.cell ∙ (c.split-seat.ensures.cell ∙ turn.same_cell);
      same_limit = refl;
      noted = subst (λ (v : View Event). KeepsNotes old.notes v) (sym after) kept;
      store = c.split-seat.ensures.new_cell ∙ turn.same_cell;
      limit = refl;
      greatest = number ∙ sym (ap (λ (v : View Event). v.top) after);
      above = λ m h. let low : m ≤ taken.top = ⊎_elim (λ (e : m ≡ old.badge.number). subst (λ (z : ℕ). z ≤ taken.top) (sym e) turn.finds.number) (λ (a : Among m old.badge.gave). turn.finds.gave m a) h in omega (arith, low, number);
      badge = ap (λ (v : View Event). v.badge) c.split-seat.ensures.new_view ∙ (λ i. new_badge (turn.badge i) (sym number i));
      gave = ap (λ (v : View Event). v.badge) after ∙ (λ i. badge_after_split (turn.badge i) (sym number i));
      seen = ap reverse (same ∙ sym (ap (λ (v : View Event). v.seen) after));
      none_by = subst (λ (z : ℕ). AllByOthers z (reverse made.seen)) (sym number) (nothing_by n made.seen none);
    }
