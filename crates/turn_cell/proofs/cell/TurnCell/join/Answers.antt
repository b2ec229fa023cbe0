use Rattle.std.proofs.Common.{◌≡◌, ◌∷◌, ◌≢◌, ℕ, length, sym, subst, inl, refl, rules, ap, ◌∙◌}
use Rattle.turn_cell.specs.declared.badge.Badge.{Badge}
use Rattle.turn_cell.specs.declared.view.View.{View}
use Rattle.turn_cell.specs.Badges.{Among, Awaits, joined_at}
use Rattle.turn_cell.specs.Views.{joining_view, Confirmed}
use Rattle.turn_cell.proofs.Membership.{among_right}
use Rattle.turn_cell.proofs.LoadSteps.{loads_count}
use Rattle.turn_cell.proofs.SeatSteps.{joins_seats}
use Rattle.turn_cell.proofs.EntriesKept.{Same, joined_same}
use Rattle.turn_cell.proofs.Sole.{awaits_join}
use Rattle.turn_cell.proofs.cell.TurnCell.join.Given.{Over}
use Rattle.turn_cell.proofs.cell.TurnCell.join.Goals as goal

pub load-requires : goal.load-requires
load-requires g c = (search rules, search rules, loads_count _ _ _ _ _ _ _ c.requires.rests.0)

pub load-requires-2 : goal.load-requires-2
load-requires-2 g c = (search rules, search rules, loads_count _ _ _ _ _ _ _ c.requires.other_rests.0)

pub join_seat-requires : goal.join_seat-requires
join_seat-requires g c = let v = c.load.ensures.2.after in let w = c.load-2.ensures.2.after in (
  search rules,
  search rules,
  search rules,
  search rules,
  joins_seats _ _ _ _ _ _ _ _ (ap (λ m. m.0.badge.in_use) v ∙ c.requires.rests.0) (ap (λ m. m.0.turn) v ∙ c.requires.rests.1) (ap (λ m. m.0.badge.in_use) w ∙ c.requires.other_rests.0)
      (ap (λ m. m.0.turn) w ∙ c.requires.other_rests.1),
)

pub load-requires-3 : goal.load-requires-3
load-requires-3 g c = (search rules, search rules, loads_count _ _ _ _ _ _ _ (ap (λ m. m.0.badge.in_use) c.join_seat.ensures.2 ∙ (ap (λ m. m.0.badge.in_use) c.load.ensures.2.after ∙ c.requires.rests.0)))

-- the view after `join_seat`, of the views at the start
glued : (g : Over) (c : goal.After-load-3 g) → c.join_seat.new.seat.me.0 ≡ joining_view c.args.seat.now.me.0 c.args.other.me.0
glued g c = ap (λ m. m.0) c.join_seat.ensures.2 ∙ (λ i. joining_view (c.load.ensures.2.after i).0 (c.load-2.ensures.2.after i).0)

same : (g : Over) (c : goal.After-load-3 g) → Same g.V.Storied.author c.args.seat.now.me.0 c.load-3.new.seat.me.0.seen × Same g.V.Storied.author c.args.other.me.0 c.load-3.new.seat.me.0.seen
same g c = joined_same g.V.Storied.author c.args.seat.now.me.0 c.args.other.me.0 c.join_seat.new.seat.me.0 c.load-3.new.seat.me.0.seen (glued g c) (ap (λ m. m.0.seen) c.load-3.ensures.2.after)
    c.load.ensures.2.owns c.load-2.ensures.2.owns c.load-3.ensures.2.told c.load-3.ensures.2.owns

pub returns-clause-joined : goal.returns-clause-joined
returns-clause-joined g c = (same g c).0

pub returns-clause-other_joined : goal.returns-clause-other_joined
returns-clause-other_joined g c = (same g c).1

pub returns-clause-own : goal.returns-clause-own
returns-clause-own g c = (same g c).0 _ (inl (c.requires.rests.0, refl))

pub returns-clause-other_own : goal.returns-clause-other_own
returns-clause-other_own g c = (same g c).1 _ (inl (c.requires.other_rests.0, refl))

pub returns-clause-apart : goal.returns-clause-apart
returns-clause-apart g c = λ e. let v = c.args.seat.now.me.0 in let w = c.args.other.me.0 in
    let apart = subst (λ (z : View g.row.V-Entry.Denot). (n l : ℕ) → Among (joined_at n l) z.badge.joined → n ≢ z.badge.number) (glued g c) c.load-3.ensures.2.apart in
    apart w.badge.number (length w.seen) (among_right (joined_at w.badge.number (length w.seen)) v.badge.joined (joined_at w.badge.number (length w.seen) ∷ w.badge.joined) (inl refl)) (sym e)

pub returns-clause-awaits : goal.returns-clause-awaits
returns-clause-awaits g c = λ ns all none. let v = c.args.seat.now.me.0 in let w = c.args.other.me.0 in
    subst (λ (b : Badge). Awaits b ns) (sym (ap (λ m. m.0.badge) c.load-3.ensures.2.after ∙ ap (λ (z : View g.row.V-Entry.Denot). z.badge) (glued g c))) (awaits_join v.badge w.badge (length w.seen) c.requires.other_rests.0 ns all none)

pub returns-clause-confirmed : goal.returns-clause-confirmed
returns-clause-confirmed g c = subst (λ m. Confirmed g.V.Storied.row_of m.0) (sym c.load-3.ensures.2.after) c.load-3.ensures.2.confirmed

pub returns-clause-joined_apart : goal.returns-clause-joined_apart
returns-clause-joined_apart g c = subst (λ (z : View g.row.V-Entry.Denot). (n l : ℕ) → Among (joined_at n l) z.badge.joined → n ≢ z.badge.number) (ap (λ m. m.0) (sym c.load-3.ensures.2.after)) c.load-3.ensures.2.apart
