use Rattle.std.proofs.Common.{◌≡◌, sym, ap, ◌∙◌, subst, length}
use mathlib.Core.List.{IsPrefix}
use Rattle.turn_cell.specs.declared.badge.Badge.{Badge}
use Rattle.turn_cell.specs.declared.view.View.{View}
use Rattle.turn_cell.specs.Badges.{Has, Awaits}
use Rattle.turn_cell.proofs.Prefixes.{prefix_trans}
use Rattle.turn_cell.proofs.Sole.{has_left, has_right}
use Rattle.turn_tally.specs.declared.mark.Mark.{Mark}
use Rattle.turn_tally.specs.Marks.{marks_by}
use Rattle.turn_tally.proofs.seats.merge.Given.{Over}
use Rattle.turn_tally.proofs.seats.merge.Goals as goal

-- the turn that is taken and given leaves the badge and the list
badge : (g : Over) (c : goal.After-give g) → c.give.new.seat.me.0.badge ≡ c.join.new.seat.me.0.badge
badge g c = ap (λ (v : View Mark). v.badge) c.give.ensures.view ∙ ap (λ (v : View Mark). v.badge) c.take-tally.ensures.finds.same

now : (g : Over) (c : goal.After-give g) → c.give.new.seat.me.0.seen ≡ c.take-tally.new.seat.me.0.seen
now g c = ap (λ (v : View Mark). v.seen) c.give.ensures.view

pub returns-clause-later : goal.returns-clause-later
returns-clause-later g c = subst (IsPrefix c.args.seat.now.me.0.seen) (sym (now g c)) (prefix_trans _ _ _ c.join.ensures.later c.take-tally.ensures.finds.later)

pub returns-clause-other_later : goal.returns-clause-other_later
returns-clause-other_later g c = subst (IsPrefix c.args.other.me.0.seen) (sym (now g c)) (prefix_trans _ _ _ c.join.ensures.other_later c.take-tally.ensures.finds.later)

pub returns-clause-joined : goal.returns-clause-joined
returns-clause-joined g c = λ n h. ap (marks_by n) (now g c) ∙ (c.take-tally.ensures.joined n (subst (λ (v : View Mark). Has v.badge n) (sym c.join.ensures.view) (has_left c.args.seat.now.me.0.badge c.args.other.me.0.badge (length c.args.other.me.0.seen) n h)) ∙ c.join.ensures.joined n h)

pub returns-clause-other_joined : goal.returns-clause-other_joined
returns-clause-other_joined g c = λ n h. ap (marks_by n) (now g c) ∙ (c.take-tally.ensures.joined n (subst (λ (v : View Mark). Has v.badge n) (sym c.join.ensures.view) (has_right c.args.seat.now.me.0.badge c.args.other.me.0.badge (length c.args.other.me.0.seen) n h)) ∙ c.join.ensures.other_joined n h)

pub returns-clause-awaits : goal.returns-clause-awaits
returns-clause-awaits g c = λ ns all none. subst (λ (b : Badge). Awaits b ns) (sym (badge g c)) (c.join.ensures.awaits ns all none)
