use Rattle.std.proofs.Common.{◌≡◌, ℕ, ◌++◌, List, refl, inl, inr, sym, ap, ◌∙◌, subst, length, take, ◌⊎◌}
use Rattle.std.specs.Prelude.{All}
use Rattle.turn_cell.specs.declared.badge.Badge.{Badge}
use Rattle.turn_cell.specs.declared.view.View.{View}
use Rattle.turn_cell.specs.Badges.{Has, IsSole, joined_badge}
use Rattle.turn_tally.specs.declared.mark.Mark.{Mark}
use Rattle.turn_tally.specs.Marks.{marks_by, marks}
use Rattle.turn_tally.proofs.Ends.{last_badge, last_sole, last_authors}
use Rattle.turn_tally.proofs.threads.two.Given.{Over}
use Rattle.turn_tally.proofs.threads.two.Goals as goal

-- the badge after the join, and after the turn
joined : (g : Over) (c : goal.After-give g) → c.join.new.seat.me.0.badge ≡ last_badge (length c.join-one.result.1.0.me.0.seen)
joined g c = let one = c.join-one.ensures.first.2 ∙ c.in_ok-cell.ensures.first in let two = c.join-one.ensures.second.2 ∙ c.in_ok-cell.ensures.second in
    ap (λ (v : View Mark). v.badge) c.join.ensures.view ∙ (λ i. joined_badge (one i) (two i) (length c.join-one.result.1.0.me.0.seen))

given : (g : Over) (c : goal.After-give g) → c.give.new.seat.me.0.badge ≡ last_badge (length c.join-one.result.1.0.me.0.seen)
given g c = ap (λ (v : View Mark). v.badge) c.give.ensures.view ∙ (ap (λ (v : View Mark). v.badge) c.take-tally.ensures.finds.same ∙ joined g c)

now : (g : Over) (c : goal.After-give g) → c.give.new.seat.me.0.seen ≡ c.take-tally.new.seat.me.0.seen
now g c = ap (λ (v : View Mark). v.seen) c.give.ensures.view

pub returns-clause-sole : goal.returns-clause-sole
returns-clause-sole g c = subst IsSole (sym (given g c)) (last_sole (length c.join-one.result.1.0.me.0.seen))

pub returns-clause-second : goal.returns-clause-second
returns-clause-second g c = let h = c.join-one.ensures.second in let k = c.in_ok-cell.ensures in
    let made_it : marks_by 1 c.join-one.result.1.0.me.0.seen ≡ marks 1 (take c.join-one.result.1.1 c.args.b.now) =
    subst (λ (z : ℕ × List Mark). marks_by z.0 c.join-one.result.1.0.me.0.seen ≡ marks_by z.0 z.1 ++ marks z.0 (take c.join-one.result.1.1 c.args.b.now)) (λ i. ((k.second i).number, k.empty.1 i)) h.3 in
    ap (marks_by 1) (now g c) ∙ (c.take-tally.ensures.joined 1 (subst (λ (b : Badge). Has b 1) (sym (joined g c)) (inr (length c.join-one.result.1.0.me.0.seen, inl refl)))
    ∙ (c.join.ensures.other_joined 1 (subst (λ (b : Badge). Has b 1) (sym (h.2 ∙ k.second)) (inl (refl, refl))) ∙ made_it))

pub returns-clause-no_others : goal.returns-clause-no_others
returns-clause-no_others g c = let l : ℕ = length c.join-one.result.1.0.me.0.seen in
    subst (λ (log : List Mark). All (λ e. (e.by ≡ 0) ⊎ (e.by ≡ 1)) log) (sym (now g c)) (last_authors l c.join.new.seat.me.0.badge (joined g c) c.take-tally.new.seat.me.0.seen (c.take-tally.ensures.finds.sole_authors (subst IsSole (sym (joined g c)) (last_sole l))))
