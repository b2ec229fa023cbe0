use Rattle.std.proofs.Common.{◌≡◌, ◌+◌, ℕ, ◌≤◌, arith, ap, ◌∙◌, sym, subst, ⊎_elim}
use Rattle.turn_cell.specs.declared.view.View.{View}
use Rattle.turn_cell.specs.Badges.{Among}
use Rattle.turn_tally.specs.declared.mark.Mark.{Mark}
use Rattle.turn_tally.specs.Marks.{marks_by}
use Rattle.turn_tally.proofs.seats.share.Goals as goal

pub returns-then-tally-clause-joined : goal.returns-then-tally-clause-joined
returns-then-tally-clause-joined g c = λ n h. ap (λ (v : View Mark). marks_by n v.seen) c.give.ensures.view ∙ c.take-tally.ensures.joined n h

pub returns-clause-joined : goal.returns-clause-joined
returns-clause-joined g c = λ n h. ap (λ (v : View Mark). marks_by n v.seen) (c.give-2.ensures.view) ∙ (ap (λ (v : View Mark). marks_by n v.seen) c.split-other.ensures.view ∙ c.take-tally.ensures.joined n h)

pub returns-clause-above : goal.returns-clause-above
returns-clause-above g c = λ m h. let finds = c.take-tally.ensures.finds in let top : ℕ = c.take-tally.new.seat.me.0.top in
    let is : c.split-other.result.me.0.badge.number ≡ top + 1 = ap (λ (v : View Mark). v.badge.number) c.split-other.ensures.new_view in
    let low : m ≤ top = ⊎_elim (λ (e : m ≡ c.args.seat.now.me.0.badge.number). subst (λ (z : ℕ). z ≤ top) (sym e) finds.number) (λ (a : Among m c.args.seat.now.me.0.badge.gave). finds.gave m a) h in omega arith
