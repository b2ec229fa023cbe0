use Rattle.std.proofs.Common.{rules, true, false, ◌≡◌, ◌∷◌, ℕ, [], List, sym, ap, ◌∙◌, subst, length, inl, inr, refl, eqb-true}
use Rattle.std.proofs.lemmas.Bool.{OnTrue_at, OnTrue_from}
use Rattle.turn_cell.specs.declared.badge.Badge.{Badge}
use Rattle.turn_cell.specs.Badges.{Has, Awaits}
use Rattle.turn_cell.proofs.Sole.{awaits_split, has_left}
use Rattle.turn_tally.specs.Jobs.{AllMade, Gave}
use Rattle.turn_tally.proofs.Ends.{AllMade-more}
use Rattle.turn_tally.proofs.threads.+add_all+fn-add_all-join+arg2.Goals.{then-all, else-all}
use Rattle.turn_tally.proofs.threads.+add_all+fn-add_all-join+arg2.Goals as goal

pub returns-clause-first : goal.returns-clause-first
returns-clause-first g t c = λ h. let one = c.join-seat.result.0.0.me.0.badge in let two = c.join-seat.result.1.0.me.0 in
    subst (λ (b : Badge). Has b b.first) (sym c.merge.ensures.badge) (has_left one two.badge (length two.seen) one.first
    (c.join-seat.ensures.first.3 (subst (λ (b : Badge). Has b b.first) (sym c.in-Some-share.ensures.gave) h)))

pub returns-clause-awaits : goal.returns-clause-awaits
returns-clause-awaits g t c = λ ns all. let one = c.join-seat.result.0.0.me.0.badge in let two = c.join-seat.result.1.0.me.0 in let n : ℕ = c.in-Some-share.other.me.0.badge.number in
    let same = c.join-seat.ensures.second.2 in c.merge.ensures.awaits ns
    (subst (λ (m : ℕ). Awaits one (m ∷ ns)) (sym (ap (λ (b : Badge). b.number) same)) (c.join-seat.ensures.first.4 (n ∷ ns) (subst (λ (b : Badge). Awaits b (n ∷ ns)) (sym c.in-Some-share.ensures.gave) (awaits_split c.args.seat.me.0.badge n ns all))))
    (subst (λ (b : Badge). Awaits b []) (sym (same ∙ c.in-Some-share.ensures.other_badge)) (λ m a. absurd a))

pub returns-clause-made : goal.returns-clause-made
returns-clause-made g t c = OnTrue_from _ ((m : ℕ) → Gave c.args.seat.me.0.badge m → AllMade c.args.jobs.now m c.merge.new.seat.me.0.badge c.merge.new.seat.me.0.seen) (λ whole m h.
    let both : (c.join-seat.result.0.1 ≡ true) × (c.join-seat.result.1.1 ≡ length c.items-amounts.result.now) = elim c.if-all.branch [ then-all w ↦ (w.if-all.true, eqb-true c.join-seat.result.1.1 (length c.items-amounts.result.now) (sym w.result-is ∙ whole)) | else-all w ↦ absurd (let yes : c.join-seat.result.0.1 ≡ true = sym w.result-is ∙ whole in let no : c.join-seat.result.0.1 ≡ false = w.if-all.false in cc) ] in
    let one = c.join-seat.result.0.0.me.0 in let n : ℕ = c.in-Some-share.other.me.0.badge.number in let share = c.in-Some-share.ensures in let second = c.join-seat.ensures.second in let first = c.join-seat.ensures.first in
    let rest : AllMade c.in-Some.rest.now n one.badge one.seen = OnTrue_at {P = (k : ℕ) → Gave c.share.new.seat.me.0.badge k → AllMade c.in-Some.rest.now k one.badge one.seen} both.0 first.5 n (subst (λ (b : Badge). Gave b n) (sym share.gave) (inr (inl refl))) in
    let jobs : c.items-amounts.result.now ∷ c.in-Some.rest.now ≡ c.args.jobs.now = search rules in
    subst (λ (js : List (List ℕ)). AllMade js m c.merge.new.seat.me.0.badge c.merge.new.seat.me.0.seen) jobs
    (AllMade-more one c.join-seat.result.1.0.me.0 c.merge.new.seat.me.0 m n c.join-seat.result.1.1 c.in-Some-share.other.me.0.seen c.items-amounts.result.now c.in-Some.rest.now (share.above m h) second.1.0 (ap (λ (b : Badge). b.number) second.2) second.4 share.other_none both.1
    c.merge.ensures.badge c.merge.ensures.joined c.merge.ensures.other_joined rest))
