-- The badge of the first seat, after the second was joined into it, and jobs that are kept.
use Rattle.std.proofs.Common.{◌≡◌, ◌<◌, ℕ, true, ◌⊎◌, List, [], ◌∷◌, ◌++◌, refl, inl, inr, ⊎_elim, sym, ap, ◌∙◌, subst, get_or, length, take, arith}
use Rattle.std.proofs.lemmas.List.{take_all}
use Rattle.std.specs.Prelude.{All}
use Rattle.turn_cell.specs.declared.badge.Badge.{Badge}
use Rattle.turn_cell.specs.declared.badge.Joined.{Joined}
use Rattle.turn_cell.specs.Badges.{Among, Has, IsSole, joined_at, joined_badge}
use Rattle.turn_cell.specs.declared.view.View.{View}
use Rattle.turn_cell.proofs.Sole.{has_left, has_right}
use Rattle.turn_tally.specs.declared.mark.Mark.{Mark}
use Rattle.turn_tally.specs.Jobs.{AllMade}
use Rattle.turn_tally.specs.Marks.{marks, marks_by}

-- the badge of the seat 0, which took in the seat 1
abbrev pub last_badge : ℕ → Badge
last_badge l = record { in_use = true; first = 0; number = 0; joined = joined_at 1 l ∷ []; gave = 1 ∷ [] }

pub last_sole : (l : ℕ) → IsSole (last_badge l)
last_sole l = (refl, inl (refl, refl), λ n a. ⊎_elim (λ (e : n ≡ 1). inr (l, inl (λ i. joined_at (e i) l))) (λ none. absurd none) a)

pub last_has : (l n : ℕ) → Has (last_badge l) n → (n ≡ 0) ⊎ (n ≡ 1)
last_has l n h = ⊎_elim (λ (t : (true ≡ true) × (n ≡ 0)). inl t.1)
    (λ (t : (k : ℕ) × Among (joined_at n k) (joined_at 1 l ∷ [])). ⊎_elim (λ (e : joined_at n t.0 ≡ joined_at 1 l). inr (ap (λ (z : Joined). z.number) e)) (λ none. absurd none) t.1) h

-- so these are the authors, where each author is a number that it has
pub last_authors : (l : ℕ) (b : Badge) → b ≡ last_badge l → (log : List Mark) → All (λ e. Has b e.by) log → All (λ e. (e.by ≡ 0) ⊎ (e.by ≡ 1)) log
last_authors l b is log h k d lt = last_has l (get_or log k d).by (subst (λ (x : Badge). Has x (get_or log k d).by) is (h k d lt))

-- jobs stay done where no number is lost and no mark of one comes
pub AllMade-kept : (b c : Badge) (log more : List Mark) → ((n : ℕ) → Has b n → Has c n) → ((n : ℕ) → Has b n → marks_by n more ≡ marks_by n log) → (jobs : List (List ℕ)) (m : ℕ) → AllMade jobs m b log → AllMade jobs m c more
AllMade-kept b c log more has same [] m t = t
AllMade-kept b c log more has same (job ∷ jobs) m t = (t.0, t.1, has t.0 t.2, same t.0 t.2 ∙ t.3, AllMade-kept b c log more has same jobs t.0 t.4)

-- one job more, which the seat of w did, with the number n; it was joined into the seat of v, which saw to the other jobs
pub AllMade-more : (v w u : View Mark) (m n k : ℕ) (old : List Mark) (job : List ℕ) (jobs : List (List ℕ)) → m < n → w.badge.in_use ≡ true → w.badge.number ≡ n → marks_by n w.seen ≡ marks_by n old ++ marks n (take k job) → marks_by n old ≡ [] → k ≡ length job
    → u.badge ≡ joined_badge v.badge w.badge (length w.seen) → ((x : ℕ) → Has v.badge x → marks_by x u.seen ≡ marks_by x v.seen) → ((x : ℕ) → Has w.badge x → marks_by x u.seen ≡ marks_by x w.seen) → AllMade jobs n v.badge v.seen → AllMade (job ∷ jobs) m u.badge u.seen
AllMade-more v w u m n k old job jobs above used is did none count joined left right rest = let mine : Has w.badge n = inl (used, sym is) in let whole : take k job ≡ job = take_all k job (omega (arith, count)) in (
  n,
  above,
  subst (λ (b : Badge). Has b n) (sym joined) (has_right v.badge w.badge (length w.seen) n mine),
  right n mine ∙ (did ∙ (λ i. none i ++ marks n (whole i))),
  AllMade-kept v.badge u.badge v.seen u.seen (λ x h. subst (λ (b : Badge). Has b x) (sym joined) (has_left v.badge w.badge (length w.seen) x h)) left jobs n rest,
)
