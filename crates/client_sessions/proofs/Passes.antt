-- The makers of the events that a pass has seen.
use Rattle.std.proofs.Common.{◌≡◌, ℕ, suc, ◌<◌, ◌≤◌, true, List, [], ◌∷◌, ◌++◌, length, take, drop, reverse, Some, sym, ap, ◌∙◌, subst, inl, inr, arith}
use Rattle.std.specs.Prelude.{All}
use Rattle.std.specs.List.{AllByRecursion}
use Rattle.std.proofs.lemmas.Bool.{cases_lt}
use Rattle.std.proofs.lemmas.List.{take-append-drop, reverse-append, length-reverse, length-take-le}
use mathlib.Core.Logic.{∥∥₁_elim}
use denote.Struct.Props.{props}
use Rattle.segment_cut.proofs.Lists.{all-append}
use Rattle.turn_cell.specs.Badges.{Among, Has, joined_at}
use Rattle.bucket_core.specs.declared.event.Event.{Event}
use Rattle.bucket_core.specs.History.{History, author, event_at}
use Rattle.bucket_shared.specs.declared.pass.Pass.{Pass}
use Rattle.bucket_shared.specs.Authors.{AreEnded, AreHad, HasEnded}
use Rattle.bucket_shared.specs.Notes.{log_of}
use Rattle.bucket_shared.specs.Passes.{badge_of, seen_of, sole_of}
use Rattle.bucket_shared.specs.Sole.{has_number}
use Rattle.bucket_shared.proofs.Growth.{others_reverse}
use Rattle.bucket_shared.proofs.Passes.{ended_of, had_of}
use Rattle.bucket_shared.proofs.SoleSeats.{Has-number, has_number-true}
use Rattle.client_sessions.proofs.Events.{others_above, all_at}

-- what holds of each event holds of each in the other order
by_recursion : (P : Event → Type 0) (log : List Event) → All P log → AllByRecursion P log
by_recursion P [] all = tt
by_recursion P (x ∷ log) all = (all 0 x (omega arith), by_recursion P log (λ k d lt. all (suc k) d (omega (arith, lt))))

reversed : (P : Event → Type 0) (log : List Event) → AllByRecursion P log → AllByRecursion P (reverse log)
reversed P [] all = tt
reversed P (x ∷ log) all = subst (AllByRecursion P) (sym (reverse-append (x ∷ []) log)) (all-append P (reverse log) (x ∷ []) (reversed P log all.1) (all.0, tt))

module _ (p : Pass) where
  -- a sole pass has the client of each event
  pub had_at : sole_of p ≡ true → (n : ℕ) (e : Event) → event_at (seen_of p) n ≡ Some e → Has (badge_of p) (author e)
  had_at sole n e at = Has-number (badge_of p) (author e) found
    where
      found : has_number (badge_of p) (author e) ≡ true
      found = ∥∥₁_elim (had_of p) (hlevel props) (λ (h : AreHad (badge_of p) (log_of p)).
          has_number-true (badge_of p) (author e) (all_at (λ x. Has (badge_of p) (author x)) (seen_of p) n e (reversed (λ x. Has (badge_of p) (author x)) (log_of p) (by_recursion (λ x. Has (badge_of p) (author x)) (log_of p) (h.each sole))) at))

  -- the place of a joined client lies within what the pass has seen
  pub within_at : (m l : ℕ) → Among (joined_at m l) (badge_of p).joined → l ≤ length (seen_of p)
  within_at m l a = elim (cases_lt (length (seen_of p)) l) [
    | inl beyond ↦ absurd (∥∥₁_elim (ended_of p) (hlevel props) (λ (k : AreEnded (badge_of p) (log_of p)). let le : l ≤ length (log_of p) = (k.ended m l a).within in omega (arith, le, beyond, length-reverse (log_of p))))
    | inr within ↦ within
  ]

  -- and it has no event behind its place
  none_behind : (m l n : ℕ) (e : Event) → HasEnded m l (log_of p) → event_at (seen_of p) n ≡ Some e → author e ≡ m → l < n → ⊥
  none_behind m l n e h at own beyond =
      let log = log_of p in
      let is : seen_of p ≡ reverse (drop l log) ++ reverse (take l log) = ap reverse (sym (take-append-drop l log)) ∙ reverse-append (take l log) (drop l log) in
      let size : length (reverse (take l log)) ≡ l = length-reverse (take l log) ∙ length-take-le l log h.within in
      others_above m (reverse (drop l log)) (reverse (take l log)) n e (others_reverse m (drop l log) h.none_after) (omega (arith, size, beyond)) (ap (λ (h : History). event_at h n) (sym is) ∙ at) own

  pub ended_at : (m l n : ℕ) (e : Event) → Among (joined_at m l) (badge_of p).joined → event_at (seen_of p) n ≡ Some e → author e ≡ m → n ≤ l
  ended_at m l n e a at own = elim (cases_lt l n) [
    | inl beyond ↦ absurd (∥∥₁_elim (ended_of p) (hlevel props) (λ (k : AreEnded (badge_of p) (log_of p)). none_behind m l n e (k.ended m l a) at own beyond))
    | inr within ↦ within
  ]
