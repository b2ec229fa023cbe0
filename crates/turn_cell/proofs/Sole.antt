-- A seat is sole again, once the seats that it gave numbers to are joined into it.
use Rattle.std.proofs.Common.{◌≡◌, ℕ, true, List, [], ◌∷◌, inl, inr, ⊎_elim}
use Rattle.turn_cell.specs.declared.badge.Badge.{Badge}
use Rattle.turn_cell.specs.Badges.{Among, Has, IsSole, Awaits, joined_at, badge_after_split, joined_badge}
use Rattle.turn_cell.proofs.Membership.{among_left, among_right, among_either}

-- a sole seat awaits no number
pub awaits_none : (b : Badge) → IsSole b → Awaits b []
awaits_none b sole n a = inl (sole.2 n a)

-- a seat that awaits no number and has the first one is sole
pub sole_again : (b : Badge) → b.in_use ≡ true → Has b b.first → Awaits b [] → IsSole b
sole_again b used has all = (used, has, λ n a. ⊎_elim (λ h. h) (λ none. absurd none) (all n a))

-- a seat that gives a number out awaits it
pub awaits_split : (b : Badge) (n : ℕ) (ns : List ℕ) → Awaits b ns → Awaits (badge_after_split b n) (n ∷ ns)
awaits_split b n ns all m a = ⊎_elim (λ (e : m ≡ n). inr (inl e)) (λ (o : Among m b.gave). ⊎_elim (λ h. inl h) (λ p. inr (inr p)) (all m o)) a

-- after a join the seat has the numbers of both
module _ (b c : Badge) (l : ℕ) where
  pub has_left : (n : ℕ) → Has b n → Has (joined_badge b c l) n
  has_left n h = ⊎_elim (λ o. inl o) (λ (o : (k : ℕ) × Among (joined_at n k) b.joined). inr (o.0, among_left (joined_at n o.0) b.joined (joined_at c.number l ∷ c.joined) o.1)) h

  pub has_right : (n : ℕ) → Has c n → Has (joined_badge b c l) n
  has_right n h = ⊎_elim (λ (o : (c.in_use ≡ true) × (n ≡ c.number)). inr (l, among_right (joined_at n l) b.joined (joined_at c.number l ∷ c.joined) (inl (λ q. joined_at (o.1 q) l))))
      (λ (o : (k : ℕ) × Among (joined_at n k) c.joined). inr (o.0, among_right (joined_at n o.0) b.joined (joined_at c.number l ∷ c.joined) (inr o.1))) h

  -- and awaits the other's number no more
  pub awaits_join : c.in_use ≡ true → (ns : List ℕ) → Awaits b (c.number ∷ ns) → Awaits c [] → Awaits (joined_badge b c l) ns
  awaits_join used ns all none n a = ⊎_elim
      (λ (p : Among n b.gave). ⊎_elim (λ h. inl (has_left n h)) (λ (q : Among n (c.number ∷ ns)). ⊎_elim (λ (e : n ≡ c.number). inl (has_right n (inl (used, e)))) (λ (r : Among n ns). inr r) q) (all n p))
      (λ (p : Among n c.gave). ⊎_elim (λ h. inl (has_right n h)) (λ q. absurd q) (none n p)) (among_either n b.gave c.gave a)
