-- The numbers of one seat.
-- Among: one of a list. Has: a number that the seat has. Awaits: the given numbers that it has not. IsSole: no other seat is in use.
-- joined_at, badge_after_split, new_badge, joined_badge, spent_badge: what a split and a join make of badges.
use Rattle.std.specs.Prelude.{◌≡◌, ℕ, true, false, List, [], ◌∷◌, ◌++◌, ◌⊎◌}
use Rattle.turn_cell.specs.declared.badge.Badge.{Badge}
use Rattle.turn_cell.specs.declared.badge.Joined.{Joined}

-- x is one of these
abbrev pub Among : {X : Type 0} → X → List X → Type 0
Among x [] = ⊥
Among x (y ∷ ys) = (x ≡ y) ⊎ Among x ys

-- the number of a seat that was joined, which had seen so many entries
abbrev pub joined_at : ℕ → ℕ → Joined
joined_at n l = record { number = n; length = l }

-- the number is the seat's own, or that of a seat that was joined into it
abbrev pub Has : Badge → ℕ → Type 0
Has b n = ((b.in_use ≡ true) × (n ≡ b.number)) ⊎ ((l : ℕ) × Among (joined_at n l) b.joined)

-- the seat has each number that it gave, but for these
abbrev pub Awaits : Badge → List ℕ → Type 0
Awaits b ns = (n : ℕ) → Among n b.gave → Has b n ⊎ Among n ns

-- the seat has the first number and all that it gave, so that no other seat of its cell is in use
abbrev pub IsSole : Badge → Type 0
IsSole b = (b.in_use ≡ true) × Has b b.first × ((n : ℕ) → Among n b.gave → Has b n)

-- the badge of a seat that gives the number n out
abbrev pub badge_after_split : Badge → ℕ → Badge
badge_after_split b n = record { in_use = b.in_use; first = b.first; number = b.number; joined = b.joined; gave = n ∷ b.gave }

-- the badge of the new seat, whose number is n
abbrev pub new_badge : Badge → ℕ → Badge
new_badge b n = record { in_use = true; first = b.first; number = n; joined = []; gave = [] }

-- the badge of a seat that takes in the seat of c, which had seen l entries
abbrev pub joined_badge : Badge → Badge → ℕ → Badge
joined_badge b c l = record { in_use = b.in_use; first = b.first; number = b.number; joined = b.joined ++ joined_at c.number l ∷ c.joined; gave = b.gave ++ c.gave }

-- the badge of a seat that was joined into another
abbrev pub spent_badge : Badge
spent_badge = record { in_use = false; first = 0; number = 0; joined = []; gave = [] }
