-- Numbered: the part of the rule about the numbers of all seats.
-- Given: a number that some seat gave. Had: a number that some seat has.
use Rattle.std.specs.Prelude.{◌≡◌, ◌≢◌, ℕ, ◌<◌, ◌≤◌, true, List, ◌⊎◌}
use mathlib.Core.Option.{some}
use lib.ListN.{get_elem?}
use Rattle.turn_cell.specs.declared.badge.Badge.{Badge}
use Rattle.turn_cell.specs.Badges.{Among, Has, joined_at}

-- the number was given out by one of these
abbrev pub Given : List Badge → ℕ → Type 0
Given bs n = (i : ℕ) × (b : Badge) × (get_elem? bs i ≡ some b) × Among n b.gave

-- the number is had by one of these
abbrev pub Had : List Badge → ℕ → Type 0
Had bs n = (i : ℕ) × (b : Badge) × (get_elem? bs i ≡ some b) × Has b n

-- the first number, the greatest number given out, and the badges of all seats
pub record Numbered (first top : ℕ) (bs : List Badge) : Type 0 where
  -- all seats in use know the first number
  pub one_first : (i : ℕ) (b : Badge) → get_elem? bs i ≡ some b → b.in_use ≡ true → b.first ≡ first
  -- no number is had by two seats, or twice by one
  pub had_once : (i j n : ℕ) (b c : Badge) → get_elem? bs i ≡ some b → get_elem? bs j ≡ some c → Has b n → Has c n → j ≡ i
  pub apart : (i n l : ℕ) (b : Badge) → get_elem? bs i ≡ some b → Among (joined_at n l) b.joined → n ≢ b.number
  -- the greatest number is the first or a given one
  pub up : first ≤ top
  pub topmost : (top ≡ first) ⊎ Given bs top
  -- each had number but the first was given
  pub given_first : (i n : ℕ) (b : Badge) → get_elem? bs i ≡ some b → Has b n → (n ≡ first) ⊎ Given bs n
  -- a given number is at most the greatest one, and above some number of the seat that gave it
  pub given : (i n : ℕ) (b : Badge) → get_elem? bs i ≡ some b → Among n b.gave → (n ≤ top) × ((m : ℕ) × Has b m × (m < n))
  -- no number is given by two seats, and each given number is had
  pub gave_once : (i j n : ℕ) (b c : Badge) → get_elem? bs i ≡ some b → get_elem? bs j ≡ some c → Among n b.gave → Among n c.gave → j ≡ i
  pub given_had : (i n : ℕ) (b : Badge) → get_elem? bs i ≡ some b → Among n b.gave → Had bs n
