-- What a step tells the seat that makes it: of the step, the seat before, the number found and the seat after.
-- TakesTurn, CountsEntry, GivesTurn, LoadsCount, BeginsRow, LoadsRow: one for each kind of step on a word.
-- Owns: how far the entries of the seat's numbers go. Taken: what a seat has that gets the turn.
use Rattle.std.specs.Prelude.{◌≡◌, ◌≢◌, ℕ, ◌-◌, ◌<◌, ◌≤◌, true, List, [], ◌∷◌, length, Option, Some, All, drop}
use mathlib.Core.List.{IsPrefix}
use mathlib.Core.Option.{some}
use lib.ListN.{get_elem?}
use Rattle.atomic_table.specs.Table.{Me, Step}
use Rattle.turn_cell.specs.declared.view.View.{View}
use Rattle.turn_cell.specs.Badges.{Among, joined_at}
use Rattle.turn_cell.specs.Finds.{Finds}
use Rattle.turn_cell.specs.Views.{stepped_view, resting_view, untold_view, begun_view, checked_view, Confirmed}

-- in this list the entries of each number that the seat has are within the length that it keeps, and it has seen so much
pub record Owns {E : Type 0} (author : E → ℕ) (v : View E) (log : List E) : Type 0 where
  pub until_seen : v.until ≤ length v.seen
  pub own : (k : ℕ) (e : E) → get_elem? log k ≡ some e → author e ≡ v.badge.number → k < v.until
  pub kept : (n l : ℕ) → Among (joined_at n l) v.badge.joined → (l ≤ length v.seen) × ((k : ℕ) (e : E) → get_elem? log k ≡ some e → author e ≡ n → k < l)

module _ {V E : Type 0} where
  -- the turn was free, and the slot is with the seat
  pub record Taken (stands : V → List E → Type 0) (author : E → ℕ) (row : E → Option ℕ) (greatest : V → ℕ) (m m' : Me (Option V) (View E)) : Type 0 where
    pub value : V
    pub held : m'.1 ≡ (0, Some value) ∷ m.1
    pub right : stands value m'.0.seen
    pub most : greatest value ≡ m'.0.top
    pub owns : Owns author m.0 m'.0.seen
    pub finds : Finds author row m.0 m'.0

  -- the seat tries to take the turn
  pub record TakesTurn (stands : V → List E → Type 0) (author : E → ℕ) (row : E → Option ℕ) (greatest : V → ℕ) (st : Step (Option V)) (m : Me (Option V) (View E)) (r : ℕ) (m' : Me (Option V) (View E)) : Type 0 where
    pub free : r ≡ 0 → Taken stands author row greatest m m'
    pub taken : r ≢ 0 → m' ≡ m

  -- the seat counts one entry more
  abbrev pub CountsEntry : E → Step (Option V) → Me (Option V) (View E) → ℕ → Me (Option V) (View E) → Type 0
  CountsEntry e st m r m' = m' ≡ (stepped_view m.0 e, m.1)

  -- the seat gives the turn, and the slot with it
  abbrev pub GivesTurn : Step (Option V) → Me (Option V) (View E) → ℕ → Me (Option V) (View E) → Type 0
  GivesTurn st m r m' = m' ≡ (resting_view m.0, [])

  -- the seat looks at the count
  pub record LoadsCount (author : E → ℕ) (row : E → Option ℕ) (st : Step (Option V)) (m : Me (Option V) (View E)) (r : ℕ) (m' : Me (Option V) (View E)) : Type 0 where
    pub after : m' ≡ (untold_view m.0, m.1)
    -- of two lists of first entries the shorter begins the longer
    pub told : length m.0.told ≤ length m.0.seen → IsPrefix m.0.told m.0.seen
    pub owns : Owns author m.0 m.0.seen
    pub apart : (n l : ℕ) → Among (joined_at n l) m.0.badge.joined → n ≢ m.0.badge.number
    pub confirmed : Confirmed row m.0
    -- the holder of the turn has seen the whole history and knows the greatest number
    pub count : m.0.turn ≡ true → r ≡ length m.0.seen
    pub authors : m.0.turn ≡ true → All (λ e. author e ≤ m.0.top) m.0.seen

  -- the holder of the turn begins a row
  abbrev pub BeginsRow : Step (Option V) → Me (Option V) (View E) → ℕ → Me (Option V) (View E) → Type 0
  BeginsRow st m r m' = m' ≡ (begun_view m.0 (st.word - 2), m.1)

  -- the seat looks at the word of a row, and asks about a place
  pub record LoadsRow (row : E → Option ℕ) (place : ℕ) (st : Step (Option V)) (m : Me (Option V) (View E)) (r : ℕ) (m' : Me (Option V) (View E)) : Type 0 where
    pub after : m' ≡ (checked_view m.0 (st.word - 2) place r, m.1)
    pub none_after : r ≤ place → All (λ e. row e ≢ Some (st.word - 2)) (drop place m.0.seen)
    pub confirmed : Confirmed row m'.0
