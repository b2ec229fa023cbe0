-- Turned: the rule of a cell. Word 0 is the count, word 1 the turn, words 2 to 257 are those of the rows, and the one slot has the value.
-- Fits: the rule of one view. IsHome, IsOut: the turn is free, or one seat holds it. badge_of: the badge of a view.
use Rattle.std.specs.Prelude.{◌≡◌, ℕ, ◌<◌, ◌≤◌, true, false, List, [], ◌∷◌, length, map, ◌⊎◌, Option, Some}
use mathlib.Core.List.{IsPrefix}
use mathlib.Core.Option.{some, none}
use lib.ListN.{get_elem?}
use Rattle.atomic_table.specs.Table.{State}
use Rattle.turn_cell.specs.declared.view.View.{View}
use Rattle.turn_cell.specs.declared.badge.Badge.{Badge}
use Rattle.turn_cell.specs.Badges.{Among, joined_at}
use Rattle.turn_cell.specs.Numbers.{Numbered, Had}
use Rattle.turn_cell.specs.Rows.{Rowed}

-- the numbers of a seat with this view
abbrev pub badge_of : {E : Type 0} → View E → Badge
badge_of v = v.badge

-- what holds of the view of one seat, if the history is log
pub record Fits {E : Type 0} (author : E → ℕ) (log : List E) (v : View E) : Type 0 where
  pub is_seen : IsPrefix v.seen log
  pub is_told : IsPrefix v.told log
  pub until_seen : v.until ≤ length v.seen
  -- each entry of the seat's own number is among the first `until`
  pub own : v.badge.in_use ≡ true → (k : ℕ) (e : E) → get_elem? log k ≡ some e → author e ≡ v.badge.number → k < v.until
  -- each entry of a joined number is among the first that the joined seat had seen
  pub kept : (n l : ℕ) → Among (joined_at n l) v.badge.joined → (l ≤ length v.seen) × ((k : ℕ) (e : E) → get_elem? log k ≡ some e → author e ≡ n → k < l)

-- the turn is free, and the value is at home and stands for the history
pub record IsHome {V E : Type 0} (stands : V → List E → Type 0) (greatest : V → ℕ) (log : List E) (top : ℕ) (begun : List ℕ) (s : State (Option V) (View E)) : Type 0 where
  pub value : V
  pub words_are : s.words ≡ length log ∷ 0 ∷ begun
  pub home : s.homes ≡ some (Some value) ∷ []
  pub right : stands value log
  pub most : greatest value ≡ top
  pub free : (j : ℕ) (u : View E) → get_elem? s.views j ≡ some u → u.turn ≡ false

-- one seat has the turn and the slot, has seen the whole history and knows the greatest number
pub record IsOut {V E : Type 0} (log : List E) (top : ℕ) (begun : List ℕ) (s : State (Option V) (View E)) : Type 0 where
  pub holder : ℕ
  pub view : View E
  pub words_are : s.words ≡ length log ∷ 1 ∷ begun
  pub away : s.homes ≡ none ∷ []
  pub there : get_elem? s.views holder ≡ some view
  pub holds : view.turn ≡ true
  pub only : (j : ℕ) (u : View E) → get_elem? s.views j ≡ some u → u.turn ≡ true → (j ≡ holder) × (u.seen ≡ log) × (u.top ≡ top)

-- there is one history, as long as the count, and all words, the slot and all views agree with it
pub record Turned {V E : Type 0} (stands : V → List E → Type 0) (author : E → ℕ) (row : E → Option ℕ) (greatest : V → ℕ) (s : State (Option V) (View E)) : Type 0 where
  pub log : List E
  pub first : ℕ
  pub top : ℕ
  pub begun : List ℕ
  pub place : IsHome stands greatest log top begun s ⊎ IsOut log top begun s
  pub rowed : Rowed row log begun s.views
  pub numbered : Numbered first top (map badge_of s.views)
  -- the author of each entry is a number that some seat has
  pub authored : (k : ℕ) (e : E) → get_elem? log k ≡ some e → Had (map badge_of s.views) (author e)
  pub each : (j : ℕ) (v : View E) → get_elem? s.views j ≡ some v → Fits author log v
