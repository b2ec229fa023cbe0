-- Rowed: the part of the rule about the words of the rows.
-- IsBegunAt: a row that is begun, whose entry is still to come.
use Rattle.std.specs.Prelude.{◌≡◌, ℕ, ◌+◌, ◌<◌, true, List, length, ◌⊎◌, Option, Some, slice_index}
use mathlib.Core.Option.{some}
use lib.ListN.{get_elem?}
use Rattle.turn_cell.specs.declared.view.View.{View}
use Rattle.turn_cell.specs.Badges.{Among}
use Rattle.turn_cell.specs.Entries.{IsRowAt}
use Rattle.turn_cell.specs.Views.{note_at}

-- one seat has begun the row q, and n is the place of the next entry
abbrev pub IsBegunAt : {E : Type 0} → List E → List (View E) → ℕ → ℕ → Type 0
IsBegunAt {E} log views q n = (n ≡ length log + 1) × (j : ℕ) × (u : View E) × (get_elem? views j ≡ some u) × (u.begun ≡ Some q)

-- the words of the rows, beside the history and the views of all seats
pub record Rowed {E : Type 0} (row : E → Option ℕ) (log : List E) (begun : List ℕ) (views : List (View E)) : Type 0 where
  pub rows : length begun ≡ 256
  -- the place of each entry of a row is at most the row's word
  pub over : (q k : ℕ) (e : E) → get_elem? log k ≡ some e → row e ≡ Some q → k < slice_index begun q
  -- the word of a row is 0, the place of an entry of the row, or the place of the entry that is to come
  pub last : (q : ℕ) → (slice_index begun q ≡ 0) ⊎ (IsRowAt row log q (slice_index begun q) ⊎ IsBegunAt log views q (slice_index begun q))
  -- only the holder of the turn has begun a row, and the row's word tells the next place
  pub holds : (j q : ℕ) (u : View E) → get_elem? views j ≡ some u → u.begun ≡ Some q → (u.turn ≡ true) × (slice_index begun q ≡ length log + 1)
  -- at the place of a note the row has an entry or gets the next one
  pub noted : (j q n : ℕ) (u : View E) → get_elem? views j ≡ some u → Among (note_at q n) u.notes → IsRowAt row log q n ⊎ IsBegunAt log views q n
