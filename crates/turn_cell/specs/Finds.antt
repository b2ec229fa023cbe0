-- Finds: what a seat learns where it takes the turn.
use Rattle.std.specs.Prelude.{◌≡◌, ℕ, ◌≤◌, ◌⊎◌, Option, All}
use mathlib.Core.List.{IsPrefix}
use Rattle.turn_cell.specs.declared.view.View.{View}
use Rattle.turn_cell.specs.Badges.{Among, Has, IsSole}
use Rattle.turn_cell.specs.Entries.{IsRowAt}
use Rattle.turn_cell.specs.Views.{taken_view, note_at}

-- what a seat with the view v finds where it takes the turn and has the view w
pub record Finds {E : Type 0} (author : E → ℕ) (row : E → Option ℕ) (v w : View E) : Type 0 where
  -- beside the turn only what it has seen and the greatest number are new
  pub same : w ≡ taken_view v w.seen w.top
  -- the history begins with what the seat had seen
  pub later : IsPrefix v.seen w.seen
  -- no author, and no number that the seat has seen given out, is above the greatest number
  pub authors : All (λ e. author e ≤ w.top) w.seen
  pub number : v.badge.number ≤ w.top
  pub first : v.badge.first ≤ w.top
  pub gave : (n : ℕ) → Among n v.badge.gave → n ≤ w.top
  -- the row of each note has an entry at its place
  pub noted : (q n : ℕ) → Among (note_at q n) v.notes → IsRowAt row w.seen q n
  -- a sole seat had seen all, has the author of each entry, and knows the greatest number
  pub sole_seen : IsSole v.badge → w.seen ≡ v.seen
  pub sole_authors : IsSole v.badge → All (λ e. Has v.badge (author e)) w.seen
  pub sole_top : IsSole v.badge → (w.top ≡ v.badge.first) ⊎ Among w.top v.badge.gave
