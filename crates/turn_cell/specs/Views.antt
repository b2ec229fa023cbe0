-- What each call makes of a view.
-- first_view, taken_view, stepped_view, resting_view, view_after_split, view_of_new_seat, joined_view, begun_view, noted_view: the new view.
-- longer_of, shorter_of: of two lists. joining_view, untold_view, checked_view, spent_view: views between the steps of one call.
-- Confirmed: each note within what the seat has seen is true of it.
use Rattle.std.specs.Prelude.{ℕ, ◌+◌, ◌≤◌, true, false, List, [], ◌∷◌, ◌++◌, length, Option, Some, None, if◌then◌else◌, nat_lt}
use Rattle.turn_cell.specs.declared.view.View.{View}
use Rattle.turn_cell.specs.declared.view.Note.{Note}
use Rattle.turn_cell.specs.Badges.{Among, badge_after_split, new_badge, joined_badge, spent_badge}
use Rattle.turn_cell.specs.Entries.{IsRowAt}

-- the row q, and the place n
abbrev pub note_at : ℕ → ℕ → Note
note_at q n = record { row = q; place = n }

module _ {E : Type 0} where
  -- the view of the first seat, whose number is n
  abbrev pub first_view : ℕ → View E
  first_view n = record { badge = record { in_use = true; first = n; number = n; joined = []; gave = [] }; seen = []; told = []; until = 0; turn = false; top = n; begun = None; notes = [] }

  -- the seat takes the turn, sees the whole history, knows the greatest number given out and has begun no row
  abbrev pub taken_view : View E → List E → ℕ → View E
  taken_view v log top = record { badge = v.badge; seen = log; told = v.told; until = v.until; turn = true; top = top; begun = None; notes = v.notes }

  -- the seat adds an entry, and has begun no row any more
  abbrev pub stepped_view : View E → E → View E
  stepped_view v e = record { badge = v.badge; seen = v.seen ++ e ∷ []; told = v.told; until = length v.seen + 1; turn = v.turn; top = v.top; begun = None; notes = v.notes }

  -- the seat gives the turn
  abbrev pub resting_view : View E → View E
  resting_view v = record { badge = v.badge; seen = v.seen; told = v.told; until = v.until; turn = false; top = v.top; begun = v.begun; notes = v.notes }

  -- the seat gives out the next number
  abbrev pub view_after_split : View E → View E
  view_after_split v = record { badge = badge_after_split v.badge (v.top + 1); seen = v.seen; told = []; until = v.until; turn = v.turn; top = v.top + 1; begun = v.begun; notes = v.notes }

  -- the new seat has that number, has seen the same and has no entry
  abbrev pub view_of_new_seat : View E → View E
  view_of_new_seat v = record { badge = new_badge v.badge (v.top + 1); seen = v.seen; told = []; until = 0; turn = false; top = v.top + 1; begun = None; notes = [] }

  -- the longer of two lists, and the first where they are equally long
  abbrev pub longer_of : List E → List E → List E
  longer_of xs ys = if nat_lt (length xs) (length ys) then ys else xs

  -- the other one
  abbrev pub shorter_of : List E → List E → List E
  shorter_of xs ys = if nat_lt (length xs) (length ys) then xs else ys

  -- the seat takes in another, has seen the longer list, and keeps the shorter one until the next look at the count
  abbrev pub joining_view : View E → View E → View E
  joining_view v w = record { badge = joined_badge v.badge w.badge (length w.seen); seen = longer_of v.seen w.seen; told = shorter_of v.seen w.seen; until = v.until; turn = v.turn; top = v.top; begun = v.begun; notes = v.notes ++ w.notes }

  -- the same view after a look at the count
  abbrev pub untold_view : View E → View E
  untold_view v = record { badge = v.badge; seen = v.seen; told = []; until = v.until; turn = v.turn; top = v.top; begun = v.begun; notes = v.notes }

  -- the seat has taken in another: it has the numbers and the notes of both, and has seen the longer list
  abbrev pub joined_view : View E → View E → View E
  joined_view v w = untold_view (joining_view v w)

  -- the seat begins the row q
  abbrev pub begun_view : View E → ℕ → View E
  begun_view v q = record { badge = v.badge; seen = v.seen; told = []; until = v.until; turn = v.turn; top = v.top; begun = Some q; notes = v.notes }

  -- the seat notes the row q and the place n
  abbrev pub noted_view : View E → ℕ → ℕ → View E
  noted_view v q n = record { badge = v.badge; seen = v.seen; told = v.told; until = v.until; turn = v.turn; top = v.top; begun = v.begun; notes = note_at q n ∷ v.notes }

  -- the seat finds the place n at the row q, and notes it if it is after the place asked about
  abbrev pub checked_view : View E → ℕ → ℕ → ℕ → View E
  checked_view v q place n = if nat_lt place n then noted_view v q n else v

  -- what is left of the view of a seat that was joined into another
  abbrev pub spent_view : View E
  spent_view = record { badge = spent_badge; seen = []; told = []; until = 0; turn = false; top = 0; begun = None; notes = [] }

  -- where the seat has seen so many entries, the row of each note has an entry at its place
  abbrev pub Confirmed : (E → Option ℕ) → View E → Type 0
  Confirmed row v = (q n : ℕ) → Among (note_at q n) v.notes → n ≤ length v.seen → IsRowAt row v.seen q n
