-- What a pass learns of rows without waiting.
--     view_of, notes_of, log_of      what a pass knows; the rows that it found changed; the events that it has seen, the oldest first
--     NoneAfter             no event of a row above a place
--     HasNoted              a pass found a row changed after a place
--     AreTrue               each note is of an event that is there
--     KeepsNotes            what each later call says of the notes
use Rattle.std.specs.Prelude.{◌≡◌, ◌≢◌, ◌<◌, ◌∷◌, ℕ, List, Some, drop, All}
use Rattle.turn_cell.specs.declared.view.Note.{Note}
use Rattle.turn_cell.specs.declared.view.View.{View}
use Rattle.turn_cell.specs.Badges.{Among}
use Rattle.turn_cell.specs.Entries.{IsRowAt}
use Rattle.turn_cell.specs.Views.{note_at}
use Rattle.bucket_core.specs.declared.event.Event.{Event}
use Rattle.bucket_shared.specs.declared.pass.Pass.{Pass}
use Rattle.bucket_shared.specs.Stories.{event_row}

-- what the pass knows
abbrev pub view_of : Pass → View Event
view_of p = p.seated.seat.me.0

-- the rows that the pass found changed, each with the place of an event, the newest note first
abbrev pub notes_of : Pass → List Note
notes_of p = p.seated.seat.me.0.notes

-- the events that the pass has seen, the oldest first
abbrev pub log_of : Pass → List Event
log_of p = p.seated.seat.me.0.seen

-- among these events, the oldest first, none above the place is of the row, of whichever of its symbols
abbrev pub NoneAfter : ℕ → ℕ → List Event → Type 0
NoneAfter row place log = All (λ e. event_row e ≢ Some row) (drop place log)

-- the pass found the row changed after the place, and noted where: at a place that the row's word told
pub record HasNoted (row place : ℕ) (old new : Pass) : Type 0 where
  pub changed_at : ℕ
  pub after : place < changed_at
  pub noted : notes_of new ≡ note_at row changed_at ∷ notes_of old

-- at the place of each note stands an event of the note's row
abbrev pub AreTrue : List Note → List Event → Type 0
AreTrue notes log = (row place : ℕ) → Among (note_at row place) notes → IsRowAt event_row log row place

-- these are the notes, and at the place of each an event of its row has been seen
abbrev pub KeepsNotes : List Note → View Event → Type 0
KeepsNotes notes now = (now.notes ≡ notes) × AreTrue notes now.seen
