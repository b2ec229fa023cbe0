-- Notes over the steps of a turn.
use Rattle.std.proofs.Common.{◌≡◌, ◌∷◌, [], ◌++◌, ℕ, List, sym, ap, ◌∙◌, subst}
use Rattle.atomic_table.proofs.Lists.{at_longer}
use Rattle.turn_cell.specs.declared.view.Note.{Note}
use Rattle.turn_cell.specs.declared.view.View.{View}
use Rattle.turn_cell.specs.Entries.{IsRowAt}
use Rattle.turn_cell.specs.Finds.{Finds}
use Rattle.turn_cell.proofs.Places.{at_slice_get, slice_get_of}
use Rattle.bucket_core.specs.declared.event.Event.{Event}
use Rattle.bucket_core.specs.History.{author}
use Rattle.bucket_shared.specs.Notes.{KeepsNotes}
use Rattle.bucket_shared.specs.Stories.{event_row}

-- what a seat finds with the turn
pub KeepsNotes-finds : (v w : View Event) → Finds author event_row v w → KeepsNotes v.notes w
KeepsNotes-finds v w finds = (ap (λ (x : View Event). x.notes) finds.same, finds.noted)

-- an event stands where it stood when one is added behind
at_append : (log : List Event) (e : Event) (q n : ℕ) → IsRowAt event_row log q n → IsRowAt event_row (log ++ e ∷ []) q n
at_append log e q n at = (at.0, at.1, at.2, slice_get_of (log ++ e ∷ []) at.0 at.1 (at_longer log (e ∷ []) at.0 at.1 (at_slice_get log at.0 at.1 at.3)), at.4)

-- an event is added
pub KeepsNotes-add : (notes : List Note) (mid new : View Event) (e : Event) → KeepsNotes notes mid → new.seen ≡ mid.seen ++ e ∷ [] → new.notes ≡ mid.notes → KeepsNotes notes new
KeepsNotes-add notes mid new e kept seen same =
    (same ∙ kept.0, λ q n among. subst (λ (log : List Event). IsRowAt event_row log q n) (sym seen) (at_append mid.seen e q n (kept.1 q n among)))
