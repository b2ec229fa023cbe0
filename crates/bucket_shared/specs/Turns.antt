-- What a seat has in its turn.
--     HasTurn      it has taken the turn, and the store is out
--     HasBegun     it has begun the row of an event, if that has one
--     MayAdd       it may add an event, whose change was made in the store
--     HasAdded     it has added the event and given the turn
use Rattle.std.specs.Prelude.{◌≡◌, ◌<◌, ◌^◌, ◌++◌, ◌∷◌, [], ℕ, Option, None, IfSome, length}
use Rattle.atomic_table.specs.declared.shared.Seat.{Seat}
use Rattle.turn_cell.specs.declared.view.View.{View}
use Rattle.turn_cell.specs.Finds.{Finds}
use Rattle.turn_cell.specs.Badges.{Has}
use Rattle.turn_cell.specs.Entries.{entries_by}
use Rattle.turn_cell.specs.Seats.{Rests, Holds}
use Rattle.bucket_core.specs.declared.event.Event.{Event}
use Rattle.bucket_core.specs.History.{author, puts_by}
use Rattle.bucket_core.specs.Laws.{IsLawful, Looks}
use Rattle.bucket_core.specs.Showing.{Shows, events_of}
use Rattle.store_model.specs.Law.{IsClaimed}
use Rattle.bucket_shared.specs.declared.store.Store.{Store}
use Rattle.bucket_shared.specs.Authors.{AreEnded, AreHad}
use Rattle.bucket_shared.specs.Notes.{KeepsNotes}
use Rattle.bucket_shared.specs.Sole.{is_sole}
use Rattle.bucket_shared.specs.Stories.{StandsFor, event_row, history}

-- a seat at a cell of stores
abbrev pub StoreSeat : Type 0
StoreSeat = Seat (Option Store) (View Event)

-- a seat that was `old` has the turn, and the store is out: it has seen the whole history, for which the store stands
pub record HasTurn (old now : StoreSeat) (store : Store) : Type 0 where
  pub same_cell : now.table_id ≡ old.table_id
  pub holds : Holds now
  pub none_begun : now.me.0.begun ≡ None
  pub stands : StandsFor store.contents now.me.0.seen
  pub counted : events_of store.contents ≡ length now.me.0.seen
  pub given : store.given ≡ now.me.0.top
  pub lawful : ∥ IsLawful IsClaimed (history now) ∥₁
  pub ended : ∥ AreEnded now.me.0.badge now.me.0.seen ∥₁
  pub had : ∥ AreHad now.me.0.badge now.me.0.seen ∥₁
  pub badge : now.me.0.badge ≡ old.me.0.badge
  pub looks : Looks IsClaimed old.me.0.badge.number (is_sole old.me.0.badge) (history old) (history now)
  pub served : puts_by old.me.0.badge.number (history now) ≡ puts_by old.me.0.badge.number (history old)
  pub noted : KeepsNotes old.me.0.notes now.me.0
  pub finds : Finds author event_row old.me.0 now.me.0
  pub joined : (n : ℕ) → Has old.me.0.badge n → entries_by author n now.me.0.seen ≡ entries_by author n old.me.0.seen

-- the row is begun, if there is one, and all else is as it was
pub record HasBegun (old now : StoreSeat) (row : Option ℕ) : Type 0 where
  pub same_cell : now.table_id ≡ old.table_id
  pub holds : Holds now
  pub begun : now.me.0.begun ≡ row
  pub badge : now.me.0.badge ≡ old.me.0.badge
  pub seen : now.me.0.seen ≡ old.me.0.seen
  pub notes : now.me.0.notes ≡ old.me.0.notes
  pub top : now.me.0.top ≡ old.me.0.top

-- the event, of this row, is one of the seat's own client that may follow the history, and the store shows the history with it
pub record MayAdd (now : StoreSeat) (store : Store) (row : Option ℕ) (e : Event) : Type 0 where
  pub holds : Holds now
  pub none_begun : now.me.0.begun ≡ None
  pub author : author e ≡ now.me.0.badge.number
  pub row_is : event_row e ≡ row
  pub bound : IfSome row (λ n. n < 256)
  pub room : length now.me.0.seen < 2 ^ 62
  pub shows : Shows store.contents (e ∷ history now)
  pub lawful : IsLawful IsClaimed (e ∷ history now)
  pub given : store.given ≡ now.me.0.top
  pub ended : ∥ AreEnded now.me.0.badge now.me.0.seen ∥₁
  pub had : ∥ AreHad now.me.0.badge now.me.0.seen ∥₁

-- the event is the last that the seat has seen, and it does not have the turn any more
pub record HasAdded (old now : StoreSeat) (e : Event) : Type 0 where
  pub same_cell : now.table_id ≡ old.table_id
  pub rests : Rests now
  pub badge : now.me.0.badge ≡ old.me.0.badge
  pub seen : now.me.0.seen ≡ old.me.0.seen ++ e ∷ []
  pub history : history now ≡ e ∷ history old
  pub notes : now.me.0.notes ≡ old.me.0.notes
  pub ended : ∥ AreEnded now.me.0.badge now.me.0.seen ∥₁
  pub had : ∥ AreHad now.me.0.badge now.me.0.seen ∥₁
