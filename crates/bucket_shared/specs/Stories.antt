-- The history of a shared store.
--     event_row      the row of an event, if it has one
--     StandsFor      what the shared value says of the events
--     history        what a seat has seen, as buckets tell it: the newest event first
use Rattle.std.specs.Prelude.{ℕ, List, Option, Some, None, reverse}
use Rattle.atomic_table.specs.declared.shared.Seat.{Seat}
use Rattle.turn_cell.specs.declared.view.View.{View}
use Rattle.bucket_core.specs.declared.event.Event.{Event}
use Rattle.bucket_core.specs.declared.event.Event.TheVariants as events
use Rattle.bucket_core.specs.History.{History}
use Rattle.bucket_core.specs.declared.contents.Contents.{Contents}
use Rattle.bucket_core.specs.Showing.{Shows}
use Rattle.bucket_core.specs.Laws.{IsLawful}
use Rattle.store_model.specs.Law.{IsClaimed}
use Rattle.bucket_shared.specs.Rows.{row}

-- a Refer has the row of its symbol, and other events have none
abbrev pub event_row : Event → Option ℕ
event_row (events.Refer client symbol was entry changes) = Some (row symbol)
event_row _ = None

-- the contents are what these events leave, the oldest first, and each event was lawful after those before it
pub record StandsFor (contents : Contents) (log : List Event) : Type 0 where
  pub shows : Shows contents (reverse log)
  pub lawful : IsLawful IsClaimed (reverse log)

-- the events that a seat has seen, the newest first
abbrev pub history : {V : Type 0} → Seat (Option V) (View Event) → History
history p = reverse p.me.0.seen
