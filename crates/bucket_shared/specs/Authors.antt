-- Who made the events that a seat has seen.
--     HasEnded            a client that makes no event after a place
--     AreEnded            the clients whose seats were joined have made no event since
--     AreHad              each event is of a client that the seat has, where no other seat is in use
use Rattle.std.specs.Prelude.{◌≡◌, ◌≢◌, ◌≤◌, ℕ, true, List, length, drop, All}
use Rattle.turn_cell.specs.declared.badge.Badge.{Badge}
use Rattle.turn_cell.specs.Badges.{Among, Has, joined_at}
use Rattle.bucket_core.specs.declared.event.Event.{Event}
use Rattle.bucket_core.specs.History.{author, AllByOthers}
use Rattle.bucket_shared.specs.Sole.{is_sole}

-- there are so many events, the oldest first, and none after them is of the client
pub record HasEnded (client place : ℕ) (log : List Event) : Type 0 where
  pub within : place ≤ length log
  pub none_after : AllByOthers client (drop place log)

-- each client whose seat was joined is another than the seat's own, and made no event after those that its seat had seen
pub record AreEnded (badge : Badge) (log : List Event) : Type 0 where
  pub ended : (n l : ℕ) → Among (joined_at n l) badge.joined → HasEnded n l log
  pub apart : (n l : ℕ) → Among (joined_at n l) badge.joined → n ≢ badge.number

-- where no other seat is in use, the seat has the client of each event
pub record AreHad (badge : Badge) (log : List Event) : Type 0 where
  pub each : is_sole badge ≡ true → All (λ e. Has badge (author e)) log
