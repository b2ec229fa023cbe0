-- What the calls of a seat at a shared store do.
--     number_at, badge_at, seen_at      the number and the numbers that a seat has, and the events that it has seen, the newest first
--     Stays       what no call changes
--     Sees        what a look shows
use Rattle.std.specs.Prelude.{◌≡◌, ℕ}
use Rattle.turn_cell.specs.declared.badge.Badge.{Badge}
use Rattle.bucket_core.specs.History.{History, puts_by}
use Rattle.bucket_core.specs.Laws.{Looks}
use Rattle.store_model.specs.Law.{IsClaimed}
use Rattle.bucket_shared.specs.declared.seated.Seated.{Seated}
use Rattle.bucket_shared.specs.Notes.{KeepsNotes}
use Rattle.bucket_shared.specs.Sole.{is_sole}
use Rattle.bucket_shared.specs.Stories.{history}

-- the numbers that the seat has and gave
abbrev pub badge_at : Seated → Badge
badge_at s = s.seat.me.0.badge

-- the seat's own number, which is its client's
abbrev pub number_at : Seated → ℕ
number_at s = (badge_at s).number

-- the events that the seat has seen, the newest first
abbrev pub seen_at : Seated → History
seen_at s = history s.seat

-- the seat is still one of its store, with its numbers and its limit; its notes stay, and are true of what it has seen now
pub record Stays (old new : Seated) : Type 0 where
  pub store : new.seat.table_id ≡ old.seat.table_id
  pub badge : badge_at new ≡ badge_at old
  pub limit : new.limit ≡ old.limit
  pub noted : KeepsNotes old.seat.me.0.notes new.seat.me.0

-- the seat has seen lawful events of others, and none of its own
pub record Sees (old new : Seated) : Type 0 where
  pub looks : Looks IsClaimed (number_at old) (is_sole (badge_at old)) (seen_at old) (seen_at new)
  pub served : puts_by (number_at old) (seen_at new) ≡ puts_by (number_at old) (seen_at old)
