-- What contracts see of a pass beside what it is as a bucket.
--     store_of, badge_of, given_out      its store; the numbers that it has and gave; the greatest number given out, as far as it knows
--     seen_of, number_of, limit_of, sole_of, no_faults      it as a bucket
--     LooksOn, Did       what a look and a change did
use Rattle.std.specs.Prelude.{ℕ, Bool, Result}
use Rattle.atomic_table.specs.Seated.{TableId}
use Rattle.turn_cell.specs.declared.badge.Badge.{Badge}
use Rattle.bucket_core.specs.declared.event.Event.{Event}
use Rattle.bucket_core.specs.declared.answer.StoreErr.{StoreErr}
use Rattle.bucket_core.specs.History.{History}
use Rattle.bucket_core.specs.Laws.{Looks}
use Rattle.bucket_core.specs.Calls.{DidChange}
use Rattle.store_model.specs.Law.{IsClaimed}
use Rattle.bucket_shared.specs.declared.pass.Pass.{Pass}
use Rattle.bucket_shared.specs.Sole.{is_sole}
use Rattle.bucket_shared.specs.Stories.{history}

-- which store the pass is of
abbrev pub store_of : Pass → TableId
store_of p = p.seated.seat.table_id

-- the pass's own number, those of the passes that were joined into it, and those that it gave
abbrev pub badge_of : Pass → Badge
badge_of p = p.seated.seat.me.0.badge

-- the greatest client number that was given out, as far as the pass knows
abbrev pub given_out : Pass → ℕ
given_out p = p.seated.seat.me.0.top

-- the events that the pass has seen, the newest first
abbrev pub seen_of : Pass → History
seen_of p = history p.seated.seat

-- the client's number
abbrev pub number_of : Pass → ℕ
number_of p = (badge_of p).number

-- the length from which on the store takes no more events
abbrev pub limit_of : Pass → ℕ
limit_of p = p.seated.limit

-- whether no other pass of the store is in use
abbrev pub sole_of : Pass → Bool
sole_of p = is_sole (badge_of p)

-- the store never fails
abbrev pub no_faults : Pass → ℕ
no_faults p = 0

-- the pass has seen lawful events of others alone
abbrev pub LooksOn : Pass → Pass → Type 0
LooksOn old new = Looks IsClaimed (number_of old) (sole_of old) (seen_of old) (seen_of new)

-- the event was added, or its call was refused with one of these causes
abbrev pub Did : Pass → Pass → Event → (History → StoreErr → Type 0) → Result ℕ StoreErr → Type 0
Did old new e refuses result = DidChange IsClaimed (number_of old) (sole_of old) (limit_of old) 0 0 (seen_of old) (seen_of new) e refuses result
