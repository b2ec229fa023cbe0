-- What splits and joins make of seats.
--     IsSplit        a seat that another one split off
--     HasJoined      a seat that took in another
use Rattle.std.specs.Prelude.{◌≡◌, ◌≢◌, ◌<◌, ◌⊎◌, ◌∷◌, ◌++◌, [], ℕ, List, false, length}
use Rattle.turn_cell.specs.Badges.{Among, Awaits, badge_after_split, new_badge, joined_badge}
use Rattle.bucket_core.specs.History.{AllByOthers, puts_by}
use Rattle.bucket_core.specs.Laws.{Looks}
use Rattle.store_model.specs.Law.{IsClaimed}
use Rattle.bucket_shared.specs.declared.seated.Seated.{Seated}
use Rattle.bucket_shared.specs.Notes.{KeepsNotes}
use Rattle.bucket_shared.specs.SeatCalls.{badge_at, number_at, seen_at}

-- the seat `made` was given its number by one that is `new` now and was `old` before
pub record IsSplit (old new made : Seated) : Type 0 where
  pub same_store : new.seat.table_id ≡ old.seat.table_id
  pub same_limit : new.limit ≡ old.limit
  pub noted : KeepsNotes old.seat.me.0.notes new.seat.me.0
  pub store : made.seat.table_id ≡ old.seat.table_id
  pub limit : made.limit ≡ old.limit
  -- the next client number: above all that the old seat knows, and the greatest of all
  pub greatest : number_at made ≡ new.seat.me.0.top
  pub above : (m : ℕ) → (m ≡ number_at old) ⊎ Among m (badge_at old).gave → m < number_at made
  pub badge : badge_at made ≡ new_badge (badge_at old) (number_at made)
  pub gave : badge_at new ≡ badge_after_split (badge_at old) (number_at made)
  -- it has seen the same, in which no event is of its client
  pub seen : seen_at made ≡ seen_at new
  pub none_by : AllByOthers (number_at made) (seen_at made)

-- the seat is `new` since it took in `other`: it has the numbers and the notes of both, and has seen the whole history
pub record HasJoined (old other new : Seated) : Type 0 where
  pub store : new.seat.table_id ≡ old.seat.table_id
  pub client : number_at new ≡ number_at old
  pub limit : new.limit ≡ old.limit
  pub badge : badge_at new ≡ joined_badge (badge_at old) (badge_at other) (length (seen_at other))
  pub apart : number_at old ≢ number_at other
  pub looks : Looks IsClaimed (number_at old) false (seen_at old) (seen_at new)
  -- no event of the other client comes in beyond what its seat had seen
  pub other_looks : Looks IsClaimed (number_at other) false (seen_at other) (seen_at new)
  pub noted : KeepsNotes (old.seat.me.0.notes ++ other.seat.me.0.notes) new.seat.me.0
  pub awaits : (ns : List ℕ) → Awaits (badge_at old) (number_at other ∷ ns) → Awaits (badge_at other) [] → Awaits (badge_at new) ns
  pub served : puts_by (number_at old) (seen_at new) ≡ puts_by (number_at old) (seen_at old)
