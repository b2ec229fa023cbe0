-- Changes of a shared store, one event each.
--     IsSpent            the refusal of a store that takes no more events
--     OrNoMemory         these refusals, and want of memory
--     RefusesDrop, dropped_of      the refusals of a drop; its answer
--     IsMade             the contents after a change
--     IsClaimedLater     what a call claims of its event
--     DidTry             what a changing call did
use Rattle.std.specs.Prelude.{◌≡◌, ◌<◌, ◌≤◌, ◌∷◌, ℕ, true, is_some, length, drop, None, Result, Ok, Err, ⊤}
use Rattle.key_kind.specs.declared.key.Key.{Key}
use Rattle.bucket_core.specs.declared.event.Event.{Event}
use Rattle.bucket_core.specs.declared.answer.StoreErr.{StoreErr}
use Rattle.bucket_core.specs.declared.answer.StoreErr.TheVariants as errs
use Rattle.bucket_core.specs.declared.answer.Dropped.{Dropped}
use Rattle.bucket_core.specs.declared.answer.Dropped.TheVariants as drops
use Rattle.bucket_core.specs.declared.contents.Contents.{Contents}
use Rattle.bucket_core.specs.History.{History, stored, puts_by}
use Rattle.bucket_core.specs.Laws.{IsTested, IsLawful, Looks, Adds}
use Rattle.bucket_core.specs.Calls.{IsFull}
use Rattle.bucket_core.specs.Showing.{Shows}
use Rattle.store_model.specs.Law.{IsClaimed}
use Rattle.bucket_shared.specs.declared.seated.Seated.{Seated}
use Rattle.bucket_shared.specs.SeatCalls.{Sees, number_at, badge_at, seen_at}
use Rattle.bucket_shared.specs.Sole.{is_sole}

-- there are as many events as the limit
pub record IsSpent (limit count : ℕ) (why : StoreErr) : Type 0 where
  pub is : why ≡ errs.Spent count
  pub full : limit ≤ count

-- these refusals, and want of memory at any time
abbrev pub OrNoMemory : (History → StoreErr → Type 0) → History → StoreErr → Type 0
OrNoMemory refuses h errs.NoMemory = ⊤
OrNoMemory refuses h why = refuses h why

-- the refusals of a drop: nothing stands under the key, or the store is full
abbrev pub RefusesDrop : ℕ → Key → History → StoreErr → Type 0
RefusesDrop limit key h (errs.Missing at) = (at ≡ length h) × (stored h key ≡ None)
RefusesDrop limit key h (errs.Spent count) = (is_some (stored h key) ≡ true) × IsFull limit h count
RefusesDrop limit key h _ = ⊥

-- that nothing stands under the key is an answer of a drop, and no refusal
abbrev pub dropped_of : Result ℕ StoreErr → Result Dropped StoreErr
dropped_of (Ok place) = Ok (drops.Gone place)
dropped_of (Err (errs.Missing at)) = Ok (drops.Absent at)
dropped_of (Err why) = Err why

-- the history, which had fewer events than the limit, was tested, and the contents show it with the event
pub record IsMade (now : Contents) (limit : ℕ) (e : Event) (tested : History → Type 0) (h : History) : Type 0 where
  pub room : length h < limit
  pub test : tested h
  pub may : IsTested h e
  pub shows : Shows now (e ∷ h)

-- the event is claimed after whatever lawful events of others, where the store's test of it is passed
abbrev pub IsClaimedLater : Seated → Event → Type 0
IsClaimedLater s e = (now : History) → Looks IsClaimed (number_at s) (is_sole (badge_at s)) (seen_at s) now → IsLawful IsClaimed now → IsTested now e → IsClaimed now e

-- the event was added to the whole history, which was tested and had fewer events than the limit
pub record AddsTested (old new : Seated) (e : Event) (tested : History → Type 0) (place : ℕ) : Type 0 where
  pub adds : Adds IsClaimed (number_at old) (is_sole (badge_at old)) (seen_at old) (seen_at new) e
  pub place_is : place ≡ length (seen_at new)
  pub within : place ≤ old.limit
  pub test : tested (drop 1 (seen_at new))
  pub served : puts_by (number_at old) (seen_at new) ≡ puts_by (number_at old) (e ∷ seen_at old)

-- the event was added; or the change was refused with its cause, and the seat has seen what others did
abbrev pub DidTry : Seated → Seated → Event → (History → Type 0) → (History → StoreErr → Type 0) → Result ℕ StoreErr → Type 0
DidTry old new e tested refuses (Ok place) = AddsTested old new e tested place
DidTry old new e tested refuses (Err why) = Sees old new × refuses (seen_at new) why
