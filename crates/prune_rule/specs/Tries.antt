-- What one try of a burial did, and what all tries did.
--     DidBury, DidNothing, DidRefuse      the commit stands; nothing is to bury; the one-thread library refuses
--     DidMeet             a try that was met: its Put, and the Drop of the same key
--     IsPart, HasToBury, DidStop      a try of which a call failed
--     DidFault            the store failed, and yet the commit stands
--     IsMetBy             whether a refusal is that of a try that was met
--     DidAttempt          what one try did
--     DidRefused, Then, DidMeetAll, DidTries      what all did
use Rattle.std.specs.Prelude.{◌≡◌, ◌⊎◌, ℕ, ◌<◌, ◌≤◌, Bool, false, List, [], ◌∷◌, length, Option, Some, None, Result, Ok, Err}
use Rattle.std.specs.List.{flat_map, AllByRecursion}
use Rattle.base_types.specs.Faults.{Rose}
use Rattle.frame_core.specs.declared.refusal.Refusal.TheVariants as refusals
use Rattle.frame_core.specs.declared.refusal.Refused.{Refused}
use Rattle.key_kind.specs.declared.key.Key.{Key}
use Rattle.key_kind.specs.Names.{Name}
use Rattle.bucket_core.specs.declared.event.Change.TheVariants as changes
use Rattle.bucket_core.specs.declared.event.Event.{Event}
use Rattle.bucket_core.specs.declared.event.Event.TheVariants as events
use Rattle.bucket_core.specs.History.{History, Bytes, history_at, referred_at}
use Rattle.store_model.specs.Library.{state_of}
use Rattle.store_model.specs.Commits.{IsFilled}
use Rattle.store_model.specs.Law.{IsLawful}
use Rattle.version_chain.specs.States.{IsWithin}
use Rattle.version_chain.specs.Traces.{Went, met_in}
use Rattle.version_chain.specs.Stops.{StopsAt, HasCause}
use Rattle.version_chain.specs.Marking.{IsMet}
use Rattle.reply_model.specs.Tries.{IsTry, IsRefused}
use Rattle.reply_model.specs.Moves.{AreMetTries}
use Rattle.reply_model.specs.Kinds.{Burial}
use Rattle.reply_model.specs.CommitAnswers.{bury_answer}
use Rattle.prune_rule.specs.declared.burying.Buried.{Buried}
use Rattle.prune_rule.specs.declared.burying.Tried.{Tried}
use Rattle.prune_rule.specs.declared.burying.Tried.TheVariants as tried

-- the Put of an element, and behind it the Refer that buries what the library answers just before it, at least one version
pub record DidBury (client : ℕ) (sole : Bool) (symbol : Name) (burial : Burial) (old new : History) (done : Buried) : Type 0 where
  pub numbers : List ℕ
  pub filled : IsFilled numbers
  pub was : Option Key
  pub entry : Key
  pub body : Bytes
  pub is_try : IsTry symbol false ((entry, body) ∷ []) entry
  pub before : History
  pub newest : new ≡ events.Refer client symbol was entry (changes.Removed numbers ∷ []) ∷ before
  pub went : Went client sole old before (events.Put client entry body ∷ [])
  pub lawful : IsLawful old → IsLawful new
  pub answered : bury_answer burial (state_of before symbol) ≡ Ok numbers
  pub versions : done.versions ≡ length numbers
  pub place : done.place ≡ length new
  pub commit : done.commit ≡ Some (length new)

-- no event, since nothing is to bury at the place
pub record DidNothing (client : ℕ) (sole : Bool) (symbol : Name) (burial : Burial) (old new : History) (done : Buried) : Type 0 where
  pub went : Went client sole old new []
  pub place : IsWithin old new done.place
  pub answered : bury_answer burial (state_of (history_at new done.place) symbol) ≡ Ok []
  pub versions : done.versions ≡ 0
  pub commit : done.commit ≡ None

-- no event, since the library refuses at the place
pub record DidRefuse (client : ℕ) (sole : Bool) (symbol : Name) (burial : Burial) (old new : History) (refused : Refused) : Type 0 where
  pub went : Went client sole old new []
  pub place : IsWithin old new refused.place
  pub answered : bury_answer burial (state_of (history_at new refused.place) symbol) ≡ Err refused.why

-- the own events of a try that stopped: none; the Put of its element; or its Drop too, where the try was met
pub data IsPart (client : ℕ) (symbol : Name) (met : ℕ) : List Event → Type 0 where
  no_event : IsPart client symbol met []
  one_put : (entry : Key) (body : Bytes) → IsTry symbol false ((entry, body) ∷ []) entry → IsPart client symbol met (events.Put client entry body ∷ [])
  one_drop : (entry : Key) (body : Bytes) → IsTry symbol false ((entry, body) ∷ []) entry → 1 ≤ met → IsPart client symbol met (events.Put client entry body ∷ events.Drop client entry ∷ [])

-- at a place of the call there is something to bury
pub record HasToBury (symbol : Name) (burial : Burial) (old new : History) (upto : ℕ) : Type 0 where
  pub place : ℕ
  pub within : IsWithin old new place
  pub before : place ≤ upto
  pub numbers : List ℕ
  pub filled : IsFilled numbers
  pub answered : bury_answer burial (state_of (history_at new place) symbol) ≡ Ok numbers

-- a refused try: its Put, then a call that showed the Refer of this place, and the Drop of the same key; where it looked there was something to bury
pub record DidMeet (client : ℕ) (sole : Bool) (symbol : Name) (burial : Burial) (old new : History) (now : ℕ) : Type 0 where
  pub entry : Key
  pub body : Bytes
  pub is_try : IsTry symbol false ((entry, body) ∷ []) entry
  pub showed : History
  pub put : Went client sole old showed (events.Put client entry body ∷ [])
  pub shown : referred_at showed symbol ≡ now
  pub dropped : Went client sole showed new (events.Drop client entry ∷ [])
  pub met : IsMet client symbol (length old) new now
  pub busy : HasToBury symbol burial old new now
  pub between : busy.place < now

-- a call of a try failed; the store was full only where there was something to bury
pub record DidStop (client : ℕ) (sole : Bool) (symbol : Name) (burial : Burial) (limit before now : ℕ) (old new : History) (refused : Refused) : Type 0 where
  pub own : List Event
  pub went : Went client sole old new own
  pub part : IsPart client symbol (met_in client symbol went.more) own
  pub stops : StopsAt client old new refused
  pub cause : HasCause limit before now new refused refused.why
  pub busy : (count : ℕ) → refused.why ≡ refusals.Spent count → HasToBury symbol burial old new refused.place

-- the store failed, and yet the commit stands
pub record DidFault (client : ℕ) (sole : Bool) (symbol : Name) (burial : Burial) (before now : ℕ) (old new : History) (refused : Refused) : Type 0 where
  pub done : Buried
  pub commit : DidBury client sole symbol burial old new done
  pub why : refused.why ≡ refusals.StoreFault
  pub stops : StopsAt client old new refused
  pub rose : Rose before now

-- how a command ended that was not met again
abbrev pub DidEnd : ℕ → Bool → Name → Burial → ℕ → ℕ → ℕ → History → History → Result Buried Refused → Type 0
DidEnd client sole symbol burial limit before now old new (Ok done) =
    DidBury client sole symbol burial old new done ⊎ DidNothing client sole symbol burial old new done
DidEnd client sole symbol burial limit before now old new (Err refused) =
    DidRefuse client sole symbol burial old new refused
    ⊎ DidStop client sole symbol burial limit before now old new refused
    ⊎ DidFault client sole symbol burial before now old new refused

-- a try that was met at this place; or the refusal of the command
abbrev pub IsMetBy : Refused → Result Tried Refused → Type 0
IsMetBy refused (Ok (tried.Met now)) = refused.why ≡ refusals.Moved now
IsMetBy refused (Ok (tried.Done done)) = ⊥
IsMetBy refused (Err same) = (same ≡ refused) × ((now : ℕ) → refused.why ≡ refusals.Moved now → ⊥)

-- what one try did
abbrev pub DidAttempt : ℕ → Bool → Name → Burial → ℕ → ℕ → ℕ → History → History → Result Tried Refused → Type 0
DidAttempt client sole symbol burial limit before now old new (Ok (tried.Done done)) = DidEnd client sole symbol burial limit before now old new (Ok done)
DidAttempt client sole symbol burial limit before now old new (Ok (tried.Met place)) = DidMeet client sole symbol burial old new place
DidAttempt client sole symbol burial limit before now old new (Err refused) = DidEnd client sole symbol burial limit before now old new (Err refused)

-- so many refused tries
pub record DidRefused (client : ℕ) (sole : Bool) (symbol : Name) (old new : History) (count : ℕ) : Type 0 where
  pub tries : List (List Event)
  pub refused : AllByRecursion (IsRefused client symbol false) tries
  pub counted : length tries ≡ count
  pub went : Went client sole old new (flat_map (λ t. t) tries)
  pub met : count ≤ met_in client symbol went.more

-- fewer refused tries than may be made, and then one that came to an end
pub record Then (client : ℕ) (sole : Bool) (symbol : Name) (most : ℕ) (old new : History) (Last : History → Type 0) : Type 0 where
  pub count : ℕ
  pub few : count < most
  pub mid : History
  pub refused : DidRefused client sole symbol old mid count
  pub last : Last mid

-- in this history there is something to bury
abbrev pub Buries : Name → Burial → History → Type 0
Buries symbol burial h = (numbers : List ℕ) × IsFilled numbers × (bury_answer burial (state_of h symbol) ≡ Ok numbers)

-- a burial reads nothing that may be lost
abbrev pub Whole : History → ℕ → ℕ → Type 0
Whole h look showed = ⊥

-- so many tries were met, each where there was something to bury, the last by the Refer of this place
abbrev pub MetTries : ℕ → Name → Burial → ℕ → History → History → ℕ → Type 0
MetTries client symbol burial count old new now =
    AreMetTries new client symbol false (λ q. Buries symbol burial (history_at new q)) (Whole new) count (length old) (length new) now

-- each try was met; the last by the Refer of this place
pub record DidMeetAll (client : ℕ) (sole : Bool) (symbol : Name) (burial : Burial) (most : ℕ) (old new : History) (refused : Refused) : Type 0 where
  pub all : DidRefused client sole symbol old new most
  pub each : MetTries client symbol burial most old new refused.place
  pub met : IsMet client symbol (length old) new refused.place
  pub why : refused.why ≡ refusals.Moved refused.place

-- what all tries did
abbrev pub DidTries : ℕ → Bool → Name → Burial → ℕ → ℕ → ℕ → ℕ → History → History → Result Buried Refused → Type 0
DidTries client sole symbol burial most limit before now old new (Ok done) =
    Then client sole symbol most old new (λ mid. DidEnd client sole symbol burial limit before now mid new (Ok done))
DidTries client sole symbol burial most limit before now old new (Err refused) =
    DidMeetAll client sole symbol burial most old new refused
    ⊎ Then client sole symbol most old new (λ mid. DidEnd client sole symbol burial limit before now mid new (Err refused))
