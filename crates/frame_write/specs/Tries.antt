-- What one try to commit a new version did, and what all tries did.
--     Made                what a commit made
--     PutsIndex           the puts of a try end with this index and an element
--     DidCommit           the tries' last event is the Refer of the new version
--     IsMet               another's Refer of the symbol stands behind a place
--     DidMeet             a try that was refused: its puts, and the drops of the same keys
--     MetTries            so many tries were met, the last by the Refer of this place
--     IsPart, DidStop     a try of which a call failed
--     DidTry              what one try did
--     DidRefuse           a try that made no event, since the one-thread library refuses the command
--     IsBusy, DidEnd      how the last try ended, if it was not met
--     DidTries            what all did
use Rattle.std.specs.Prelude.{◌≡◌, ◌≢◌, ◌⊎◌, ℕ, ◌<◌, ◌≤◌, Bool, true, List, [], ◌∷◌, ◌++◌, map, length, take, Option, Some, Result, Ok, Err, ⊤}
use Rattle.std.specs.List.{flat_map, AllByRecursion}
use Rattle.base_types.specs.Faults.{Rose}
use Rattle.frame_core.specs.declared.refusal.Refusal.{Refusal}
use Rattle.frame_core.specs.declared.refusal.Refusal.TheVariants as refusals
use Rattle.frame_core.specs.declared.refusal.Refused.{Refused}
use Rattle.index_tree.specs.declared.index.Index.{Index}
use Rattle.index_tree.specs.IndexText.{index_of}
use Rattle.key_kind.specs.declared.key.Key.{Key}
use Rattle.key_kind.specs.Names.{Name}
use Rattle.bucket_core.specs.declared.event.Change.{Change}
use Rattle.bucket_core.specs.declared.event.Event.{Event}
use Rattle.bucket_core.specs.declared.event.Event.TheVariants as events
use Rattle.bucket_core.specs.History.{History, Bytes, author, event_at, history_at, referred_at}
use Rattle.bucket_core.specs.Laws.{refers}
use Rattle.store_model.specs.Library.{state_of, next_number}
use Rattle.store_model.specs.Law.{IsLawful}
use Rattle.version_chain.specs.States.{IsWithin}
use Rattle.reply_model.specs.Tries.{put_of, drop_of, IsTry, IsRefused}
use Rattle.reply_model.specs.Moves.{AreMetTries}
use Rattle.frame_write.specs.declared.options.Committed.{Committed}
use Rattle.version_chain.specs.Traces.{Went, met_in}
use Rattle.version_chain.specs.Stops.{StopsAt, HasCause}

-- what a commit made: the history just before its Refer, the changes of the Refer, what was put, and the index among it
pub record Made : Type 0 where
  pub before : History
  pub list : List Change
  pub puts : List (Key × Bytes)
  pub index : Index

-- the puts are some tiles, then this index, and an element
pub record PutsIndex (puts : List (Key × Bytes)) (index : Index) : Type 0 where
  pub tiles : List (Key × Bytes)
  pub key : Key
  pub body : Bytes
  pub element : Key × Bytes
  pub is : puts ≡ tiles ++ (key, body) ∷ element ∷ []
  pub spelled : index_of body ≡ Ok index

-- the puts of a try stand, and behind them the Refer of the new version; what was made is what was asked
pub record DidCommit (client : ℕ) (sole : Bool) (symbol : Name) (Asked : Made → Type 0) (old new : History) (done : Committed) : Type 0 where
  pub made : Made
  pub was : Option Key
  pub entry : Key
  pub is_try : IsTry symbol true made.puts entry
  pub index : PutsIndex made.puts made.index
  pub asked : Asked made
  pub newest : new ≡ events.Refer client symbol was entry made.list ∷ made.before
  pub went : Went client sole old made.before (map (put_of client) made.puts)
  pub lawful : IsLawful old → IsLawful new
  pub version : done.version ≡ next_number (state_of made.before symbol)
  pub place : done.place ≡ length new

-- event n is another's Refer of the symbol, and stands behind the place
pub record IsMet (client : ℕ) (symbol : Name) (from : ℕ) (h : History) (n : ℕ) : Type 0 where
  pub added : from < n
  pub within : n ≤ length h
  pub event : Event
  pub at : event_at h n ≡ Some event
  pub refers : refers symbol event ≡ true
  pub others : author event ≢ client

-- a refused try: its puts, then a call that showed another's Refer behind the place at which the try began, and the drops of the same keys
pub record DidMeet (client : ℕ) (sole : Bool) (symbol : Name) (from : ℕ) (old new : History) (refused : Refused) : Type 0 where
  pub puts : List (Key × Bytes)
  pub entry : Key
  pub is_try : IsTry symbol true puts entry
  pub showed : History
  pub put : Went client sole old showed (map (put_of client) puts)
  pub shown : referred_at showed symbol ≡ refused.place
  pub dropped : Went client sole showed new (map (drop_of client) puts)
  pub met : IsMet client symbol from new refused.place
  pub why : refused.why ≡ refusals.Moved refused.place

-- the own events of a try that stopped: none; some of its puts; or all, and some of its drops, since another's Refer was met
pub data IsPart (client : ℕ) (symbol : Name) (from : ℕ) (new : History) : List Event → Type 0 where
  no_event : IsPart client symbol from new []
  some_puts : (n : ℕ) (puts : List (Key × Bytes)) (entry : Key) → IsTry symbol true puts entry → IsPart client symbol from new (map (put_of client) (take n puts))
  some_drops : (n : ℕ) (puts : List (Key × Bytes)) (entry : Key) → IsTry symbol true puts entry → (at : ℕ) → IsMet client symbol from new at
      → IsPart client symbol from new (map (put_of client) puts ++ map (drop_of client) (take n puts))

-- a call of a try failed
pub record DidStop (client : ℕ) (sole : Bool) (symbol : Name) (limit before now from : ℕ) (old new : History) (refused : Refused) : Type 0 where
  pub own : List Event
  pub went : Went client sole old new own
  pub part : IsPart client symbol from new own
  pub stops : StopsAt client old new refused
  pub cause : HasCause limit before now new refused refused.why

-- the store failed, and yet the commit stands
pub record DidCommitFaulted (client : ℕ) (sole : Bool) (symbol : Name) (Asked : Made → Type 0) (before now : ℕ) (old new : History) (refused : Refused) : Type 0 where
  pub done : Committed
  pub commit : DidCommit client sole symbol Asked old new done
  pub why : refused.why ≡ refusals.StoreFault
  pub stops : StopsAt client old new refused
  pub rose : Rose before now

-- what a refused call of a try left
abbrev pub DidFail : ℕ → Bool → Name → (Made → Type 0) → ℕ → ℕ → ℕ → ℕ → History → History → Refused → Type 0
DidFail client sole symbol Asked limit before now from old new refused =
    DidStop client sole symbol limit before now from old new refused ⊎ DidCommitFaulted client sole symbol Asked before now old new refused

-- what one try did that began at the place `from`: it committed what was asked, was met by another's Refer, or failed
abbrev pub DidTry : ℕ → Bool → Name → (Made → Type 0) → ℕ → ℕ → ℕ → ℕ → History → History → Result Committed Refused → Type 0
DidTry client sole symbol Asked limit before now from old new (Ok done) = DidCommit client sole symbol Asked old new done
DidTry client sole symbol Asked limit before now from old new (Err refused) =
    DidMeet client sole symbol from old new refused ⊎ DidFail client sole symbol Asked limit before now from old new refused

-- ---- several tries

-- so many refused tries, of which some may have found that they were met before they put anything
pub record DidRefused (client : ℕ) (sole : Bool) (symbol : Name) (old new : History) (count : ℕ) : Type 0 where
  pub tries : List (List Event)
  pub refused : AllByRecursion (IsRefused client symbol true) tries
  pub counted : length tries ≤ count
  pub went : Went client sole old new (flat_map (λ t. t) tries)
  pub met : count ≤ met_in client symbol went.more

-- no event, since the one-thread library refuses so at the refusal's place, which is a place of the try
pub record DidRefuse (client : ℕ) (sole : Bool) (Refuses : History → Refusal → Type 0) (old new : History) (refused : Refused) : Type 0 where
  pub went : Went client sole old new []
  pub place : IsWithin old new refused.place
  pub refuses : Refuses (history_at new refused.place) refused.why

-- fewer refused tries than may be made, and then one that came to another end
pub record Then (client : ℕ) (sole : Bool) (symbol : Name) (most : ℕ) (old new : History) (Last : History → Type 0) : Type 0 where
  pub count : ℕ
  pub few : count < most
  pub mid : History
  pub refused : DidRefused client sole symbol old mid count
  pub last : Last mid

-- so many tries were met, each where there was a change to make or where something was lost, the last by the Refer of this place
abbrev pub MetTries : ℕ → Name → (History → Type 0) → (History → ℕ → ℕ → Type 0) → ℕ → History → History → ℕ → Type 0
MetTries client symbol Wants Loses count old new now = AreMetTries new client symbol true (λ q. Wants (history_at new q)) (Loses new) count (length old) (length new) now

-- each try was refused; the last met the Refer of this place
pub record DidMeetAll (client : ℕ) (sole : Bool) (symbol : Name) (Wants : History → Type 0) (Loses : History → ℕ → ℕ → Type 0) (most : ℕ) (old new : History) (refused : Refused) : Type 0 where
  pub all : DidRefused client sole symbol old new most
  pub each : MetTries client symbol Wants Loses most old new refused.place
  pub met : IsMet client symbol (length old) new refused.place
  pub why : refused.why ≡ refusals.Moved refused.place

-- where the store was full, the command had a change to make at a place of the try
abbrev pub IsBusy : (History → Type 0) → History → History → ℕ → Refusal → Type 0
IsBusy Wants old new place (refusals.Spent count) = (q : ℕ) × (length old ≤ q) × (q ≤ place) × Wants (history_at new q)
IsBusy Wants old new place _ = ⊤

-- how the last try ended, if it was not met: it failed, or the library refuses the command
abbrev pub DidEnd : ℕ → Bool → Name → (Made → Type 0) → (History → Refusal → Type 0) → (History → Type 0) → ℕ → ℕ → ℕ → History → History → Refused → Type 0
DidEnd client sole symbol Asked Refuses Wants limit before now old new refused =
    (DidFail client sole symbol Asked limit before now (length old) old new refused × IsBusy Wants old new refused.place refused.why)
    ⊎ DidRefuse client sole Refuses old new refused

-- what all tries did of a command that asks for this, that the library refuses so, that has a change to make in these histories, and that may find so much lost
abbrev pub DidTries : ℕ → Bool → Name → (Made → Type 0) → (History → Refusal → Type 0) → (History → Type 0) → (History → ℕ → ℕ → Type 0) → ℕ → ℕ → ℕ → ℕ → History → History → Result Committed Refused → Type 0
DidTries client sole symbol Asked Refuses Wants Loses most limit before now old new (Ok done) =
    Then client sole symbol most old new (λ mid. DidCommit client sole symbol Asked mid new done)
DidTries client sole symbol Asked Refuses Wants Loses most limit before now old new (Err refused) =
    DidMeetAll client sole symbol Wants Loses most old new refused ⊎ Then client sole symbol most old new (λ mid. DidEnd client sole symbol Asked Refuses Wants limit before now mid new refused)
