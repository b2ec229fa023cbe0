-- A commit of one change that makes no version: what is buried, held, released or consumed, over a walked state, in one try.
--     own_refers          a Refer of the symbol by the client
--     FitsHold, FitsRelease, FitsOn      the change fits a walked state, and what the client has seen
--     MayMark             when such a commit may be tried
--     element_key         the key of an element
--     IsMarkEntry         the element of such a commit
--     IsMet               another's Refer of the symbol stands behind a place
--     Marked, MarkMet     the commit stands; it was met, and its element is dropped again
--     MarkPart, MarkStopped, MarkFaulted      a call of the try failed
--     DidMark             what the try did
use Rattle.std.specs.Prelude.{◌≡◌, ◌≢◌, ◌⊎◌, ℕ, pos, ◌<◌, ◌≤◌, Bool, true, false, ◌&&◌, List, [], ◌∷◌, length, Option, Some, Result, Ok, Err, nat_eq}
use Rattle.std.specs.List.{list_any}
use Rattle.base_types.specs.Faults.{Rose}
use Rattle.frame_core.specs.declared.refusal.Refusal.TheVariants as refusals
use Rattle.frame_core.specs.declared.refusal.Refused.{Refused}
use Rattle.key_kind.specs.declared.key.KeyKind.TheVariants as kinds
use Rattle.key_kind.specs.declared.key.Key.{Key}
use Rattle.key_kind.specs.declared.key.Holder.{Holder}
use Rattle.key_kind.specs.Names.{Name}
use Rattle.key_kind.specs.Keys.{same_holder}
use Rattle.bucket_core.specs.declared.event.Change.{Change}
use Rattle.bucket_core.specs.declared.event.Change.TheVariants as changes
use Rattle.bucket_core.specs.declared.event.Event.{Event}
use Rattle.bucket_core.specs.declared.event.Event.TheVariants as events
use Rattle.bucket_core.specs.History.{History, Bytes, author, event_at, puts_by, referred_at}
use Rattle.bucket_core.specs.Laws.{refers}
use Rattle.bucket_core.specs.Calls.{refers_after}
use Rattle.store_model.specs.declared.chain.LinkRow.{LinkRow}
use Rattle.store_model.specs.ChainText.{entry_of}
use Rattle.store_model.specs.Library.{State, Hold, state_of, is_live}
use Rattle.store_model.specs.Holders.{has_hold, has_name, has_unnamed}
use Rattle.store_model.specs.Commits.{FitsRemoved, FitsDiscarded, marks_of}
use Rattle.store_model.specs.Law.{IsLawful}
use Rattle.version_chain.specs.declared.state.SymbolState.{SymbolState}
use Rattle.version_chain.specs.States.{IsStateAt}
use Rattle.version_chain.specs.Traces.{Went}
use Rattle.version_chain.specs.Stops.{StopsAt, HasCause}

-- a Refer of the symbol by the client
abbrev pub own_refers : ℕ → Name → Event → Bool
own_refers client symbol e = nat_eq (author e) client && refers symbol e

-- ---- when it may be tried

-- a live version of the state; the holder is the client's, from before its next Put, and is used neither for this symbol nor for a name
pub record FitsHold (st : State) (seen : History) (client : ℕ) (symbol : Name) (holder : Holder) (version : ℕ) : Type 0 where
  pub live : is_live st version ≡ true
  pub own : holder.client ≡ client
  pub begun : holder.serial ≤ puts_by client seen
  pub unused : has_hold seen symbol holder ≡ false
  pub unnamed : has_name seen holder ≡ false

-- an unreleased hold of the state, of an own holder that has no name, or of one whose name the client took away
pub record FitsRelease (st : State) (seen : History) (client : ℕ) (holder : Holder) : Type 0 where
  pub held : list_any (λ (w : Hold). same_holder holder w.holder) st.holds ≡ true
  pub allowed : ((holder.client ≡ client) × (has_name seen holder ≡ false)) ⊎ (has_unnamed seen client holder ≡ true)

-- the change fits the symbol's state, and the history that the client has seen with one Put more; no change that makes a version does
abbrev pub FitsOn : State → History → ℕ → Name → Change → Type 0
FitsOn st seen client symbol (changes.Removed versions) = FitsRemoved st versions
FitsOn st seen client symbol (changes.Held holder version) = FitsHold st seen client symbol holder version
FitsOn st seen client symbol (changes.Released holder) = FitsRelease st seen client holder
FitsOn st seen client symbol (changes.Discarded pieces) = FitsDiscarded st pieces
FitsOn st seen client symbol _ = ⊥

-- the walked state is the symbol's at a place of the seen history, behind which the client has no Refer of the symbol, and the change fits
pub record MayMark (seen : History) (client : ℕ) (symbol : Name) (state : SymbolState) (c : Change) : Type 0 where
  pub at : IsStateAt seen symbol state
  pub none_own : list_any (own_refers client symbol) at.later ≡ false
  pub fits : FitsOn (state_of at.before symbol) seen client symbol c

-- ---- the element

-- the key of an element
abbrev pub element_key : ℕ → Name → ℕ → Key
element_key client symbol serial = record { kind = kinds.Version; name = symbol; client = client; serial = serial; version = 0; first = pos 0; last = pos 0 }

-- an element of the symbol, which stands on `was` and spells the change
pub record IsMarkEntry (symbol : Name) (was : Option Key) (entry : Key) (body : Bytes) (c : Change) : Type 0 where
  pub kind : entry.kind ≡ kinds.Version
  pub name : entry.name ≡ symbol
  pub row : LinkRow
  pub spelled : entry_of body ≡ Ok (record { prev = was; changes = marks_of row (c ∷ []) })

-- ---- what the try did

-- event n, behind the place, is another's Refer of the symbol
pub record IsMet (client : ℕ) (symbol : Name) (place : ℕ) (h : History) (n : ℕ) : Type 0 where
  pub added : place < n
  pub within : n ≤ length h
  pub event : Event
  pub at : event_at h n ≡ Some event
  pub refers : refers symbol event ≡ true
  pub others : author event ≢ client

-- the Put of the element, and behind it the Refer with this change; nobody referred the symbol between the state's place and this Refer
pub record Marked (client : ℕ) (sole : Bool) (symbol : Name) (from : ℕ) (c : Change) (old new : History) (place : ℕ) : Type 0 where
  pub was : Option Key
  pub entry : Key
  pub body : Bytes
  pub is_entry : IsMarkEntry symbol was entry body c
  pub before : History
  pub newest : new ≡ events.Refer client symbol was entry (c ∷ []) ∷ before
  pub went : Went client sole old before (events.Put client entry body ∷ [])
  pub lawful : IsLawful old → IsLawful new
  pub quiet : refers_after before symbol from ≡ false
  pub longer : from ≤ length before
  pub place_is : place ≡ length new

-- the Put of the element, then a call that showed another's Refer of the symbol behind the state's place, and the Drop of the element
pub record MarkMet (client : ℕ) (sole : Bool) (symbol : Name) (from : ℕ) (c : Change) (old new : History) (refused : Refused) : Type 0 where
  pub now : ℕ
  pub refused_is : refused ≡ record { place = now; why = refusals.Moved now }
  pub was : Option Key
  pub entry : Key
  pub body : Bytes
  pub is_entry : IsMarkEntry symbol was entry body c
  pub showed : History
  pub put : Went client sole old showed (events.Put client entry body ∷ [])
  pub shown : referred_at showed symbol ≡ now
  pub dropped : Went client sole showed new (events.Drop client entry ∷ [])
  pub met : IsMet client symbol from new now

-- the own events of a try that stopped: none; the Put of the element; or its Drop too, where the try was met
pub data MarkPart (client : ℕ) (symbol : Name) (from : ℕ) (c : Change) (new : History) : List Event → Type 0 where
  no_event : MarkPart client symbol from c new []
  one_put : (was : Option Key) (entry : Key) (body : Bytes) → IsMarkEntry symbol was entry body c → MarkPart client symbol from c new (events.Put client entry body ∷ [])
  one_drop : (was : Option Key) (entry : Key) (body : Bytes) (n : ℕ) → IsMarkEntry symbol was entry body c → IsMet client symbol from new n
      → MarkPart client symbol from c new (events.Put client entry body ∷ events.Drop client entry ∷ [])

-- a call of the try failed, and no commit stands
pub record MarkStopped (client : ℕ) (sole : Bool) (symbol : Name) (from : ℕ) (c : Change) (limit before now : ℕ) (old new : History) (refused : Refused) : Type 0 where
  pub own : List Event
  pub went : Went client sole old new own
  pub part : MarkPart client symbol from c new own
  pub stops : StopsAt client old new refused
  pub cause : HasCause limit before now new refused refused.why

-- the store failed, and yet the commit stands
pub record MarkFaulted (client : ℕ) (sole : Bool) (symbol : Name) (from : ℕ) (c : Change) (before now : ℕ) (old new : History) (refused : Refused) : Type 0 where
  pub place : ℕ
  pub marked : Marked client sole symbol from c old new place
  pub why : refused.why ≡ refusals.StoreFault
  pub stops : StopsAt client old new refused
  pub rose : Rose before now

-- what the try did: the commit stands at this place; or it was met, stopped, or failed and yet stands
abbrev pub DidMark : ℕ → Bool → Name → ℕ → Change → ℕ → ℕ → ℕ → History → History → Result ℕ Refused → Type 0
DidMark client sole symbol from c limit before now old new (Ok place) = Marked client sole symbol from c old new place
DidMark client sole symbol from c limit before now old new (Err refused) =
    MarkMet client sole symbol from c old new refused
    ⊎ MarkStopped client sole symbol from c limit before now old new refused
    ⊎ MarkFaulted client sole symbol from c before now old new refused
