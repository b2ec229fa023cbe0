-- The history of a store: its events, the newest first. A place is a number of events, so the length of a history.
--     author, key_of, body_of      of an event: its client, the one key that it sets, and the body that it sets there, if any
--     stored, since                what stands under a key, and the place of the event that set it
--     stored_keys                  the keys under which something stands, ascending
--     body_put                     with which body a key was put, whatever was dropped since
--     reference, referred_at       the entry that the symbol's newest Refer set, and the place of that Refer
--     puts_by                      how many Puts a client made: its next serial
--     history_at, event_at, events_within      the history at a place, the event of a place, the events of a window
--     IsLater, AllByOthers         a history goes on from another; events of other clients alone
use Rattle.std.specs.Prelude.{◌≡◌, ℕ, suc, ◌-◌, ◌≢◌, List, [], ◌∷◌, ◌++◌, length, take, drop, filter, not, Option, Some, None, nat_eq, nat_le, if◌then◌else◌, ⊤, is_some}
use Rattle.key_kind.specs.Names.{Name, same_name}
use Rattle.key_kind.specs.declared.key.Key.{Key}
use Rattle.key_kind.specs.Keys.{same_key, key_before, reference_key, snapshot_key}
use Rattle.key_kind.specs.KeyText.{key_text}
use Rattle.bucket_core.specs.declared.event.Event.{Event}
use Rattle.bucket_core.specs.declared.event.Event.TheVariants as events

-- a history: its events, the newest first
abbrev pub History : Type 0
History = List Event

-- a body, as its bytes
abbrev pub Bytes : Type 0
Bytes = List ℕ

-- the client that made the event
abbrev pub author : Event → ℕ
author (events.Put c key body) = c
author (events.Refer c symbol was entry changes) = c
author (events.Name c snap body) = c
author (events.Unname c snap) = c
author (events.Drop c key) = c

-- each event sets one key: to a body, or to nothing
abbrev pub key_of : Event → Key
key_of (events.Put c key body) = key
key_of (events.Refer c symbol was entry changes) = reference_key symbol
key_of (events.Name c snap body) = snapshot_key snap
key_of (events.Unname c snap) = snapshot_key snap
key_of (events.Drop c key) = key

-- the body that an event sets, if any
abbrev pub body_of : Event → Option Bytes
body_of (events.Put c key body) = Some body
body_of (events.Refer c symbol was entry changes) = Some (key_text entry)
body_of (events.Name c snap body) = Some body
body_of (events.Unname c snap) = None
body_of (events.Drop c key) = None

-- the body that stands under a key
abbrev pub stored : History → Key → Option Bytes
stored [] key = None
stored (e ∷ h) key = if same_key (key_of e) key then body_of e else stored h key

-- the place of the event that set the body which stands under a key, or 0
abbrev pub since : History → Key → ℕ
since [] key = 0
since (e ∷ h) key = if same_key (key_of e) key then (if is_some (body_of e) then suc (length h) else 0) else since h key

-- a list of keys in order, with one key more, and without it
abbrev pub insert_key : Key → List Key → List Key
insert_key key [] = key ∷ []
insert_key key (k ∷ ks) = if same_key key k then k ∷ ks else if key_before key k then key ∷ k ∷ ks else k ∷ insert_key key ks

-- a list of keys without this one
abbrev pub without_key : Key → List Key → List Key
without_key key = filter (λ k. not (same_key key k))

-- the keys under which something stands, ascending
abbrev pub stored_keys : History → List Key
stored_keys [] = []
stored_keys (e ∷ h) = if is_some (body_of e) then insert_key (key_of e) (stored_keys h) else without_key (key_of e) (stored_keys h)

-- the body with which a key was put, whatever was dropped since
abbrev pub body_put : History → Key → Option Bytes
body_put [] key = None
body_put (events.Put c k body ∷ h) key = if same_key k key then Some body else body_put h key
body_put (_ ∷ h) key = body_put h key

-- the entry that the symbol's newest Refer set
abbrev pub reference : History → Name → Option Key
reference [] symbol = None
reference (events.Refer c s was entry changes ∷ h) symbol = if same_name s symbol then Some entry else reference h symbol
reference (_ ∷ h) symbol = reference h symbol

-- the place of the symbol's newest Refer, or 0
abbrev pub referred_at : History → Name → ℕ
referred_at [] symbol = 0
referred_at (events.Refer c s was entry changes ∷ h) symbol = if same_name s symbol then suc (length h) else referred_at h symbol
referred_at (_ ∷ h) symbol = referred_at h symbol

-- how many Puts the client made, which is the serial of its next one
abbrev pub puts_by : ℕ → History → ℕ
puts_by client [] = 0
puts_by client (events.Put c key body ∷ h) = if nat_eq c client then suc (puts_by client h) else puts_by client h
puts_by client (_ ∷ h) = puts_by client h

-- ---- places and windows

-- the history at a place: its first n events
abbrev pub history_at : History → ℕ → History
history_at h n = drop (length h - n) h

-- the newest event
abbrev pub newest : History → Option Event
newest [] = None
newest (e ∷ h) = Some e

-- the event of a place, counted from 1; there is none beyond the last
abbrev pub event_at : History → ℕ → Option Event
event_at h n = if nat_le n (length h) then newest (history_at h n) else None

-- the events after one place up to another, the newest first
abbrev pub events_within : History → ℕ → ℕ → History
events_within h start end = take (end - start) (history_at h end)

-- the second history goes on from the first
abbrev pub IsLater : History → History → Type 0
IsLater h later = (more : History) × (later ≡ more ++ h)

-- no event is of this client
abbrev pub AllByOthers : ℕ → History → Type 0
AllByOthers client [] = ⊤
AllByOthers client (e ∷ h) = (author e ≢ client) × AllByOthers client h

-- each event may follow the events before it
abbrev pub Lawful : (History → Event → Type 0) → History → Type 0
Lawful may_follow [] = ⊤
Lawful may_follow (e ∷ h) = may_follow h e × Lawful may_follow h

-- the key stands with the body that was put
pub record StandsAsPut (h : History) (key : Key) : Type 0 where
  pub body : Bytes
  pub put : body_put h key ≡ Some body
  pub stands : stored h key ≡ Some body

-- no key is put a second time
abbrev pub PutOnce : History → Type 0
PutOnce [] = ⊤
PutOnce (events.Put c key body ∷ h) = (body_put h key ≡ None) × PutOnce h
PutOnce (_ ∷ h) = PutOnce h

-- what was put in the one is put with the same body in the other
abbrev pub PutsStay : History → History → Type 0
PutsStay h later = (key : Key) (body : Bytes) → body_put h key ≡ Some body → body_put later key ≡ Some body
