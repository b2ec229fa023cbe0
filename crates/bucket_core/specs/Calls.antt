-- The calls of a bucket: when one may be made, and what it did.
--     was_entry, HasMovedOn      a reference that has moved on from an entry
--     MovesOn             what a law shows of such references
--     MayTryRefer, MayTryDrop      when a refer and a drop may be called: the event may follow, or the store will refuse it
--     IsSteady            what no call changes of a bucket
--     IsFound, IsListed      what a get and a list answer
--     refers_after        whether the symbol was referred after a place
--     RefusesLook, DidChange, DidUnname, DidDrop      the refusals of a look; what a changing call, an unname and a drop did
--     StandsSince, IsMissingAt      a snapshot's name that was set at a place, and one that was not
--     RefusesPut, RefusesRefer, RefusesName, RefusesUnname      the refusals of each changing call, with their causes
use Rattle.std.specs.Prelude.{◌≡◌, ◌≢◌, ◌⊎◌, ◌≤◌, ℕ, suc, Bool, true, false, ◌&&◌, ◌||◌, List, [], ◌∷◌, ◌++◌, length, ◌-◌, take, drop, filter, Option, Some, None, Result, Ok, Err, ⊤, is_some, option_map}
use Rattle.std.specs.List.{list_any}
use Rattle.std.specs.Arc.{arc_value}
use Rattle.base_types.specs.Faults.{Rose}
use Rattle.key_kind.specs.Names.{Name, same_name}
use Rattle.key_kind.specs.declared.key.KeyKind.{KeyKind}
use Rattle.key_kind.specs.declared.key.Key.{Key}
use Rattle.key_kind.specs.Keys.{same_key, same_kind, snapshot_key}
use Rattle.bucket_core.specs.declared.event.Change.{Change}
use Rattle.bucket_core.specs.declared.event.Event.{Event}
use Rattle.bucket_core.specs.declared.event.Event.TheVariants as events
use Rattle.bucket_core.specs.declared.answer.StoreErr.{StoreErr}
use Rattle.bucket_core.specs.declared.answer.StoreErr.TheVariants as errs
use Rattle.bucket_core.specs.declared.answer.Found.{Found}
use Rattle.bucket_core.specs.declared.answer.Listed.{Listed}
use Rattle.bucket_core.specs.declared.answer.Dropped.{Dropped}
use Rattle.bucket_core.specs.declared.answer.Dropped.TheVariants as drops
use Rattle.bucket_core.specs.History.{History, Bytes, stored, stored_keys, body_put, reference, referred_at, since}
use Rattle.bucket_core.specs.Laws.{refers, IsTested, MayFollow, IsLawful, Looks, Adds}

-- ---- references that have moved on

-- the symbol's reference was this entry at some place
abbrev pub was_entry : History → Name → Key → Bool
was_entry [] symbol key = false
was_entry (events.Refer c s was entry list ∷ h) symbol key = (same_name s symbol && same_key entry key) || was_entry h symbol key
was_entry (_ ∷ h) symbol key = was_entry h symbol key

-- the reference has moved on from this one
abbrev pub HasMovedOn : History → Name → Option Key → Type 0
HasMovedOn h symbol None = reference h symbol ≢ None
HasMovedOn h symbol (Some key) = (reference h symbol ≢ Some key) × (was_entry h symbol key ≡ true)

-- a law shows that a reference that has moved on does not come back
abbrev pub MovesOn : (History → Event → Type 0) → Type 0
MovesOn claimed = (h more : History) (symbol : Name) (was : Option Key) → IsLawful claimed (more ++ h) → HasMovedOn h symbol was → HasMovedOn (more ++ h) symbol was

-- ---- the events of the calls

-- the event of a `put`
abbrev pub put_event : ℕ → Key → Bytes → Event
put_event client key body = events.Put client key body

-- the event of a `refer`
abbrev pub refer_event : ℕ → Name → Option Key → Key → List Change → Event
refer_event client symbol was entry list = events.Refer client symbol was entry list

-- the event of a `name`
abbrev pub name_event : ℕ → Name → Bytes → Event
name_event client snap body = events.Name client snap body

-- the event of an `unname`
abbrev pub unname_event : ℕ → Name → Event
unname_event client snap = events.Unname client snap

-- the event of a `drop_key`
abbrev pub drop_event : ℕ → Key → Event
drop_event client key = events.Drop client key

-- ---- when a call may be made. Of a name and an unname only the claim is asked, whether or not the name stands

-- the event may follow, or the store will answer Moved
abbrev pub MayTryRefer : (History → Event → Type 0) → History → ℕ → Name → Option Key → Key → List Change → Type 0
MayTryRefer claimed h client symbol was entry list = MayFollow claimed h (refer_event client symbol was entry list) ⊎ HasMovedOn h symbol was

-- the event may follow, or the store will answer Absent of a key that was put
abbrev pub MayTryDrop : (History → Event → Type 0) → History → ℕ → Key → Type 0
MayTryDrop claimed h client key = MayFollow claimed h (drop_event client key) ⊎ ((stored h key ≡ None) × (is_some (body_put h key) ≡ true))

-- ---- what a call did

-- no call changes a bucket's client and limit; its count of faults never falls, and while it is sole it stays so
pub record IsSteady {B : Type 0} (number limit faults : B → ℕ) (sole : B → Bool) (old new : B) : Type 0 where
  pub same_number : number new ≡ number old
  pub same_limit : limit new ≡ limit old
  pub faults_rise : faults old ≤ faults new
  pub stays_sole : sole old ≡ true → sole new ≡ true

-- the refusals of a look: a fault comes only where the count of faults rose
abbrev pub RefusesLook : ℕ → ℕ → StoreErr → Type 0
RefusesLook before now errs.Fault = Rose before now
RefusesLook before now errs.NoMemory = ⊤
RefusesLook before now _ = ⊥

-- the keys that match a kind and a name, where they are given
abbrev pub matches : Option KeyKind → Option Name → Key → Bool
matches None None key = true
matches (Some kind) None key = same_kind key.kind kind
matches None (Some name) key = same_name key.name name
matches (Some kind) (Some name) key = same_kind key.kind kind && same_name key.name name

-- the stored keys that match, in order
abbrev pub keys_that_match : History → Option KeyKind → Option Name → List Key
keys_that_match h kind name = filter (matches kind name) (stored_keys h)

-- the body under the key, with the place of the look and the place of the event that set it
pub record IsFound (h : History) (key : Key) (found : Found) : Type 0 where
  pub body : option_map arc_value found.body ≡ stored h key
  pub place : found.place ≡ length h
  pub since : found.since ≡ since h key

-- the stored keys that match, with the place of the look
pub record IsListed (h : History) (kind : Option KeyKind) (name : Option Name) (listed : Listed) : Type 0 where
  pub keys : listed.keys ≡ keys_that_match h kind name
  pub place : listed.place ≡ length h

-- whether the symbol has a Refer above the place
abbrev pub refers_after : History → Name → ℕ → Bool
refers_after h symbol place = list_any (refers symbol) (take (length h - place) h)

-- the history is at least as long as the limit, and this is its length
abbrev pub IsFull : ℕ → History → ℕ → Type 0
IsFull limit h count = (count ≡ length h) × (limit ≤ count)

-- what a changing call did: it added its event, which the store tested, below the limit; or it refused with a cause; after a fault the event stands or not
abbrev pub DidChange : (History → Event → Type 0) → ℕ → Bool → ℕ → ℕ → ℕ → History → History → Event → (History → StoreErr → Type 0) → Result ℕ StoreErr → Type 0
DidChange claimed client sole limit before now old new e refuses (Ok place) =
    Adds claimed client sole old new e × (place ≡ length new) × (place ≤ limit) × IsTested (drop 1 new) e
DidChange claimed client sole limit before now old new e refuses (Err errs.Fault) = Rose before now × (Adds claimed client sole old new e ⊎ Looks claimed client sole old new)
DidChange claimed client sole limit before now old new e refuses (Err errs.NoMemory) = Looks claimed client sole old new
DidChange claimed client sole limit before now old new e refuses (Err why) = Looks claimed client sole old new × refuses new why

-- the refusals of a `put`, by the history that the call has seen
abbrev pub RefusesPut : ℕ → History → StoreErr → Type 0
RefusesPut limit h (errs.Spent count) = IsFull limit h count
RefusesPut limit h _ = ⊥

-- the refusals of a `refer`: Moved, with the place of the Refer that set the present reference, or 0; else Spent
abbrev pub RefusesRefer : ℕ → Name → Option Key → History → StoreErr → Type 0
RefusesRefer limit symbol was h (errs.Moved at) = (reference h symbol ≢ was) × (at ≡ referred_at h symbol)
RefusesRefer limit symbol was h (errs.Spent count) = (reference h symbol ≡ was) × IsFull limit h count
RefusesRefer limit symbol was h _ = ⊥

-- the refusals of a `name`: Taken where the name stands; else Spent
abbrev pub RefusesName : ℕ → Name → History → StoreErr → Type 0
RefusesName limit snap h (errs.Taken at) = (is_some (stored h (snapshot_key snap)) ≡ true) × (at ≡ length h)
RefusesName limit snap h (errs.Spent count) = (is_some (stored h (snapshot_key snap)) ≡ false) × IsFull limit h count
RefusesName limit snap h _ = ⊥

-- the name stands, and was set at this place
abbrev pub StandsSince : History → Name → ℕ → Type 0
StandsSince h snap set = (is_some (stored h (snapshot_key snap)) ≡ true) × (since h (snapshot_key snap) ≡ set)

-- the name does not stand, which is so at this place; or it was set at another place than this one, and the place before that is told
abbrev pub IsMissingAt : History → Name → ℕ → ℕ → Type 0
IsMissingAt h snap set at =
    ((is_some (stored h (snapshot_key snap)) ≡ false) × (at ≡ length h))
    ⊎ ((is_some (stored h (snapshot_key snap)) ≡ true) × (since h (snapshot_key snap) ≢ set) × (suc at ≡ since h (snapshot_key snap)))

-- the refusals of an `unname`: Missing where the name does not stand, or was set at another place; else Spent
abbrev pub RefusesUnname : ℕ → Name → ℕ → History → StoreErr → Type 0
RefusesUnname limit snap set h (errs.Missing at) = IsMissingAt h snap set at
RefusesUnname limit snap set h (errs.Spent count) = StandsSince h snap set × IsFull limit h count
RefusesUnname limit snap set h _ = ⊥

-- what an `unname` did: it added its Unname of a name set at this place, below the limit; or it refused with a cause; after a fault that event stands or not
abbrev pub DidUnname : (History → Event → Type 0) → ℕ → Bool → ℕ → ℕ → ℕ → History → History → Name → ℕ → Result ℕ StoreErr → Type 0
DidUnname claimed client sole limit before now old new snap set (Ok place) =
    Adds claimed client sole old new (unname_event client snap) × (place ≡ length new) × (place ≤ limit) × StandsSince (drop 1 new) snap set
DidUnname claimed client sole limit before now old new snap set (Err errs.Fault) =
    Rose before now × ((Adds claimed client sole old new (unname_event client snap) × StandsSince (drop 1 new) snap set) ⊎ Looks claimed client sole old new)
DidUnname claimed client sole limit before now old new snap set (Err errs.NoMemory) = Looks claimed client sole old new
DidUnname claimed client sole limit before now old new snap set (Err why) = Looks claimed client sole old new × RefusesUnname limit snap set new why

-- what a `drop_key` did: it added its Drop, or found nothing under the key, or refused
abbrev pub DidDrop : (History → Event → Type 0) → ℕ → Bool → ℕ → ℕ → ℕ → History → History → Key → Result Dropped StoreErr → Type 0
DidDrop claimed client sole limit before now old new key (Ok (drops.Gone place)) =
    Adds claimed client sole old new (drop_event client key) × (place ≡ length new) × (place ≤ limit) × (is_some (stored (drop 1 new) key) ≡ true)
DidDrop claimed client sole limit before now old new key (Ok (drops.Absent place)) = Looks claimed client sole old new × (place ≡ length new) × (stored new key ≡ None)
DidDrop claimed client sole limit before now old new key (Err errs.Fault) =
    Rose before now × (Adds claimed client sole old new (drop_event client key) ⊎ Looks claimed client sole old new)
DidDrop claimed client sole limit before now old new key (Err errs.NoMemory) = Looks claimed client sole old new
DidDrop claimed client sole limit before now old new key (Err (errs.Spent count)) = Looks claimed client sole old new × (is_some (stored new key) ≡ true) × IsFull limit new count
DidDrop claimed client sole limit before now old new key (Err _) = ⊥
