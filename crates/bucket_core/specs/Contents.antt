-- The contents that a history leaves: each key under which something stands, with its body and the place of the event that set it.
--     Shown, shown        an entry of such contents, as contracts see it
--     with_event          contents after one event more
--     contents_of         the contents that a history leaves, in the order of keys
--     IsSetAt             whether something stands under a key, and since which place
--     LacksName           whether a snapshot's name stands as it was set at a place, and else a place at which it does not
use Rattle.std.specs.Prelude.{◌≡◌, ℕ, suc, true, is_some, List, [], ◌∷◌, length, filter, not, Option, Some, None}
use Rattle.std.specs.Arc.{arc_value}
use Rattle.std.specs.BTreeMap.{insert_entry}
use Rattle.key_kind.specs.declared.key.Key.{Key}
use Rattle.key_kind.specs.Keys.{same_key, key_cmp}
use Rattle.bucket_core.specs.declared.entry.Entry.{Entry}
use Rattle.key_kind.specs.Names.{Name}
use Rattle.bucket_core.specs.History.{History, Bytes, key_of, body_of, stored, since}
use Rattle.bucket_core.specs.Calls.{StandsSince, IsMissingAt}

-- a key, and under it a body and the place of the event that set it
abbrev pub Shown : Type 0
Shown = Key × (Bytes × ℕ)

-- an entry, as contracts see it
abbrev pub shown : Key × Entry → Shown
shown e = (e.0, (arc_value e.1.body, e.1.since))

-- the entries with this body under the key, or without the key
abbrev pub with_event : Key → Option Bytes → ℕ → List Shown → List Shown
with_event key None place entries = filter (λ (e : Shown). not (same_key key e.0)) entries
with_event key (Some body) place entries = insert_entry key_cmp entries key (body, place)

-- the contents that the history leaves
abbrev pub contents_of : History → List Shown
contents_of [] = []
contents_of (e ∷ h) = with_event (key_of e) (body_of e) (suc (length h)) (contents_of h)

-- nothing stands under the key, or something stands there since this place
abbrev pub IsSetAt : History → Key → Option ℕ → Type 0
IsSetAt h key None = stored h key ≡ None
IsSetAt h key (Some at) = (is_some (stored h key) ≡ true) × (at ≡ since h key)

-- the name stands since this place, or it does not
abbrev pub LacksName : History → Name → ℕ → Option ℕ → Type 0
LacksName h snap set None = StandsSince h snap set
LacksName h snap set (Some at) = IsMissingAt h snap set at
