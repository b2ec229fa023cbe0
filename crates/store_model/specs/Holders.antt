-- Who holds: which holders stand in a history.
--     has_hold            the symbol's Refers have a Hold of this holder
--     has_name            some Name has this holder
--     has_unnamed         the client made the Unname of the Name with this holder
--     IsHeldRow           a row of a snapshot is held under its holder, by the index key of its link
use Rattle.std.specs.Prelude.{◌≡◌, ℕ, Bool, true, false, ◌||◌, ◌&&◌, List, [], ◌∷◌, Option, Some, None, nat_eq}
use Rattle.std.specs.List.{list_any}
use Rattle.byte_fields.specs.Reading.{read_of}
use Rattle.key_kind.specs.declared.key.Key.{Key}
use Rattle.key_kind.specs.declared.key.Holder.{Holder}
use Rattle.key_kind.specs.Names.{Name, same_name}
use Rattle.key_kind.specs.Keys.{same_key, same_holder}
use Rattle.bucket_core.specs.declared.event.Change.{Change}
use Rattle.bucket_core.specs.declared.event.Change.TheVariants as changes
use Rattle.bucket_core.specs.declared.event.Event.TheVariants as events
use Rattle.bucket_core.specs.History.{History}
use Rattle.store_model.specs.declared.snapshot.SnapRow.{SnapRow}
use Rattle.store_model.specs.declared.snapshot.SnapBody.{SnapBody}
use Rattle.store_model.specs.ChainText.{snap_of}
use Rattle.store_model.specs.Library.{State, Hold, state_of}
use Rattle.store_model.specs.Snapshots.{snap_body}
use Rattle.store_model.specs.Links.{Linked, links}

-- the symbol's Refers in h have a Hold of this holder
abbrev pub holds_in : List Change → Holder → Bool
holds_in [] holder = false
holds_in (changes.Held other version ∷ more) holder = same_holder other holder || holds_in more holder
holds_in (_ ∷ more) holder = holds_in more holder

-- some Refer of the symbol holds by this holder
abbrev pub has_hold : History → Name → Holder → Bool
has_hold [] symbol holder = false
has_hold (events.Refer c s was entry list ∷ h) symbol holder = (same_name s symbol && holds_in list holder) || has_hold h symbol holder
has_hold (_ ∷ h) symbol holder = has_hold h symbol holder

-- the snapshot is of this holder
abbrev pub holder_is : Holder → Option SnapBody → Bool
holder_is holder None = false
holder_is holder (Some s) = same_holder s.holder holder

-- some Name of h has this holder
abbrev pub has_name : History → Holder → Bool
has_name [] holder = false
has_name (events.Name c snap body ∷ h) holder = holder_is holder (read_of (snap_of body)) || has_name h holder
has_name (_ ∷ h) holder = has_name h holder

-- the client made the Unname of the Name with this holder
abbrev pub has_unnamed : History → ℕ → Holder → Bool
has_unnamed [] client holder = false
has_unnamed (events.Unname c snap ∷ h) client holder = (nat_eq c client && holder_is holder (snap_body h snap)) || has_unnamed h client holder
has_unnamed (_ ∷ h) client holder = has_unnamed h client holder

-- the version is held under this holder, and this is the index key of its link
abbrev pub is_held_by : State → Holder → ℕ → Bool
is_held_by st holder version = list_any (λ (w : Hold). same_holder holder w.holder && nat_eq version w.version) st.holds

-- a link of this version has this index key
abbrev pub has_index : List Linked → ℕ → Key → Bool
has_index list version index = list_any (λ (l : Linked). nat_eq version l.row.version && same_key index l.row.index) list

-- the row's version is held by the holder, and its index key is its link's
abbrev pub IsHeldRow : History → Holder → SnapRow → Type 0
IsHeldRow h holder r = (is_held_by (state_of h r.symbol) holder r.version ≡ true) × (has_index (links h r.symbol) r.version r.index ≡ true)
