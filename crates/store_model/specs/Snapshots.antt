-- The standing snapshots, the symbols, and the whole library that a history tells.
--     snap_body           the body of a standing name
--     snapshots_of, symbols_of      the standing snapshots, and the symbols with a reference, in order
--     library_of          all of it
use Rattle.std.specs.Prelude.{ℕ, not, List, [], ◌∷◌, map, filter, find, Option, Some, None, if◌then◌else◌, option_map}
use Rattle.byte_fields.specs.Reading.{read_of}
use Rattle.key_kind.specs.declared.key.Holder.{Holder}
use Rattle.key_kind.specs.Names.{Name, same_name, name_before}
use Rattle.bucket_core.specs.declared.event.Event.TheVariants as events
use Rattle.bucket_core.specs.History.{History}
use Rattle.store_model.specs.declared.snapshot.SnapRow.{SnapRow}
use Rattle.store_model.specs.declared.snapshot.SnapBody.{SnapBody}
use Rattle.store_model.specs.ChainText.{snap_of}
use Rattle.store_model.specs.Library.{State, state_of}

-- a standing snapshot: its holder, and its symbols with their versions
pub record Snapshot : Type 0 where
  pub holder : Holder
  pub picks : List (Name × ℕ)

-- the snapshot of a body, without keys
abbrev pub snapshot_from : SnapBody → Snapshot
snapshot_from s = record { holder = s.holder; picks = map (λ (r : SnapRow). (r.symbol, r.version)) s.rows }

-- a list of names and values in order of the names, with one more in its place, and without one
abbrev pub insert_named : {X : Type 0} → Name → X → List (Name × X) → List (Name × X)
insert_named name x [] = (name, x) ∷ []
insert_named name x (y ∷ ys) =
    if same_name name y.0 then (name, x) ∷ ys else if name_before name y.0 then (name, x) ∷ y ∷ ys else y ∷ insert_named name x ys

-- a list of names and values without one name
abbrev pub without_named : {X : Type 0} → Name → List (Name × X) → List (Name × X)
without_named name = filter (λ y. not (same_name name y.0))

-- the body of a standing name
abbrev pub snap_body : History → Name → Option SnapBody
snap_body [] snap = None
snap_body (events.Name c name body ∷ h) snap = if same_name name snap then read_of (snap_of body) else snap_body h snap
snap_body (events.Unname c name ∷ h) snap = if same_name name snap then None else snap_body h snap
snap_body (_ ∷ h) snap = snap_body h snap

-- the snapshots with this one under its name, or with none under it where the body spells none
abbrev pub with_snapshot : Name → Option SnapBody → List (Name × Snapshot) → List (Name × Snapshot)
with_snapshot snap None standing = without_named snap standing
with_snapshot snap (Some s) standing = insert_named snap (snapshot_from s) standing

-- the standing snapshots, in order of their names
abbrev pub snapshots_of : History → List (Name × Snapshot)
snapshots_of [] = []
snapshots_of (events.Name c snap body ∷ h) = with_snapshot snap (read_of (snap_of body)) (snapshots_of h)
snapshots_of (events.Unname c snap ∷ h) = without_named snap (snapshots_of h)
snapshots_of (_ ∷ h) = snapshots_of h

-- names in order, with one more in its place
abbrev pub insert_name : Name → List Name → List Name
insert_name name [] = name ∷ []
insert_name name (n ∷ ns) = if same_name name n then n ∷ ns else if name_before name n then name ∷ n ∷ ns else n ∷ insert_name name ns

-- the symbols with a reference, in order
abbrev pub symbols_of : History → List Name
symbols_of [] = []
symbols_of (events.Refer c s was entry list ∷ h) = insert_name s (symbols_of h)
symbols_of (_ ∷ h) = symbols_of h

-- the symbols with a reference, the state of each symbol, and the standing snapshots
pub record Library : Type 0 where
  pub symbols : List Name
  pub state : Name → State
  pub snapshots : List (Name × Snapshot)

-- the library of a history
abbrev pub library_of : History → Library
library_of h = record { symbols = symbols_of h; state = state_of h; snapshots = snapshots_of h }

-- the snapshot that stands under a name
abbrev pub snapshot_named : Library → Name → Option Snapshot
snapshot_named l snap = option_map (λ y. y.1) (find (λ y. same_name snap y.0) l.snapshots)
