-- The lists of a library, and what they have to do with what it tells of each symbol and each name.
--     NamesRise           names in ascending order, none twice
--     ListsAgree          a symbol is listed where it has a reference, and a snapshot where its name stands
--     AllListsAgree       they do in every history
use Rattle.std.specs.Prelude.{◌≡◌, true, List, [], ◌∷◌, map, option_map, ⊤}
use Rattle.std.specs.List.{list_any}
use Rattle.key_kind.specs.Names.{Name, same_name, name_before}
use Rattle.bucket_core.specs.History.{History}
use Rattle.store_model.specs.Library.{state_of}
use Rattle.store_model.specs.Snapshots.{Snapshot, snap_body, snapshot_from, snapshot_named, library_of, symbols_of, snapshots_of}

-- names in ascending order, none twice
abbrev pub NamesRise : List Name → Type 0
NamesRise [] = ⊤
NamesRise (a ∷ []) = ⊤
NamesRise (a ∷ b ∷ more) = (name_before a b ≡ true) × NamesRise (b ∷ more)

-- the names of the standing snapshots
abbrev pub names_standing : History → List Name
names_standing h = map {B = Name} (λ (y : Name × Snapshot). y.0) (snapshots_of h)

-- a library's lists name exactly what is there, in ascending order
pub record ListsAgree (h : History) : Type 0 where
  -- a symbol is listed exactly where it has a reference
  pub symbols : (symbol : Name) → list_any (same_name symbol) (symbols_of h) ≡ (state_of h symbol).has_reference
  -- under a name the list has what stands under it
  pub snapshots : (snap : Name) → snapshot_named (library_of h) snap ≡ option_map snapshot_from (snap_body h snap)
  pub symbols_rise : NamesRise (symbols_of h)
  pub snapshots_rise : NamesRise (names_standing h)

-- the lists agree in every history
abbrev pub AllListsAgree : Type 0
AllListsAgree = (h : History) → ListsAgree h
