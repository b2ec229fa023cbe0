-- A snapshot that shows one moment.
--     base_number         the number of a symbol's base
--     IsSettledIn         each version of a snapshot is its symbol's base in one history
--     LooksSettle         a second look at a held symbol shows that the held version was its base all the time
use Rattle.std.specs.Prelude.{◌≡◌, ℕ, true, ◌++◌, Option, Some, option_map}
use Rattle.std.specs.List.{AllByRecursion}
use Rattle.key_kind.specs.Names.{Name}
use Rattle.bucket_core.specs.History.{History}
use Rattle.store_model.specs.declared.snapshot.SnapRow.{SnapRow}
use Rattle.store_model.specs.declared.snapshot.SnapBody.{SnapBody}
use Rattle.store_model.specs.Library.{State, Version, state_of, is_live, base_of, next_number}

-- the number of the newest live version
abbrev pub base_number : State → Option ℕ
base_number st = option_map (λ (v : Version). v.number) (base_of st)

-- the snapshot's versions are the bases of their symbols in this history
abbrev pub IsSettledIn : History → SnapBody → Type 0
IsSettledIn h snapshot = AllByRecursion (λ (r : SnapRow). base_number (state_of h r.symbol) ≡ Some r.version) snapshot.rows

-- a version that was the base when it was held, and behind which by a second look no version was linked and it was not buried, was the
-- base at each place between
abbrev pub LooksSettle : Type 0
LooksSettle = (h more later : History) (symbol : Name) (held : ℕ) → base_number (state_of h symbol) ≡ Some held
    → next_number (state_of (later ++ (more ++ h)) symbol) ≡ next_number (state_of h symbol) → is_live (state_of (later ++ (more ++ h)) symbol) held ≡ true
    → base_number (state_of (more ++ h) symbol) ≡ Some held
