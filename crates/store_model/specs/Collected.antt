-- What a collector leaves behind.
--     IsClean             each stored tile, index and element that a client put was reached by a link or is an entry
--     HasNoneDead         no stored key is one that was needed and is so no more
--     IsWanted            a key that somebody needs
--     HasNothingLeft      the stored keys are exactly those
--     CollectsAll         in each lawful history where each client is clean and none is dead, nothing is left over
use Rattle.std.specs.Prelude.{◌≡◌, ◌⊎◌, ℕ, true, false, Contains, is_some}
use Rattle.key_kind.specs.declared.key.Key.{Key}
use Rattle.key_kind.specs.Names.{Name}
use Rattle.key_kind.specs.Keys.{reference_key, snapshot_key}
use Rattle.bucket_core.specs.History.{History, stored, reference}
use Rattle.store_model.specs.Library.{Piece, state_of, open_pieces, staged_key}
use Rattle.store_model.specs.Snapshots.{snap_body}
use Rattle.store_model.specs.Links.{is_entry, is_chained, is_reached, is_reached_by_needed, IsUnneeded, IsConsumedPiece}
use Rattle.store_model.specs.OwnPuts.{IsTableKind}
use Rattle.store_model.specs.Law.{IsLawful}

-- each stored tile, index and element that the client put was reached by a link or is the entry of a Refer
abbrev pub IsClean : History → ℕ → Type 0
IsClean h client = (key : Key) → is_some (stored h key) ≡ true → key.client ≡ client → IsTableKind key.kind → (is_reached h key ≡ true) ⊎ (is_entry h key.name key ≡ true)

-- an element of the symbol's chain before its last Compact, whether or not gate D lets it be dropped
pub record IsBehindCompact (h : History) (key : Key) : Type 0 where
  pub once : is_entry h key.name key ≡ true
  pub no_more : is_chained h key.name key ≡ false

-- no stored key is one that was needed and is so no more. Sweeps alone do not give it (IsSwept): the law lets a dead index go before its tiles, and
-- a dead tile is in no sweep's reach once its index is gone
abbrev pub HasNoneDead : History → Type 0
HasNoneDead h = (key : Key) → is_some (stored h key) ≡ true → (IsUnneeded h key ⊎ IsConsumedPiece h key ⊎ IsBehindCompact h key) → ⊥

-- a key that a live or held link reaches, an element of a chain, a reference, a standing name, or a staged piece that is not consumed
pub data IsWanted (h : History) (key : Key) : Type 0 where
  reached : is_reached_by_needed h key ≡ true → IsWanted h key
  chained : is_chained h key.name key ≡ true → IsWanted h key
  referred : (symbol : Name) → key ≡ reference_key symbol → is_some (reference h symbol) ≡ true → IsWanted h key
  named : (snap : Name) → key ≡ snapshot_key snap → is_some (snap_body h snap) ≡ true → IsWanted h key
  staged : (symbol : Name) (p : Piece) → key ≡ staged_key symbol p → Contains (open_pieces (state_of h symbol)) p → IsWanted h key

-- the stored keys are exactly those that somebody needs
pub record HasNothingLeft (h : History) : Type 0 where
  pub needed : (key : Key) → is_some (stored h key) ≡ true → IsWanted h key
  pub stored : (key : Key) → IsWanted h key → is_some (stored h key) ≡ true

-- where each client is clean and no stored key is dead, nothing is left over
abbrev pub CollectsAll : Type 0
CollectsAll = (h : History) → IsLawful h → ((client : ℕ) → IsClean h client) → HasNoneDead h → HasNothingLeft h
