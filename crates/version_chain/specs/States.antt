-- What a walk answers.
--     IsStateOf           the state of a symbol in a history
--     IsStateAt           its state at a place of a history
--     newest_link, live_link      the live link of the greatest version, and of a version
--     RefusesWalk         the refusals of a walk
use Rattle.std.specs.Prelude.{◌≡◌, ℕ, ◌≤◌, Bool, not, List, ◌++◌, length, map, reverse, Option, None, ⊤, nat_eq, find, if◌then◌else◌}
use Rattle.std.specs.List.{list_any}
use Rattle.base_types.specs.Faults.{Rose}
use Rattle.frame_core.specs.declared.refusal.Refusal.{Refusal}
use Rattle.frame_core.specs.declared.refusal.Refusal.TheVariants as refusals
use Rattle.frame_core.specs.declared.refusal.Refused.{Refused}
use Rattle.key_kind.specs.Names.{Name}
use Rattle.bucket_core.specs.History.{History, reference}
use Rattle.store_model.specs.declared.chain.LinkRow.{LinkRow}
use Rattle.store_model.specs.declared.hold.HoldRow.{HoldRow}
use Rattle.store_model.specs.Library.{Hold, state_of}
use Rattle.store_model.specs.Links.{Linked, links}
use Rattle.version_chain.specs.declared.state.SymbolState.{SymbolState}

-- a hold, as the library sees it
abbrev pub hold_of : HoldRow → Hold
hold_of row = record { holder = row.holder; version = row.version }

-- the state of the symbol in the history: its reference; its links, the oldest first, and so in ascending order of version; and
-- what is buried, held and consumed, each with the newest first
pub record IsStateOf (h : History) (symbol : Name) (state : SymbolState) : Type 0 where
  pub was : state.was ≡ reference h symbol
  pub links : state.links ≡ reverse (map (λ (l : Linked). l.row) (links h symbol))
  pub tombs : state.tombs ≡ (state_of h symbol).buried
  pub holds : map hold_of state.holds ≡ (state_of h symbol).holds
  pub consumed : state.consumed ≡ (state_of h symbol).consumed

-- the state of the symbol at a place of the history: before the events that came later
pub record IsStateAt (h : History) (symbol : Name) (state : SymbolState) : Type 0 where
  pub later : History
  pub before : History
  pub split : h ≡ later ++ before
  pub place : state.place ≡ length before
  pub is : IsStateOf before symbol state

-- the place lies in what a call has added to the old history, its ends included
pub record IsWithin (old new : History) (place : ℕ) : Type 0 where
  pub from : length old ≤ place
  pub to : place ≤ length new

-- ---- live links

-- the version is buried
abbrev pub is_tomb : List ℕ → ℕ → Bool
is_tomb tombs version = list_any (nat_eq version) tombs

-- the live link of the greatest version, where the links rise
abbrev pub newest_link : SymbolState → Option LinkRow
newest_link state = find (λ row. not (is_tomb state.tombs row.version)) (reverse state.links)

-- the live link of a version
abbrev pub live_link : SymbolState → ℕ → Option LinkRow
live_link state version = if is_tomb state.tombs version then None else find (λ row. nat_eq version row.version) state.links

-- ---- refusals

-- a fault comes only where the count of faults rose; no other refusal than this and want of memory
abbrev pub IsLookRefusal : ℕ → ℕ → Refusal → Type 0
IsLookRefusal before now refusals.StoreFault = Rose before now
IsLookRefusal before now refusals.NoMemory = ⊤
IsLookRefusal before now _ = ⊥

-- the place is that of the bucket before the call that refused
pub record RefusesWalk (before now : ℕ) (old new : History) (refused : Refused) : Type 0 where
  pub why : IsLookRefusal before now refused.why
  pub place : IsWithin old new refused.place
