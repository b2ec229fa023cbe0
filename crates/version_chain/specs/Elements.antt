-- What the elements of a chain tell, step by step.
--     next_of             the entry before some elements
--     IsCollected         the state that the elements of a chain give
use Rattle.std.specs.Prelude.{◌≡◌, ℕ, ◌-◌, List, length, map, reverse, Option, Some, None, slice_get}
use Rattle.key_kind.specs.declared.key.Key.{Key}
use Rattle.store_model.specs.declared.chain.Entry.{Entry}
use Rattle.store_model.specs.PlainWalks.{tombs_in, rows_in, pieces_in, holds_in}
use Rattle.version_chain.specs.declared.state.SymbolState.{SymbolState}
use Rattle.version_chain.specs.States.{hold_of}

-- the entry before an element, or the newest one before any was read
abbrev pub entry_before : Key → Option Entry → Option Key
entry_before newest None = Some newest
entry_before newest (Some element) = element.prev

-- the entry before those elements, of which the last is the oldest
abbrev pub next_of : Key → List Entry → Option Key
next_of newest elements = entry_before newest (slice_get elements (length elements - 1))

-- the state that these elements, the newest first, give with this reference and place
pub record IsCollected (newest : Option Key) (elements : List Entry) (at : ℕ) (state : SymbolState) : Type 0 where
  pub was : state.was ≡ newest
  pub links : state.links ≡ reverse (rows_in elements)
  pub tombs : state.tombs ≡ tombs_in elements
  pub holds : map hold_of state.holds ≡ holds_in elements
  pub consumed : state.consumed ≡ pieces_in elements
  pub place : state.place ≡ at
