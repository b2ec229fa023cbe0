-- What is promised of every history that only lawful events make.
--     InEachLawful        a fact holds in every lawful history
--     EventsKeep          a fact is kept by each event that may follow
--     BeginningsAreLawful      each beginning of a lawful history is lawful, so that a client may stop behind any event
--     ChainsCanBeFollowed      in each lawful history a chain can be followed from its symbol's reference, element by element
use Rattle.std.specs.Prelude.{◌≡◌, ℕ, suc, ◌∷◌, ◌++◌, Some, slice_get}
use Rattle.key_kind.specs.Names.{Name}
use Rattle.bucket_core.specs.declared.event.Event.{Event}
use Rattle.bucket_core.specs.History.{History, reference}
use Rattle.bucket_core.specs.Laws.{MayFollow}
use Rattle.store_model.specs.declared.chain.Entry.{Entry}
use Rattle.store_model.specs.Links.{chain_entries}
use Rattle.store_model.specs.Law.{IsClaimed, IsLawful}
use Rattle.store_model.specs.Walks.{chain}

-- the fact holds in every lawful history
abbrev pub InEachLawful : (History → Type 0) → Type 0
InEachLawful fact = (h : History) → IsLawful h → fact h

-- the fact is kept by each event that may follow
abbrev pub EventsKeep : (History → Type 0) → Type 0
EventsKeep fact = (h : History) (e : Event) → MayFollow IsClaimed h e → fact h → fact (e ∷ h)

-- each beginning of a lawful history is lawful
abbrev pub BeginningsAreLawful : Type 0
BeginningsAreLawful = (more h : History) → IsLawful (more ++ h) → IsLawful h

-- a chain can be followed: its newest entry is the reference, and each of its elements names the entry before its own, the last one none
pub record CanBeFollowed (h : History) (symbol : Name) : Type 0 where
  pub newest : slice_get (chain_entries h symbol) 0 ≡ reference h symbol
  pub before : (i : ℕ) (e : Entry) → slice_get (chain h symbol) i ≡ Some e → e.prev ≡ slice_get (chain_entries h symbol) (suc i)

-- in each lawful history the chain of each symbol can
abbrev pub ChainsCanBeFollowed : Type 0
ChainsCanBeFollowed = (h : History) → IsLawful h → (symbol : Name) → CanBeFollowed h symbol
