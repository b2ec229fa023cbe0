-- What one try of a burial did over a walked state.
--     MayBury             when it may be made
--     IsTriedBy           how it ended, where its commit ended so
--     DidDecline, DidFindNone, DidCommit, DidOn      it was refused; nothing is to bury; its commit was tried
use Rattle.std.specs.Prelude.{◌≡◌, ◌⊎◌, ℕ, Bool, List, [], length, Some, None, Result, Ok, Err}
use Rattle.frame_core.specs.declared.refusal.Refusal.{Refusal}
use Rattle.frame_core.specs.declared.refusal.Refused.{Refused}
use Rattle.key_kind.specs.Names.{Name}
use Rattle.bucket_core.specs.declared.event.Change.TheVariants as changes
use Rattle.bucket_core.specs.History.{History}
use Rattle.store_model.specs.Commits.{IsFilled}
use Rattle.version_chain.specs.declared.state.SymbolState.{SymbolState}
use Rattle.version_chain.specs.Marking.{MayMark, DidMark}
use Rattle.prune_rule.specs.declared.choosing.Wish.{Wish}
use Rattle.prune_rule.specs.declared.burying.Tried.{Tried}
use Rattle.prune_rule.specs.declared.burying.Tried.TheVariants as tried
use Rattle.prune_rule.specs.Burials.{state_answer, Declines}
use Rattle.prune_rule.specs.Tries.{IsMetBy}

-- what is to bury of the state may be buried over it
abbrev pub MayBury : History → ℕ → Name → Wish → SymbolState → Type 0
MayBury seen client symbol wish state = (numbers : List ℕ) → IsFilled numbers → state_answer wish state ≡ Ok numbers → MayMark seen client symbol state (changes.Removed numbers)

-- so many versions are buried at the place; or the refusal is judged
abbrev pub IsTriedBy : ℕ → Result ℕ Refused → Result Tried Refused → Type 0
IsTriedBy versions (Ok place) result = result ≡ Ok (tried.Done (record { versions = versions; place = place; commit = Some place }))
IsTriedBy versions (Err refused) result = IsMetBy refused result

-- no event, since the choice is refused
pub record DidDecline (wish : Wish) (state : SymbolState) (old new : History) (result : Result Tried Refused) : Type 0 where
  pub same : new ≡ old
  pub why : Refusal
  pub declined : Declines (state_answer wish state) why
  pub is : result ≡ Err (record { place = state.place; why = why })

-- no event, since nothing is to bury
pub record DidFindNone (wish : Wish) (state : SymbolState) (old new : History) (result : Result Tried Refused) : Type 0 where
  pub same : new ≡ old
  pub answered : state_answer wish state ≡ Ok []
  pub is : result ≡ Ok (tried.Done (record { versions = 0; place = state.place; commit = None }))

-- the commit of what is to bury was tried, at least of one version
pub record DidCommit (client : ℕ) (sole : Bool) (symbol : Name) (wish : Wish) (state : SymbolState) (limit before now : ℕ) (old new : History) (result : Result Tried Refused) : Type 0 where
  pub numbers : List ℕ
  pub filled : IsFilled numbers
  pub answered : state_answer wish state ≡ Ok numbers
  pub marked : Result ℕ Refused
  pub did : DidMark client sole symbol state.place (changes.Removed numbers) limit before now old new marked
  pub judged : IsTriedBy (length numbers) marked result

-- one of them
abbrev pub DidOn : ℕ → Bool → Name → Wish → SymbolState → ℕ → ℕ → ℕ → History → History → Result Tried Refused → Type 0
DidOn client sole symbol wish state limit before now old new result =
    DidDecline wish state old new result ⊎ DidFindNone wish state old new result ⊎ DidCommit client sole symbol wish state limit before now old new result
