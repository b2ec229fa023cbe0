-- How a look of a try at its base ends where it finds none.
--     MetCommit, RefusesMet      the newest commit of the symbol was met; the look that tells it failed
--     AnyBase, NoBase     every version is fit, or none
--     MetAt, RefusesBase  another's commit stands behind the place, and a key of the base there is gone; the look failed
--     IsDeclined, RefusesPlan     the library refuses at the place; so, or a look failed
use Rattle.std.specs.Prelude.{◌≡◌, ◌⊎◌, ℕ, length, Result, Err, ⊤}
use Rattle.frame_core.specs.declared.refusal.Refusal.{Refusal}
use Rattle.frame_core.specs.declared.refusal.Refusal.TheVariants as refusals
use Rattle.frame_core.specs.declared.refusal.Refused.{Refused}
use Rattle.key_kind.specs.Names.{Name}
use Rattle.key_kind.specs.Keys.{reference_key}
use Rattle.bucket_core.specs.History.{History, since, referred_at}
use Rattle.store_model.specs.Library.{State, Version, state_of}
use Rattle.reply_model.specs.Answering.{Answer}
use Rattle.reply_model.specs.Losses.{LosesBase}
use Rattle.version_chain.specs.States.{RefusesWalk}
use Rattle.frame_write.specs.Tries.{IsMet}

-- Moved, with the place at which the symbol's reference was set
pub record MetCommit (h : History) (symbol : Name) (refused : Refused) : Type 0 where
  pub place : refused.place ≡ since h (reference_key symbol)
  pub why : refused.why ≡ refusals.Moved refused.place

-- so, or the look at the reference failed
abbrev pub RefusesMet : ℕ → ℕ → History → History → Name → Refused → Type 0
RefusesMet before now old new symbol refused = RefusesWalk before now old new refused ⊎ MetCommit new symbol refused

-- whatever the index of the base tells
abbrev pub AnyBase : Version → Type 0
AnyBase v = ⊤

-- the index of the base was not read
abbrev pub NoBase : Version → Type 0
NoBase v = ⊥

-- Moved, with the place of another's commit behind a place, at which the reference shows; since that place a key of the base is gone
pub record MetAt (client : ℕ) (symbol : Name) (Fits : Version → Type 0) (from : ℕ) (h : History) (refused : Refused) : Type 0 where
  pub met : IsMet client symbol from h refused.place
  pub why : refused.why ≡ refusals.Moved refused.place
  pub shown : referred_at h symbol ≡ refused.place
  pub lost : LosesBase h symbol Fits from (length h)

-- so, or a look failed
abbrev pub RefusesBase : ℕ → Name → (Version → Type 0) → ℕ → ℕ → ℕ → History → History → Refused → Type 0
RefusesBase client symbol Fits from before now old new refused = RefusesWalk before now old new refused ⊎ MetAt client symbol Fits from new refused

-- the library refuses so in this history, at its place
pub record IsDeclined (h : History) (symbol : Name) (answer : State → Result Answer Refusal) (refused : Refused) : Type 0 where
  pub place : refused.place ≡ length h
  pub answered : answer (state_of h symbol) ≡ Err refused.why

-- a look failed behind the history, or the library refuses in it
abbrev pub RefusesPlan : ℕ → Name → (Version → Type 0) → (State → Result Answer Refusal) → History → ℕ → ℕ → History → History → Refused → Type 0
RefusesPlan client symbol Fits answer h before now old new refused = RefusesBase client symbol Fits (length h) before now old new refused ⊎ IsDeclined h symbol answer refused
