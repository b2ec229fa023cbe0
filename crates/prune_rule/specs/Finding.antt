-- What the looks of a reclaim answer, before its first drop.
--     IsFindRefusal, RefusesFinding      the refusals of one try
--     DidLook             what one try found
--     RefusesDead         the refusals of all tries
use Rattle.std.specs.Prelude.{◌≡◌, ◌⊎◌, ℕ, ◌≤◌, Bool, false, length, ⊤, Result, Ok, Err, ◌<◌}
use Rattle.base_types.specs.Faults.{Rose}
use Rattle.frame_core.specs.declared.refusal.Refusal.{Refusal}
use Rattle.frame_core.specs.declared.refusal.Refusal.TheVariants as refusals
use Rattle.frame_core.specs.declared.refusal.Refused.{Refused}
use Rattle.key_kind.specs.Names.{Name}
use Rattle.bucket_core.specs.History.{History, history_at, referred_at}
use Rattle.reply_model.specs.Moves.{AreMetTries}
use Rattle.reply_model.specs.Losses.{LosesIndex}
use Rattle.bucket_core.specs.Laws.{Looks}
use Rattle.store_model.specs.Law.{IsClaimed}
use Rattle.store_model.specs.Library.{state_of}
use Rattle.version_chain.specs.Traces.{met_in}
use Rattle.version_chain.specs.States.{IsWithin}
use Rattle.version_chain.specs.Marking.{IsMet}
use Rattle.prune_rule.specs.declared.finding.Looked.{Looked}
use Rattle.prune_rule.specs.declared.finding.Looked.TheVariants as looks
use Rattle.prune_rule.specs.DeadKeys.{FoundDead}

-- of one try: the symbol has no reference in this history; a fault comes only where the count of faults rose
abbrev pub IsFindRefusal : ℕ → ℕ → History → Name → Refusal → Type 0
IsFindRefusal before now h symbol refusals.NoSuchSymbol = (state_of h symbol).has_reference ≡ false
IsFindRefusal before now h symbol refusals.StoreFault = Rose before now
IsFindRefusal before now h symbol refusals.NoMemory = ⊤
IsFindRefusal before now h symbol _ = ⊥

-- the history is the one at the refusal's place, which is a place of the call
pub record RefusesFinding (before now : ℕ) (old new : History) (symbol : Name) (refused : Refused) : Type 0 where
  pub place : IsWithin old new refused.place
  pub why : IsFindRefusal before now (history_at new refused.place) symbol refused.why

-- the walk was at a place, behind which the reference was set, and since when an index of a live or held version is lost
pub record LooksLost (symbol : Name) (old new : History) (now : ℕ) : Type 0 where
  pub look : ℕ
  pub begins : length old ≤ look
  pub between : look < now
  pub shown : referred_at new symbol ≡ now
  pub lost : LosesIndex new symbol look (length new)

-- so many tries were met, the last by the Refer of this place
abbrev pub MetLooks : ℕ → Name → ℕ → History → History → ℕ → Type 0
MetLooks client symbol count old new now = AreMetTries new client symbol false (λ q. ⊥) (LosesIndex new symbol) count (length old) (length new) now

-- one try found the dead keys, or met another's commit
abbrev pub DidLook : ℕ → Name → ℕ → ℕ → History → History → Result Looked Refused → Type 0
DidLook client symbol before now old new (Ok (looks.Found dead)) = FoundDead old new symbol dead
DidLook client symbol before now old new (Ok (looks.Met place)) = IsMet client symbol (length old) new place × LooksLost symbol old new place
DidLook client symbol before now old new (Err refused) = RefusesFinding before now old new symbol refused

-- each of so many tries met another's commit, the last the one at the refusal's place
pub record MetAll (client : ℕ) (sole : Bool) (symbol : Name) (tries : ℕ) (old new : History) (refused : Refused) : Type 0 where
  pub looks : Looks IsClaimed client sole old new
  pub enough : tries ≤ met_in client symbol looks.others
  pub each : MetLooks client symbol tries old new refused.place
  pub why : refused.why ≡ refusals.Moved refused.place
  pub met : IsMet client symbol (length old) new refused.place

-- the refusals of all tries: that of one, or all were met
abbrev pub RefusesDead : ℕ → Bool → Name → ℕ → ℕ → ℕ → History → History → Refused → Type 0
RefusesDead client sole symbol tries before now old new refused = RefusesFinding before now old new symbol refused ⊎ MetAll client sole symbol tries old new refused
