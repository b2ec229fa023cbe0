-- Where and why a refused call stopped.
--     refused_by          the refusal of a command whose call was refused
--     StopsAt             the place of a refusal, and what stands after it
--     HasCause            the causes of the refusals of a store's call
use Rattle.std.specs.Prelude.{◌≡◌, ℕ, ◌≤◌, Bool, true, false, ◌++◌, length, ⊤, if◌then◌else◌}
use Rattle.base_types.specs.Faults.{Rose}
use Rattle.frame_core.specs.declared.refusal.Refusal.{Refusal}
use Rattle.frame_core.specs.declared.refusal.Refusal.TheVariants as refusals
use Rattle.frame_core.specs.declared.refusal.Refused.{Refused}
use Rattle.bucket_core.specs.declared.answer.StoreErr.{StoreErr}
use Rattle.bucket_core.specs.declared.answer.StoreErr.TheVariants as errs
use Rattle.bucket_core.specs.History.{History}
use Rattle.bucket_core.specs.Calls.{IsFull}
use Rattle.version_chain.specs.Traces.{own_of}

-- a call at this place was refused; Spent tells its own place
abbrev pub refused_by : ℕ → StoreErr → Refused
refused_by place errs.NoMemory = record { place = place; why = refusals.NoMemory }
refused_by place (errs.Spent count) = record { place = count; why = refusals.Spent count }
refused_by place _ = record { place = place; why = refusals.StoreFault }

-- the store failed
abbrev pub is_fault : Refusal → Bool
is_fault refusals.StoreFault = true
is_fault _ = false

-- the place lies in what was added, and no own event stands after it, but for one where the store failed
pub record StopsAt (client : ℕ) (old new : History) (refused : Refused) : Type 0 where
  pub after : History
  pub before : History
  pub split : new ≡ after ++ before
  pub place : refused.place ≡ length before
  pub later : length old ≤ length before
  pub few : length (own_of client after) ≤ (if is_fault refused.why then 1 else 0)

-- want of memory; the count of faults rose; the store is full, at this place
abbrev pub HasCause : ℕ → ℕ → ℕ → History → Refused → Refusal → Type 0
HasCause limit before now new refused refusals.NoMemory = ⊤
HasCause limit before now new refused refusals.StoreFault = Rose before now
HasCause limit before now new refused (refusals.Spent count) = IsFull limit new count × (refused.place ≡ count)
HasCause limit before now new refused _ = ⊥
