-- What one put or drop of a try did.
--     StoppedCall         a refused call
--     DidCall             what the call did
--     DidUndo             how a try ended that was met and takes back what it put
use Rattle.std.specs.Prelude.{◌≡◌, ◌⊎◌, ℕ, Bool, List, [], ◌∷◌, Result, Ok, Err}
use Rattle.frame_core.specs.declared.refusal.Refusal.TheVariants as refusals
use Rattle.frame_core.specs.declared.refusal.Refused.{Refused}
use Rattle.bucket_core.specs.declared.event.Event.{Event}
use Rattle.bucket_core.specs.History.{History}
use Rattle.bucket_core.specs.Laws.{Adds}
use Rattle.store_model.specs.Law.{IsClaimed}
use Rattle.version_chain.specs.Traces.{Went}
use Rattle.version_chain.specs.Stops.{StopsAt, HasCause}

-- a refused call, and its own events: none, or this one
pub record StoppedCall (client : ℕ) (sole : Bool) (limit before now : ℕ) (old new : History) (e : Event) (refused : Refused) : Type 0 where
  pub own : List Event
  pub is : (own ≡ []) ⊎ (own ≡ e ∷ [])
  pub went : Went client sole old new own
  pub stops : StopsAt client old new refused
  pub cause : HasCause limit before now new refused refused.why

-- one call
abbrev pub DidCall : ℕ → Bool → ℕ → ℕ → ℕ → History → History → Event → Result Unit Refused → Type 0
DidCall client sole limit before now old new e (Ok done) = Adds IsClaimed client sole old new e
DidCall client sole limit before now old new e (Err refused) = StoppedCall client sole limit before now old new e refused

-- the Drop stands, and the try was met by the commit of this place; or the Drop was refused
abbrev pub DidUndo : ℕ → Bool → ℕ → ℕ → ℕ → History → History → Event → ℕ → Refused → Type 0
DidUndo client sole limit before now old new e met refused =
    (Adds IsClaimed client sole old new e × (refused ≡ record { place = met; why = refusals.Moved met }))
    ⊎ StoppedCall client sole limit before now old new e refused
