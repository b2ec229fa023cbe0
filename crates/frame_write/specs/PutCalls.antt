-- What several calls of a try did.
--     StoppedCalls        several calls of which one was refused
--     DidPuts, DidDrops   what several puts and several drops did
--     DidUndo             how a try ended that was met and drops its keys again
use Rattle.std.specs.Prelude.{◌≡◌, ◌⊎◌, ℕ, Bool, List, map, take, Result, Ok, Err}
use Rattle.frame_core.specs.declared.refusal.Refusal.TheVariants as refusals
use Rattle.frame_core.specs.declared.refusal.Refused.{Refused}
use Rattle.key_kind.specs.declared.key.Key.{Key}
use Rattle.bucket_core.specs.declared.event.Event.{Event}
use Rattle.bucket_core.specs.History.{History, Bytes}
use Rattle.store_model.specs.OwnPuts.{AreOwnPuts}
use Rattle.reply_model.specs.Tries.{put_of, drop_of}
use Rattle.version_chain.specs.Traces.{Went}
use Rattle.version_chain.specs.Stops.{StopsAt, HasCause}

-- several calls, with these events, of which one was refused: the first ones stand
pub record StoppedCalls (client : ℕ) (sole : Bool) (limit before now : ℕ) (old new : History) (es : List Event) (refused : Refused) : Type 0 where
  pub count : ℕ
  pub went : Went client sole old new (take count es)
  pub stops : StopsAt client old new refused
  pub cause : HasCause limit before now new refused refused.why

-- several puts, all of which stand afterwards
pub record PutAll (client : ℕ) (sole : Bool) (old new : History) (puts : List (Key × Bytes)) : Type 0 where
  pub went : Went client sole old new (map (put_of client) puts)
  pub own : AreOwnPuts new client puts

-- several puts
abbrev pub DidPuts : ℕ → Bool → ℕ → ℕ → ℕ → History → History → List (Key × Bytes) → Result Unit Refused → Type 0
DidPuts client sole limit before now old new puts (Ok done) = PutAll client sole old new puts
DidPuts client sole limit before now old new puts (Err refused) = StoppedCalls client sole limit before now old new (map (put_of client) puts) refused

-- several drops
abbrev pub DidDrops : ℕ → Bool → ℕ → ℕ → ℕ → History → History → List (Key × Bytes) → Result Unit Refused → Type 0
DidDrops client sole limit before now old new puts (Ok done) = Went client sole old new (map (drop_of client) puts)
DidDrops client sole limit before now old new puts (Err refused) = StoppedCalls client sole limit before now old new (map (drop_of client) puts) refused

-- the keys were dropped, and the try was met by the commit of this place; or a drop was refused
abbrev pub DidUndo : ℕ → Bool → ℕ → ℕ → ℕ → History → History → List (Key × Bytes) → ℕ → Refused → Type 0
DidUndo client sole limit before now old new puts met refused =
    (Went client sole old new (map (drop_of client) puts) × (refused ≡ record { place = met; why = refusals.Moved met }))
    ⊎ StoppedCalls client sole limit before now old new (map (drop_of client) puts) refused
