-- What a reclaim answers, as a reply of its client.
--     DropsThese          the keys are those of the call's own events, which are all drops
--     keys_of_kind, reply_of      the result as a reply
--     IsLegalReclaim      the reply is legal for each session of the client with these tries
use Rattle.std.specs.Prelude.{◌≡◌, ℕ, Bool, true, List, [], ◌++◌, length, map, count_by, None, Result, Ok, Err}
use Rattle.base_types.specs.Faults.{Rose}
use Rattle.frame_core.specs.declared.refusal.Refused.{Refused}
use Rattle.key_kind.specs.declared.key.KeyKind.{KeyKind}
use Rattle.key_kind.specs.declared.key.KeyKind.TheVariants as kinds
use Rattle.key_kind.specs.declared.key.Key.{Key}
use Rattle.key_kind.specs.Names.{Name}
use Rattle.key_kind.specs.Keys.{same_kind}
use Rattle.bucket_core.specs.declared.event.Event.TheVariants as events
use Rattle.bucket_core.specs.History.{History}
use Rattle.expr_clause.specs.declared.command.Command.TheVariants as commands
use Rattle.version_chain.specs.Traces.{own_of}
use Rattle.reply_model.specs.declared.outcome.Outcome.TheVariants as outcomes
use Rattle.reply_model.specs.declared.reply.Reply.{Reply}
use Rattle.reply_model.specs.Answering.{Session}
use Rattle.reply_model.specs.Legal.{IsLegalReply}
use Rattle.prune_rule.specs.declared.reclaiming.Freed.{Freed}

-- the client's events that were added are drops of these keys, in their order
pub record DropsThese (client : ℕ) (old new : History) (keys : List Key) : Type 0 where
  pub more : History
  pub is : new ≡ more ++ old
  pub own : own_of client more ≡ map (λ key. events.Drop client key) keys

-- how many of the keys are of this kind
abbrev pub keys_of_kind : KeyKind → List Key → ℕ
keys_of_kind kind keys = count_by (λ (key : Key). same_kind key.kind kind) keys

-- the result as a reply
abbrev pub reply_of : Result Freed Refused → Reply
reply_of (Ok freed) = record {
  place = freed.place;
  listed = None;
  commits = [];
  left = [];
  outcome = outcomes.Freed (keys_of_kind kinds.TableData freed.keys) (keys_of_kind kinds.TableIndex freed.keys) (keys_of_kind kinds.Staged freed.keys);
}
reply_of (Err refused) = record { place = refused.place; listed = None; commits = []; left = []; outcome = outcomes.Refused refused.why }

-- for each session of this client with so many tries the reply is legal, with the window that the call added and a flag that is set where the faults rose
abbrev pub IsLegalReclaim : ℕ → ℕ → ℕ → Name → ℕ → ℕ → History → History → Result Freed Refused → Type 0
IsLegalReclaim limit client tries symbol before now old new result =
    (s : Session) (faulted : Bool) → s.client ≡ client → s.tries ≡ tries → (Rose before now → faulted ≡ true)
    → IsLegalReply new (record { session = s; limit = limit }) (commands.Reclaim symbol) (reply_of result) (record { start = length old; stop = length new; faulted = faulted })
