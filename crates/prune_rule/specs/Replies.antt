-- What a burial answers, as a reply of its client.
--     commits_of, reply_to      the result as a reply
--     IsLegalBurial       the reply is legal for each session of the client with these tries
use Rattle.std.specs.Prelude.{◌≡◌, ℕ, Bool, true, List, [], ◌∷◌, length, Option, Some, None, Result, Ok, Err}
use Rattle.base_types.specs.Faults.{Rose}
use Rattle.frame_core.specs.declared.refusal.Refused.{Refused}
use Rattle.key_kind.specs.Names.{Name}
use Rattle.bucket_core.specs.History.{History}
use Rattle.reply_model.specs.declared.outcome.Outcome.{Outcome}
use Rattle.reply_model.specs.declared.outcome.Outcome.TheVariants as outcomes
use Rattle.reply_model.specs.declared.reply.Reply.{Reply}
use Rattle.reply_model.specs.Kinds.{Burial, burial_command}
use Rattle.reply_model.specs.CommitAnswers.{buried_outcome}
use Rattle.reply_model.specs.Answering.{Session}
use Rattle.reply_model.specs.Legal.{IsLegalReply}
use Rattle.prune_rule.specs.declared.burying.Buried.{Buried}

-- the place of the commit, if there is one
abbrev pub commits_of : Option ℕ → List ℕ
commits_of None = []
commits_of (Some place) = place ∷ []

-- the result as a reply, where so many buried versions are this outcome
abbrev pub reply_to : (ℕ → Outcome) → Result Buried Refused → Reply
reply_to outcome (Ok done) = record { place = done.place; listed = None; commits = commits_of done.commit; left = []; outcome = outcome done.versions }
reply_to outcome (Err refused) = record { place = refused.place; listed = None; commits = []; left = []; outcome = outcomes.Refused refused.why }

-- for each session of this client with so many tries the reply is legal, with the window that the call added and a flag that is set where the faults rose
abbrev pub IsLegalBurial : ℕ → ℕ → ℕ → Name → Burial → ℕ → ℕ → History → History → Result Buried Refused → Type 0
IsLegalBurial limit client tries symbol burial before now old new result =
    (s : Session) (faulted : Bool) → s.client ≡ client → s.tries ≡ tries → (Rose before now → faulted ≡ true)
    → IsLegalReply new (record { session = s; limit = limit }) (burial_command symbol burial) (reply_to (buried_outcome burial) result)
    (record { start = length old; stop = length new; faulted = faulted })
