-- What an append, an update and a delete of a range answer, as replies of their client.
--     IsLegalAppend, IsLegalUpdate      legal for each session that brings the frame
--     Runs, IsLegalDelete  legal for each session of the client
use Rattle.std.specs.Prelude.{◌≡◌, ℕ, ℤ, Bool, Option, Result}
use Rattle.frame_core.specs.declared.refusal.Refused.{Refused}
use Rattle.frame_core.specs.Ranges.{Range}
use Rattle.frame_core.specs.Frames.{Frame}
use Rattle.key_kind.specs.Names.{Name}
use Rattle.bucket_core.specs.History.{History}
use Rattle.expr_clause.specs.declared.command.Command.TheVariants as commands
use Rattle.reply_model.specs.Answering.{Session, stamp_of}
use Rattle.frame_write.specs.declared.options.Committed.{Committed}
use Rattle.frame_write.specs.declared.options.Options.{Options}
use Rattle.frame_write.specs.Writes.{Brings, IsLegalCall}

-- for each session that brings the frame the reply to its append is legal
abbrev pub IsLegalAppend : ℕ → ℕ → Name → Frame → Options → ℕ → ℕ → History → History → Result Committed Refused → Type 0
IsLegalAppend limit client symbol frame options before now old new result =
    (s : Session) (n : ℕ) (asked : Option ℤ) → Brings s client options.tries n frame asked options.at → IsLegalCall s (commands.Append symbol n asked options.prune) limit before now old new result

-- for each session that brings the frame the reply to its update is legal
abbrev pub IsLegalUpdate : ℕ → ℕ → Name → Frame → Option Range → Bool → Options → ℕ → ℕ → History → History → Result Committed Refused → Type 0
IsLegalUpdate limit client symbol frame range upsert options before now old new result =
    (s : Session) (n : ℕ) (asked : Option ℤ) → Brings s client options.tries n frame asked options.at → IsLegalCall s (commands.Update symbol n range upsert asked options.prune) limit before now old new result

-- a session of this client, with so many tries; a command of it that asks for this stamp has that one
pub record Runs (s : Session) (client tries : ℕ) (asked : Option ℤ) (at : ℤ) : Type 0 where
  pub client_is : s.client ≡ client
  pub tries_are : s.tries ≡ tries
  pub stamp_is : stamp_of s asked ≡ at

-- for each session of the client the reply to its delete of a range is legal
abbrev pub IsLegalDelete : ℕ → ℕ → Name → Range → Options → ℕ → ℕ → History → History → Result Committed Refused → Type 0
IsLegalDelete limit client symbol range options before now old new result =
    (s : Session) (asked : Option ℤ) → Runs s client options.tries asked options.at → IsLegalCall s (commands.DeleteRange symbol range asked options.prune) limit before now old new result
