-- What one step of a library does.
--     carries, is_carried_out      the commands that a step carries out
--     reads_or_makes      the kinds of command that read or make a version
--     frame_named, IsNamed      the frame that a command names, which is to be there
--     reply_with, plain_reply, refusal_reply      replies that name a place, an outcome, and commits or none
--     client_of           what the replies of a library are judged by
--     IsLegalIn           a reply is legal for the window that a step added
--     IsLegalForAll       it is legal whatever else the client's session brings
--     IsLegalWithTries    it is legal whatever the session brings beside its tries
--     IsIsolatedIn        alone on its symbol, a step answers what it would answer where its window begins
--     LooksFirst, IsStepAlone      where nobody else makes events, a reclaim looked where it began, and a step is that of one client alone
use Rattle.std.specs.Prelude.{◌≡◌, ℕ, ◌<◌, Bool, true, false, ◌&&◌, List, [], map, length, Option, Some, None, IfSome}
use Rattle.base_types.specs.Faults.{Rose}
use Rattle.frame_core.specs.declared.raw.RawFrame.{RawFrame}
use Rattle.frame_core.specs.declared.refusal.Refused.{Refused}
use Rattle.frame_core.specs.RawFrames.{table_of}
use Rattle.bucket_core.specs.History.{History}
use Rattle.store_model.specs.Law.{IsLawful}
use Rattle.expr_clause.specs.declared.clause.Clause.{Clause}
use Rattle.expr_clause.specs.declared.command.Command.{Command}
use Rattle.expr_clause.specs.declared.command.Command.TheVariants as commands
use Rattle.expr_clause.specs.Fitting.{fits}
use Rattle.reply_model.specs.declared.outcome.Outcome.{Outcome}
use Rattle.reply_model.specs.declared.outcome.Outcome.TheVariants as outcomes
use Rattle.reply_model.specs.declared.reply.Reply.{Reply}
use Rattle.reply_model.specs.Kinds.{Kind, kind_of, Makes, Finalizes, Discards, Stages, Reads, Counts, Lists, Holds, Unholds}
use Rattle.reply_model.specs.Answering.{Session}
use Rattle.reply_model.specs.Windows.{Client, is_cut, is_refused}
use Rattle.reply_model.specs.Runs.{IsIsolated}
use Rattle.reply_model.specs.Standing.{GrowsAlone, IsStep}
use Rattle.reply_model.specs.Legal.{IsLegalReply}
use Rattle.reply_model.specs.Blocks.{run_cutting}
use Rattle.library_api.specs.declared.settings.Settings.{Settings}

-- ---- commands

-- the kinds of command that a step carries out: all but these
abbrev pub carries : Kind → Bool
carries (Finalizes symbol) = false
carries (Discards symbol) = false
carries (Stages symbol frame) = false
carries Lists = false
carries (Holds snap picks) = false
carries (Unholds snap) = false
carries _ = true

-- the clauses of a command; only a read has some
abbrev pub clauses_of : Command → List Clause
clauses_of (commands.Read symbol as_of range columns clauses) = clauses
clauses_of _ = []

-- a command that a step carries out: one of these kinds, whose clauses are within their limits
abbrev pub is_carried_out : Command → Bool
is_carried_out c = carries (kind_of c) && fits (clauses_of c)

-- of these, the kinds of command that read a symbol or make a version of it
abbrev pub reads_or_makes : Kind → Bool
reads_or_makes (Makes symbol) = true
reads_or_makes (Reads symbol) = true
reads_or_makes (Counts symbol) = true
reads_or_makes _ = false

-- the number of the frame that a command names
abbrev pub frame_named : Command → Option ℕ
frame_named (commands.Write symbol frame at prune) = Some frame
frame_named (commands.Append symbol frame at prune) = Some frame
frame_named (commands.Update symbol frame range upsert at prune) = Some frame
frame_named (commands.Stage symbol frame) = Some frame
frame_named _ = None

-- among so many frames there is the one that the command names, if it names one
abbrev pub IsNamed : ℕ → Command → Type 0
IsNamed count command = IfSome (frame_named command) (λ n. n < count)

-- ---- replies

-- an outcome at a place, with these commits, without a list and left holds
abbrev pub reply_with : ℕ → List ℕ → Outcome → Reply
reply_with place commits outcome = record { place = place; listed = None; commits = commits; left = []; outcome = outcome }

-- the same without commits
abbrev pub plain_reply : ℕ → Outcome → Reply
plain_reply place outcome = reply_with place [] outcome

-- a refusal at its place
abbrev pub refusal_reply : Refused → Reply
refusal_reply refused = plain_reply refused.place (outcomes.Refused refused.why)

-- ---- legality

-- the client of a library: its session has these frames, and the moment and the tries of the settings
abbrev pub client_of : List RawFrame → Settings → ℕ → ℕ → Client
client_of frames settings number limit = record { session = record { frames = map table_of frames; moment = settings.moment; tries = settings.tries; client = number }; limit = limit }

-- the reply is legal in the new history, for the window that goes from the end of the old one to its own, with a flag that is set where the faults rose
abbrev pub IsLegalIn : Client → ℕ → ℕ → History → History → Command → Reply → Type 0
IsLegalIn client before now old new command reply =
    (faulted : Bool) → (Rose before now → faulted ≡ true) → IsLegalReply new client command reply (record { start = length old; stop = length new; faulted = faulted })

-- the same for each client of this number, whatever its session brings
abbrev pub IsLegalForAll : ℕ → ℕ → ℕ → History → History → Command → Reply → Type 0
IsLegalForAll number before now old new command reply = (client : Client) → client.session.client ≡ number → IsLegalIn client before now old new command reply

-- the same for each session of this client with so many tries
abbrev pub IsLegalWithTries : ℕ → ℕ → ℕ → ℕ → ℕ → History → History → Command → Reply → Type 0
IsLegalWithTries limit number tries before now old new command reply =
    (s : Session) → s.client ≡ number → s.tries ≡ tries → IsLegalIn (record { session = s; limit = limit }) before now old new command reply

-- ---- alone

-- alone on its symbol, the command answers what it would answer where the window that the step added begins
abbrev pub IsIsolatedIn : Client → History → History → Command → Reply → Type 0
IsIsolatedIn client old new command reply = IsIsolated new client command reply (record { start = length old; stop = length new; faulted = false })

-- where nobody else makes events, a reclaim that is not refused looked at the reference where it began
abbrev pub LooksFirst : ℕ → History → History → Reply → Type 0
LooksFirst client old new reply = GrowsAlone client old new → is_refused reply.outcome ≡ false → reply.place ≡ length old

-- behind a lawful history, and where nobody else makes events, the reply is the one that a run of this client alone gives, and the run then
-- stands as the new history: want of memory, failures and a full store aside
abbrev pub IsStepAlone : Settings → Client → History → History → Command → Reply → Type 0
IsStepAlone settings client old new command reply =
    IsLawful old → GrowsAlone client.session.client old new → is_cut reply.outcome ≡ false → IsStep (run_cutting settings.cutting) client.session command reply old new
