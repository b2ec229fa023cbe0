-- What the commands of one client leave, carried out one after another.
--     IsReady, AreNamed       a library carries out the commands, and the frames that they name are there
--     talk_of                 the commands of one client, its replies and windows
--     AreUncut                none of the replies is cut
--     FaultsAre               each window is marked as failed only where faults came in it
--     IsSession               the replies are legal in the history that goes on from an older one
use Rattle.std.specs.Prelude.{◌≡◌, ℕ, ◌<◌, ◌≤◌, Bool, true, false, List, [], ◌∷◌, ◌++◌, length}
use Rattle.std.specs.List.{AllByRecursion}
use Rattle.base_types.specs.Faults.{Rose}
use Rattle.bucket_core.specs.History.{History, author}
use Rattle.store_model.specs.Law.{IsLawful}
use Rattle.expr_clause.specs.declared.command.Command.{Command}
use Rattle.reply_model.specs.declared.reply.Reply.{Reply}
use Rattle.reply_model.specs.Windows.{Window, Client, is_cut}
use Rattle.reply_model.specs.Runs.{Talk, IsLegalTalk, is_covered}
use Rattle.reply_model.specs.Blocks.{Cutting}
use Rattle.reply_model.specs.Standing.{GrowsAlone, RunsAlone}
use Rattle.library_api.specs.Steps.{is_carried_out, IsNamed}

-- a library carries out the command, and the frame that it names, if it names one, is among so many
abbrev pub IsReady : ℕ → Command → Type 0
IsReady count command = (is_carried_out command ≡ true) × IsNamed count command

-- the same of each of the commands
abbrev pub AreNamed : ℕ → List Command → Type 0
AreNamed count = AllByRecursion (IsReady count)

-- the commands of one client, with its replies and windows
abbrev pub talk_of : Client → List Command → List Reply → List Window → Talk
talk_of client commands replies windows = record { client = client; commands = commands; replies = replies; windows = windows }

-- none of the replies is want of memory, a failure or a full store
abbrev pub AreUncut : List Reply → Type 0
AreUncut = AllByRecursion (λ (r : Reply). is_cut r.outcome ≡ false)

-- the store's count of faults went from one number to another, window by window: behind each window it has a value, no less than before it,
-- and a window is marked as failed only where the count rose in it
abbrev pub FaultsAre : ℕ → ℕ → List Window → Type 0
FaultsAre before now [] = before ≡ now
FaultsAre before now (w ∷ windows) = (behind : ℕ) × (before ≤ behind) × (w.faulted ≡ true → Rose before behind) × FaultsAre behind now windows

-- the history goes on lawfully from an older one, by events of this client alone where its bucket is sole; there is a reply and a window
-- for each command, in order, and each reply is legal for its window; each added place lies in a window; a call of the store failed in a
-- window only where its count of faults rose there; and where all added events are of this client and no reply is cut, the replies are
-- those of this client alone
pub record IsSession (cutting : Cutting) (client : Client) (sole : Bool) (before now : ℕ) (commands : List Command) (replies : List Reply) (old new : History) : Type 0 where
  pub more : History
  pub goes_on : new ≡ more ++ old
  pub lawful : IsLawful old → IsLawful new
  pub own : sole ≡ true → AllByRecursion (λ e. author e ≡ client.session.client) more
  pub windows : List Window
  pub legal : IsLegalTalk new (length old) (talk_of client commands replies windows)
  pub covered : (n : ℕ) → length old < n → n ≤ length new → is_covered windows n ≡ true
  pub faults : FaultsAre before now windows
  pub alone : GrowsAlone client.session.client old new → IsLawful old → AreUncut replies → RunsAlone cutting client.session commands replies old new
