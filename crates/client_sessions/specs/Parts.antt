-- What the parts of a script leave: the first commands, a block for each client, and the last commands.
--     Parts                   the commands of the parts
--     IsBehind                a history goes on from another one
--     IsRun                   the replies of all parts are legal in the one history
use Rattle.std.specs.Prelude.{◌≡◌, ℕ, List, [], ◌∷◌, ◌++◌, length}
use Rattle.std.specs.List.{AllByRecursion}
use Rattle.bucket_core.specs.History.{History}
use Rattle.store_model.specs.Law.{IsLawful}
use Rattle.expr_clause.specs.declared.command.Command.{Command}
use Rattle.reply_model.specs.declared.reply.Reply.{Reply}
use Rattle.reply_model.specs.Windows.{Window, Client}
use Rattle.reply_model.specs.Runs.{Talk, IsLegalTalk, IsLegalRun}
use Rattle.reply_model.specs.Blocks.{Cutting}
use Rattle.reply_model.specs.Standing.{RunsAlone}
use Rattle.client_sessions.specs.declared.parts.PartReplies.{PartReplies}
use Rattle.client_sessions.specs.Sessions.{talk_of, AreUncut}
use Rattle.client_sessions.specs.Blocks.{AreTalksOf, OneTalkEach}

-- the commands of the parts
pub record Parts : Type 0 where
  pub first : List Command
  pub blocks : List (List Command)
  pub last : List Command

-- a history goes on from an older one
pub record IsBehind (old new : History) : Type 0 where
  pub more : History
  pub is : new ≡ more ++ old

-- the history goes on lawfully from an older one; the replies of all parts are legal in it, the first and the last ones as those of the
-- client `own`, and each block's as those of a client of its own, or of that one; and these two parts, and the block of a script that has
-- just one, are each a run of one client alone, whatever that client's number is, where none of the part's replies is cut
pub record IsRun (cutting : Cutting) (client : ℕ → Client) (own : ℕ) (parts : Parts) (replies : PartReplies) (old new : History) : Type 0 where
  pub more : History
  pub goes_on : new ≡ more ++ old
  pub lawful : IsLawful old → IsLawful new
  pub first : List Window
  pub clients : List Talk
  pub last : List Window
  pub clients_are : AreTalksOf client parts.blocks replies.blocks clients
  pub legal : IsLegalRun new (length old) (talk_of (client own) parts.first replies.first first) clients (talk_of (client own) parts.last replies.last last)
  -- no two blocks are of one client, but for the client `own`
  pub one_each : OneTalkEach own clients
  -- the histories behind the first commands and before the last ones
  pub behind_first : History
  pub before_last : History
  pub first_goes_on : IsBehind old behind_first
  pub blocks_go_on : IsBehind behind_first before_last
  pub last_goes_on : IsBehind before_last new
  -- each part's windows lie in its own stretch of the history
  pub first_within : IsLegalTalk behind_first (length old) (talk_of (client own) parts.first replies.first first)
  pub clients_within : AllByRecursion (IsLegalTalk before_last (length behind_first)) clients
  pub last_within : IsLegalTalk new (length before_last) (talk_of (client own) parts.last replies.last last)
  pub without_blocks : parts.blocks ≡ [] → before_last ≡ behind_first
  pub first_alone : IsLawful old → AreUncut replies.first → (n : ℕ) → RunsAlone cutting (client n).session parts.first replies.first old behind_first
  pub block_alone : (block : List Command) (met : List Reply) → parts.blocks ≡ block ∷ [] → replies.blocks ≡ met ∷ [] → IsLawful old → AreUncut met
      → (n : ℕ) → RunsAlone cutting (client n).session block met behind_first before_last
  pub last_alone : IsLawful old → AreUncut replies.last → (n : ℕ) → RunsAlone cutting (client n).session parts.last replies.last before_last new
