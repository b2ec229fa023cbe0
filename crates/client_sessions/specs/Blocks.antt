-- What clients leave whose blocks are carried out beside one another, each over a pass of its own.
--     clients_of          what the replies of a client of this number are judged by
--     IsSessionOf         a client's commands over a pass
--     AreTalksOf          a talk for each block
--     Knows               the numbers that a pass has or gave out itself
--     OneTalkEach         only one client may have several talks
--     AreRun              blocks that were carried out between two states of a pass
use Rattle.std.specs.Prelude.{◌≡◌, ◌⊎◌, ◌<◌, ◌≤◌, ℕ, true, List, [], ◌∷◌, ◌++◌, length, Some, Any, ⊤}
use Rattle.std.specs.List.{AllByRecursion}
use Rattle.frame_core.specs.declared.raw.RawFrame.{RawFrame}
use Rattle.turn_cell.specs.declared.badge.Badge.{Badge}
use Rattle.turn_cell.specs.Badges.{Among, Has, Awaits, joined_at}
use Rattle.bucket_core.specs.declared.event.Event.{Event}
use Rattle.bucket_core.specs.History.{History, author, event_at}
use Rattle.store_model.specs.Law.{IsLawful}
use Rattle.bucket_shared.specs.declared.pass.Pass.{Pass}
use Rattle.bucket_shared.specs.Passes.{store_of, badge_of, seen_of, number_of, limit_of, sole_of}
use Rattle.expr_clause.specs.declared.command.Command.{Command}
use Rattle.reply_model.specs.declared.reply.Reply.{Reply}
use Rattle.reply_model.specs.Windows.{Client}
use Rattle.reply_model.specs.Blocks.{Cutting}
use Rattle.reply_model.specs.Runs.{Talk, IsLegalTalk, HasNoFault, Covers, AllApart}
use Rattle.reply_model.specs.Standing.{RunsAlone}
use Rattle.library_api.specs.declared.settings.Settings.{Settings}
use Rattle.library_api.specs.Steps.{client_of}
use Rattle.client_sessions.specs.Sessions.{talk_of, AreUncut, IsSession}

-- what the replies of a client of this number are judged by: its session has these frames and settings, and its bucket this limit
abbrev pub clients_of : List RawFrame → Settings → ℕ → ℕ → Client
clients_of frames settings limit number = client_of frames settings number limit

-- a client's commands were carried out over a pass, which is of the same store, with the same numbers and limit
pub record IsSessionOf (cutting : Cutting) (client : ℕ → Client) (commands : List Command) (replies : List Reply) (old new : Pass) : Type 0 where
  pub store : store_of new ≡ store_of old
  pub badge : badge_of new ≡ badge_of old
  pub limit : limit_of new ≡ limit_of old
  pub session : IsSession cutting (client (number_of old)) (sole_of old) 0 0 commands replies (seen_of old) (seen_of new)

-- a talk for each block, in order, with the block's commands and its replies; its client is one of these
abbrev pub AreTalksOf : (ℕ → Client) → List (List Command) → List (List Reply) → List Talk → Type 0
AreTalksOf client [] [] [] = ⊤
AreTalksOf client (commands ∷ blocks) (replies ∷ told) (t ∷ talks) =
    (t ≡ talk_of (client t.client.session.client) commands replies t.windows) × AreTalksOf client blocks told talks
AreTalksOf client _ _ _ = ⊥

-- the pass's own number, or one that it gave out
abbrev pub Knows : Badge → ℕ → Type 0
Knows badge n = (n ≡ badge.number) ⊎ Among n badge.gave

-- each client has at most one talk, but for the client of this number
abbrev pub OneTalkEach : ℕ → List Talk → Type 0
OneTalkEach own [] = ⊤
OneTalkEach own (t ∷ talks) = AllByRecursion (λ (s : Talk). s.client.session.client ≡ t.client.session.client → t.client.session.client ≡ own) talks × OneTalkEach own talks

-- blocks were carried out between two states of a pass: the history goes on lawfully; each block's replies are legal in it, and no talks of one
-- client overlap, of which only the pass's own may have several; and each event of the pass's client since, and each event of a client whose pass was joined since, lies in a window of its own
pub record AreRun (cutting : Cutting) (client : ℕ → Client) (blocks : List (List Command)) (replies : List (List Reply)) (old new : Pass) : Type 0 where
  pub store : store_of new ≡ store_of old
  pub number : number_of new ≡ number_of old
  pub limit : limit_of new ≡ limit_of old
  -- the pass has its numbers, and awaits no more than before
  pub first : Has (badge_of old) (badge_of old).first → Has (badge_of new) (badge_of new).first
  pub awaits : (ns : List ℕ) → Awaits (badge_of old) ns → Awaits (badge_of new) ns
  pub more : History
  pub goes_on : seen_of new ≡ more ++ seen_of old
  pub lawful : IsLawful (seen_of old) → IsLawful (seen_of new)
  pub without_blocks : blocks ≡ [] → seen_of new ≡ seen_of old
  -- a sole pass that has one block to carry out leaves what one client alone would leave, whatever that client's number is: where none of the
  -- block's replies is cut
  pub one_alone : (block : List Command) (met : List Reply) → blocks ≡ block ∷ [] → replies ≡ met ∷ [] → sole_of old ≡ true → IsLawful (seen_of old) → AreUncut met
      → (n : ℕ) → RunsAlone cutting (client n).session block met (seen_of old) (seen_of new)
  pub talks : List Talk
  pub talks_are : AreTalksOf client blocks replies talks
  pub legal : AllByRecursion (IsLegalTalk (seen_of new) (length (seen_of old))) talks
  pub apart : AllApart talks
  pub no_fault : AllByRecursion HasNoFault talks
  -- each client is the pass's own, or has a number above all that the pass knew
  pub above : AllByRecursion (λ (t : Talk). (t.client.session.client ≡ number_of old) ⊎ ((m : ℕ) → Knows (badge_of old) m → m < t.client.session.client)) talks
  pub one_each : OneTalkEach (number_of old) talks
  pub own : (n : ℕ) (e : Event) → length (seen_of old) < n → event_at (seen_of new) n ≡ Some e → author e ≡ number_of old → Any (Covers n e) talks
  pub joined : (m l : ℕ) → Among (joined_at m l) (badge_of new).joined
      → Among (joined_at m l) (badge_of old).joined ⊎ ((l ≤ length (seen_of new)) × ((n : ℕ) (e : Event) → n ≤ l → event_at (seen_of new) n ≡ Some e → author e ≡ m → Any (Covers n e) talks))
