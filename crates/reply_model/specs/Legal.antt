-- When the replies of a client are legal in a history.
--     IsListedOf, IsListed      which replies name the place of their list
--     IsLegalOutcome       the clause of each outcome
--     IsLegalReply         a reply is legal for a window
--     LegalFrom, Legal     all replies of a client, each with its window
--     LegalStays           they stay so
use Rattle.std.specs.Prelude.{◌≡◌, ℕ, ◌≤◌, Bool, true, false, ◌&&◌, not, List, [], ◌∷◌, ◌++◌, map, length, Option, Some, None, ⊤, MatchBool, is_some}
use Rattle.frame_core.specs.declared.refusal.Refusal.{Refusal}
use Rattle.frame_core.specs.declared.refusal.Refusal.TheVariants as refusals
use Rattle.key_kind.specs.Names.{Name}
use Rattle.bucket_core.specs.declared.event.Event.{Event}
use Rattle.bucket_core.specs.History.{History, history_at}
use Rattle.store_model.specs.Library.{state_of}
use Rattle.store_model.specs.Snapshots.{snap_body}
use Rattle.expr_clause.specs.declared.command.Command.{Command}
use Rattle.expr_clause.specs.declared.command.Command.TheVariants as commands
use Rattle.reply_model.specs.declared.outcome.Outcome.{Outcome}
use Rattle.reply_model.specs.declared.outcome.Outcome.TheVariants as outcomes
use Rattle.reply_model.specs.declared.reply.Reply.{Reply}
use Rattle.reply_model.specs.Windows.{Window, Client, library_at, own_events, is_cut, has_none}
use Rattle.reply_model.specs.Kinds.{Kind, kind_of, Finalizes, Discards, Reclaims, Holds, Unholds, Cause, cause_of, Free, Faulted, Full, Met, Gone, Told}
use Rattle.reply_model.specs.Drops.{IsFreedAt}
use Rattle.reply_model.specs.OwnEvents.{HasOwnEvents}
use Rattle.reply_model.specs.Left.{HasLeft}
use Rattle.reply_model.specs.Causes.{MeetsOn, IsMoved, IsVersionGone, IsSpent, IsSnapshotRefusal}
use Rattle.reply_model.specs.Rows.{IsAnswer, IsStagedAt, keys_outcome, AreSymbolRows, IsKeptAt, IsUnkeptAt}

-- ---- which replies name the place of their list

-- the name of the snapshot stands
abbrev pub is_taken : Outcome → Bool
is_taken (outcomes.Refused refusals.SnapshotExists) = true
is_taken _ = false

-- those of finalize, discard and a snapshot of all, once the list is made: before any own event, and before each refusal but that of the list itself and of the name at its get
abbrev pub IsListedOf : Kind → Reply → List Event → Type 0
IsListedOf (Finalizes symbol) reply own = MatchBool (is_cut reply.outcome && has_none own) ⊤ (is_some reply.listed ≡ true)
IsListedOf (Discards symbol) reply own = MatchBool (is_cut reply.outcome && has_none own) ⊤ (is_some reply.listed ≡ true)
IsListedOf (Holds snap []) reply own = MatchBool (is_cut reply.outcome && has_none own) ⊤ (is_some reply.listed ≡ not (is_taken reply.outcome && has_none own))
IsListedOf _ reply own = reply.listed ≡ None

-- so of a command
abbrev pub IsListed : Command → Reply → List Event → Type 0
IsListed c reply own = IsListedOf (kind_of c) reply own

-- the list was made in the window, no later than the reply's place
abbrev pub IsListedWithin : Option ℕ → ℕ → ℕ → Type 0
IsListedWithin None start place = ⊤
IsListedWithin (Some listed) start place = (start ≤ listed) × (listed ≤ place)

-- ---- each reply

-- the symbol has no reference
abbrev pub IsReclaimRefusal : History → Name → Reply → Refusal → Type 0
IsReclaimRefusal h symbol reply refusals.NoSuchSymbol = (state_of (history_at h reply.place) symbol).has_reference ≡ false
IsReclaimRefusal h symbol reply why = ⊥

-- the name does not stand
abbrev pub IsUnholdRefusal : History → Name → Reply → Refusal → Type 0
IsUnholdRefusal h snap reply refusals.NoSuchSnapshot = snap_body (history_at h reply.place) snap ≡ None
IsUnholdRefusal h snap reply why = ⊥

-- a refusal that the one-thread library gives, by the kind of command
abbrev pub IsTold : History → Client → Command → Reply → Refusal → Kind → Type 0
IsTold h client c reply why (Reclaims symbol) = IsReclaimRefusal h symbol reply why
IsTold h client c reply why (Unholds snap) = IsUnholdRefusal h snap reply why
IsTold h client c reply why (Holds snap picks) = IsSnapshotRefusal h picks snap reply why
IsTold h client c reply why kind = IsAnswer h client c reply

-- only a read finds a version gone
abbrev pub IsGoneTo : History → Command → ℕ → Reply → Window → Type 0
IsGoneTo h (commands.Read symbol as_of range columns clauses) number reply w = IsVersionGone h symbol as_of range columns number reply.place w
IsGoneTo h c number reply w = ⊥

-- the clause of each cause
abbrev pub IsCaused : History → Client → Command → Reply → Window → Refusal → Cause → Type 0
IsCaused h client c reply w why Free = ⊤
IsCaused h client c reply w why Faulted = w.faulted ≡ true
IsCaused h client c reply w why (Full count) = IsSpent h client c count reply w
IsCaused h client c reply w why (Met now) = (symbol : Name) × MeetsOn h c reply symbol × IsMoved h client c reply symbol now w
IsCaused h client c reply w why (Gone number) = IsGoneTo h c number reply w
IsCaused h client c reply w why Told = IsTold h client c reply why (kind_of c)

-- the clause of each refusal
abbrev pub IsLegalRefusal : History → Client → Command → Reply → Window → Refusal → Type 0
IsLegalRefusal h client c reply w why = IsCaused h client c reply w why (cause_of why)

-- by the command; each outcome that is not its own is refused by the equation with the answer
abbrev pub IsLegalOk : History → Client → Command → Reply → Window → Outcome → Type 0
IsLegalOk h client (commands.Stage symbol frame) reply w outcomes.Staged = IsStagedAt h client.session symbol frame reply w
IsLegalOk h client (commands.Stage symbol frame) reply w outcome = ⊥
IsLegalOk h client commands.Symbols reply w (outcomes.Symbols rows) = AreSymbolRows h reply.place w.stop (library_at h reply.place).symbols rows
IsLegalOk h client commands.Symbols reply w outcome = ⊥
IsLegalOk h client (commands.Keys symbol) reply w outcome = outcome ≡ keys_outcome (history_at h reply.place) symbol
IsLegalOk h client (commands.Reclaim symbol) reply w (outcomes.Freed tiles indexes pieces) = IsFreedAt h client.session.client symbol tiles indexes pieces reply w
IsLegalOk h client (commands.Reclaim symbol) reply w outcome = ⊥
IsLegalOk h client (commands.Snapshot snap picks) reply w (outcomes.Kept held) = IsKeptAt h client.session.client snap picks held reply w
IsLegalOk h client (commands.Snapshot snap picks) reply w outcome = ⊥
IsLegalOk h client (commands.DeleteSnapshot snap) reply w outcomes.Unkept = IsUnkeptAt h client.session.client snap reply w
IsLegalOk h client (commands.DeleteSnapshot snap) reply w outcome = ⊥
IsLegalOk h client c reply w outcome = IsAnswer h client c reply

-- the clause of an outcome
abbrev pub IsLegalOutcome : History → Client → Command → Reply → Window → Outcome → Type 0
IsLegalOutcome h client c reply w (outcomes.Refused why) = IsLegalRefusal h client c reply w why
IsLegalOutcome h client c reply w outcome = IsLegalOk h client c reply w outcome

-- a reply is legal in the history at its window's end
pub record IsLegalSeen (seen : History) (client : Client) (c : Command) (reply : Reply) (w : Window) : Type 0 where
  pub after : w.start ≤ reply.place
  pub before : reply.place ≤ w.stop
  pub listed : IsListed c reply (own_events seen client.session.client w)
  pub listed_within : IsListedWithin reply.listed w.start reply.place
  pub own : HasOwnEvents seen client.session c reply w
  pub left : HasLeft seen client.session c reply w
  pub outcome : IsLegalOutcome seen client c reply w reply.outcome

-- of a history only what stands at the window's end counts
abbrev pub IsLegalReply : History → Client → Command → Reply → Window → Type 0
IsLegalReply h client c reply w = (w.stop ≤ length h) × IsLegalSeen (history_at h w.stop) client c reply w

-- one reply and one window for each command, each window beginning no earlier than the one before ends
abbrev pub LegalFrom : History → Client → ℕ → List Command → List Reply → List Window → Type 0
LegalFrom h client from [] [] [] = ⊤
LegalFrom h client from (c ∷ cs) (r ∷ rs) (w ∷ ws) = (from ≤ w.start) × IsLegalReply h client c r w × LegalFrom h client w.stop cs rs ws
LegalFrom h client from _ _ _ = ⊥

-- the replies are legal for windows from a place on. Whether the bucket's count of faults rose in each command is given, and is no choice of the windows
abbrev pub Legal : History → Client → ℕ → List Command → List Reply → List Bool → Type 0
Legal h client from list replies faulted =
    (windows : List Window) × (map (λ (w : Window). w.faulted) windows ≡ faulted) × LegalFrom h client from list replies windows

-- replies that are legal in a history are legal in each longer one
abbrev pub LegalStays : Type 0
LegalStays = (h more : History) (client : Client) (from : ℕ) (cs : List Command) (rs : List Reply) (faulted : List Bool) → Legal h client from cs rs faulted → Legal (more ++ h) client from cs rs faulted
