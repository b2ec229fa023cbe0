-- The own events of each command, one clause for each row of the table of commands.
--     IsHolding, IsUnholding, IsStaging      the events of snapshot, delete_snapshot and stage
--     taken_away           what stood under a name when the client took it away
--     IsOwn                the events of each command
--     is_done, is_last     whether a command was done, and by which event
--     HasOwnEvents         the own events in a window are those of the command
use Rattle.std.specs.Prelude.{◌≡◌, ◌⊎◌, ℕ, ◌-◌, ◌≤◌, Bool, true, false, ◌&&◌, not, if◌then◌else◌, List, [], ◌∷◌, ◌++◌, length, Option, Some, None, Ok, nat_eq, ⊤, MatchBool, unwrap_or}
use Rattle.std.specs.List.{list_any, AllByRecursion}
use Rattle.frame_core.specs.Frames.{Frame}
use Rattle.segment_bytes.specs.Segments.{segment_of}
use Rattle.key_kind.specs.declared.key.KeyKind.TheVariants as kinds
use Rattle.key_kind.specs.declared.key.Key.{Key}
use Rattle.key_kind.specs.declared.key.Holder.{Holder}
use Rattle.key_kind.specs.Names.{Name, same_name}
use Rattle.key_kind.specs.Keys.{same_kind}
use Rattle.bucket_core.specs.declared.event.Change.{Change}
use Rattle.bucket_core.specs.declared.event.Change.TheVariants as changes
use Rattle.bucket_core.specs.declared.event.Event.{Event}
use Rattle.bucket_core.specs.declared.event.Event.TheVariants as events
use Rattle.bucket_core.specs.History.{History, Bytes, history_at, puts_by}
use Rattle.store_model.specs.declared.snapshot.SnapBody.{SnapBody}
use Rattle.store_model.specs.Snapshots.{snap_body}
use Rattle.expr_clause.specs.declared.command.Pick.{Pick}
use Rattle.expr_clause.specs.declared.command.Command.{Command}
use Rattle.reply_model.specs.declared.outcome.Outcome.{Outcome}
use Rattle.reply_model.specs.declared.outcome.Outcome.TheVariants as outcomes
use Rattle.reply_model.specs.declared.reply.Reply.{Reply}
use Rattle.reply_model.specs.Answering.{Session, frame_of}
use Rattle.reply_model.specs.Answers.{answer}
use Rattle.store_model.specs.Holders.{holder_is}
use Rattle.reply_model.specs.Windows.{Window, library_at, own_events, symbol_of, is_refused, is_cut, is_answered, is_store_fault, refer_places, AreCommits, IsReferAt}
use Rattle.reply_model.specs.Kinds.{Kind, kind_of, Makes, Finalizes, Buries, Discards, Stages, Reclaims, Holds, Unholds}
use Rattle.reply_model.specs.Tries.{IsKeyOf, one_if, IsTurn, AreTurns}
use Rattle.reply_model.specs.Drops.{IsReclaiming}

-- the holder of a snapshot command: the client, and its next serial as the command began
abbrev pub holder_at : History → ℕ → Window → Holder
holder_at h client w = record { client = client; serial = puts_by client (history_at h w.start) }

-- a Hold of this holder
abbrev pub IsHold : Holder → Change → Type 0
IsHold holder (changes.Held other number) = other ≡ holder
IsHold holder _ = ⊥

-- a Release of this holder
abbrev pub IsRelease : Holder → Change → Type 0
IsRelease holder (changes.Released other) = other ≡ holder
IsRelease holder _ = ⊥

-- a snapshot: the holds in turn, and then its Name where it is done, and the releases in turn where it is not
pub record IsHolding (h : History) (s : Session) (w : Window) (snap : Name) (picks : List Pick) (done : Bool) (es : List Event) : Type 0 where
  pub holds : List Event
  pub rest : List Event
  pub is : es ≡ holds ++ rest
  pub each_hold : AreTurns h s w picks (IsHold (holder_at h s.client w)) holds
  pub ends : MatchBool done ((body : Bytes) × (rest ≡ events.Name s.client snap body ∷ [])) (AreTurns h s w picks (IsRelease (holder_at h s.client w)) rest)

-- what stood under a name when the client last took it away
abbrev pub taken_away : History → ℕ → Name → Option SnapBody
taken_away [] client snap = None
taken_away (events.Unname c name ∷ h) client snap = if nat_eq c client && same_name name snap then snap_body h snap else taken_away h client snap
taken_away (_ ∷ h) client snap = taken_away h client snap

-- a delete_snapshot: the Unname, and then the releases in turn of the holder that it took away
pub record IsUnholding (h : History) (s : Session) (w : Window) (snap : Name) (es : List Event) : Type 0 where
  pub holder : Holder
  pub rest : List Event
  pub is : es ≡ events.Unname s.client snap ∷ rest
  pub held : holder_is holder (taken_away h s.client snap) ≡ true
  pub each : AreTurns h s w [] (IsRelease holder) rest

-- one Put of this frame as a piece of the symbol
pub record IsStaging (s : Session) (symbol : Name) (frame : ℕ) (es : List Event) : Type 0 where
  pub key : Key
  pub body : Bytes
  pub is : es ≡ events.Put s.client key body ∷ []
  pub key_is : IsKeyOf kinds.Staged symbol key
  pub whole : Frame
  pub frame_is : frame_of s frame ≡ Some (Ok whole)
  pub spelled : segment_of body ≡ Ok whole

-- what the changes of a commit are, the clause of the reply tells
abbrev pub AnyMarks : List Change → Type 0
AnyMarks list = ⊤

-- the own events of a kind of command that is done, or that is not
abbrev pub IsOwnOf : History → Session → Window → Kind → Reply → Bool → List Event → Type 0
IsOwnOf h s w (Makes symbol) reply done es = IsTurn h s w symbol true done (is_answered reply.outcome) AnyMarks es
IsOwnOf h s w (Finalizes symbol) reply done es = IsTurn h s w symbol true done (is_answered reply.outcome) AnyMarks es
IsOwnOf h s w (Buries symbol burial) reply done es = IsTurn h s w symbol false done (is_answered reply.outcome) AnyMarks es
IsOwnOf h s w (Discards symbol) reply done es = IsTurn h s w symbol false done (is_answered reply.outcome) AnyMarks es
IsOwnOf h s w (Stages symbol frame) reply done es = MatchBool done (IsStaging s symbol frame es) (es ≡ [])
IsOwnOf h s w (Reclaims symbol) reply done es = MatchBool done (IsReclaiming h s.client symbol reply w es) (es ≡ [])
IsOwnOf h s w (Holds snap picks) reply done es = IsHolding h s w snap picks done es
IsOwnOf h s w (Unholds snap) reply done es = MatchBool done (IsUnholding h s w snap es) (es ≡ [])
IsOwnOf h s w _ reply done es = es ≡ []

-- so of a command
abbrev pub IsOwn : History → Session → Window → Command → Reply → Bool → List Event → Type 0
IsOwn h s w c reply done es = IsOwnOf h s w (kind_of c) reply done es

-- a delete or a prune that found nothing to bury has no commit
abbrev pub is_empty_burial : Reply → Outcome → Bool
is_empty_burial reply (outcomes.Deleted n) = nat_eq (length reply.commits) 0
is_empty_burial reply (outcomes.Pruned n) = nat_eq (length reply.commits) 0
is_empty_burial reply _ = false

-- the command was done: it answers Ok, and had something to do
abbrev pub is_done : Reply → Bool
is_done reply = not (is_refused reply.outcome) && not (is_empty_burial reply reply.outcome)

-- the Name of a snapshot
abbrev pub is_name : Event → Bool
is_name (events.Name c name body) = true
is_name e = false

-- a Refer, or the Put of a piece
abbrev pub is_end : Event → Bool
is_end (events.Refer client symbol was entry list) = true
is_end (events.Put client key body) = same_kind key.kind kinds.Staged
is_end e = false

-- the event with which the command is done. A delete_snapshot goes on behind its Unname
abbrev pub is_last_of : Kind → Event → Bool
is_last_of (Unholds snap) e = false
is_last_of (Holds snap picks) e = is_name e
is_last_of k e = is_end e

abbrev pub is_last : Command → Event → Bool
is_last c e = is_last_of (kind_of c) e

-- some events more make such a list
pub record IsBeginning (P : List Event → Type 0) (es : List Event) : Type 0 where
  pub more : List Event
  pub whole : P (es ++ more)

-- the Refer of this place makes the changes that the one-thread library answers just before it
pub record IsMeantAt (h : History) (s : Session) (c : Command) (reply : Reply) (q : ℕ) : Type 0 where
  pub symbol : Name
  pub list : List Change
  pub outcome : Outcome
  pub symbol_is : symbol_of c ≡ Some symbol
  pub event : IsReferAt h s.client symbol list q
  pub answered : answer s (library_at h (unwrap_or reply.listed q)) (library_at h (q - 1)) (q - 1) c ≡ Some (record { outcome = outcome; marks = list })

-- a commit that may stand behind a failed call is one that the command asked for
abbrev pub AreMeantOf : History → Session → Command → Kind → Reply → List ℕ → Type 0
AreMeantOf h s c (Holds snap picks) reply places = ⊤
AreMeantOf h s c (Unholds snap) reply places = ⊤
AreMeantOf h s c _ reply places = MatchBool (is_store_fault reply.outcome) (AllByRecursion (IsMeantAt h s c reply) places) ⊤

abbrev pub AreMeant : History → Session → Command → Reply → List ℕ → Type 0
AreMeant h s c reply places = AreMeantOf h s c (kind_of c) reply places

-- the own events are those of a command that was done, or of one that was not; after NoMemory, StoreFault or Spent a beginning of either,
-- with none behind the reply's place but one of the call that failed
pub record HasOwnEvents (h : History) (s : Session) (c : Command) (reply : Reply) (w : Window) : Type 0 where
  pub events : MatchBool (is_cut reply.outcome)
      (IsBeginning (IsOwn h s w c reply true) (own_events h s.client w) ⊎ IsBeginning (IsOwn h s w c reply false) (own_events h s.client w))
      (IsOwn h s w c reply (is_done reply) (own_events h s.client w))
  pub commits : AreCommits (is_store_fault reply.outcome) reply.commits (refer_places s.client w.start (history_at h w.stop))
  pub short : is_cut reply.outcome ≡ true → is_store_fault reply.outcome ≡ false → list_any (is_last c) (own_events h s.client w) ≡ false
  pub meant : AreMeant h s c reply (refer_places s.client w.start (history_at h w.stop))
  pub late : MatchBool (is_cut reply.outcome) (length (own_events h s.client (record w { start = reply.place })) ≤ one_if (is_store_fault reply.outcome)) ⊤
