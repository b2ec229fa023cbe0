-- The replies of one client alone, from an empty history: the one-thread library's answers in order, with the places that the events of
-- each command give.
--     Alone               where such a run stands: the number of events and of commands, the library, and the shape of each symbol
--     step_alone          the reply of one command, and where the run stands behind it
--     alone, sole         the replies of a list of commands, and of first commands, a block and last ones
use Rattle.std.specs.Prelude.{ℕ, ℤ, suc, ◌+◌, if◌then◌else◌, List, [], ◌∷◌, ◌++◌, map, length, Option, Some, None, Result, Ok, Err, is_some, option_map, option_and_then}
use Rattle.frame_core.specs.declared.refusal.Refusal.{Refusal}
use Rattle.frame_core.specs.declared.refusal.Refusal.TheVariants as refusals
use Rattle.frame_core.specs.RawFrames.{Table}
use Rattle.frame_core.specs.Frames.{Frame}
use Rattle.key_kind.specs.declared.key.Holder.{Holder}
use Rattle.key_kind.specs.Names.{Name, same_name}
use Rattle.bucket_core.specs.declared.event.PieceName.{PieceName}
use Rattle.bucket_core.specs.declared.event.Change.{Change}
use Rattle.bucket_core.specs.declared.event.Change.TheVariants as changes
use Rattle.store_model.specs.Library.{State, unknown, after_changes}
use Rattle.store_model.specs.Snapshots.{Library, Snapshot, snapshot_named, insert_name, insert_named, without_named}
use Rattle.expr_clause.specs.declared.command.Pick.{Pick}
use Rattle.expr_clause.specs.declared.command.Command.{Command}
use Rattle.expr_clause.specs.declared.command.Command.TheVariants as commands
use Rattle.reply_model.specs.declared.outcome.HeldAt.{HeldAt}
use Rattle.reply_model.specs.declared.outcome.Outcome.{Outcome}
use Rattle.reply_model.specs.declared.outcome.Outcome.TheVariants as outcomes
use Rattle.reply_model.specs.declared.reply.Reply.{Reply}
use Rattle.reply_model.specs.Kinds.{Kind, kind_of, Finalizes, Discards}
use Rattle.reply_model.specs.Answering.{Session, Answer, frame_of}
use Rattle.reply_model.specs.Answers.{answer}
use Rattle.reply_model.specs.SnapshotAnswers.{pick_of, bases, in_name_order}
use Rattle.reply_model.specs.Windows.{symbol_of}
use Rattle.reply_model.specs.Blocks.{Cutting, Shape, no_shape, blocks_made, puts_of_version, shape_after, tiles_in, dead_blocks, dead_indexes, dead_pieces, swept}

-- where a run stands: how many events there are and how many commands there were, the library, and the shape of each symbol
pub record Alone : Type 0 where
  pub events : ℕ
  pub turn : ℕ
  pub library : Library
  pub shape : Name → Shape

-- the empty history
abbrev pub beginning : Alone
beginning = record { events = 0; turn = 0; library = record { symbols = []; state = λ symbol. unknown; snapshots = [] }; shape = λ symbol. no_shape }

-- a value of each name, with another one of this name
abbrev pub set_of : {X : Type 0} → Name → X → (Name → X) → Name → X
set_of name x f other = if same_name name other then x else f other

-- a reply without commits
abbrev pub plain_reply : ℕ → Option ℕ → Outcome → Reply
plain_reply place listed outcome = record { place = place; listed = listed; commits = []; left = []; outcome = outcome }

-- a refusal
abbrev pub refusal : ℕ → Option ℕ → Refusal → Reply
refusal place listed why = plain_reply place listed (outcomes.Refused why)

-- ---- one commit

-- how many events a commit is: its puts and its Refer
abbrev pub events_of : Cutting → State → Shape → List Change → ℕ
events_of c st s [] = 0
events_of c st s (change ∷ more) = puts_of_version (blocks_made c st s change) + 2

-- a commit of these changes of a symbol
abbrev pub committing : Cutting → Name → List Change → Alone → Alone
committing c symbol list r = record r {
  events = r.events + events_of c (r.library.state symbol) (r.shape symbol) list;
  library = record r.library { symbols = insert_name symbol r.library.symbols; state = set_of symbol (after_changes (r.library.state symbol) list) r.library.state };
  shape = set_of symbol (shape_after c (r.library.state symbol) (r.shape symbol) list) r.shape;
}

-- the place of the list that a finalize and a discard make
abbrev pub list_place_of : Kind → ℕ → Option ℕ
list_place_of (Finalizes symbol) place = Some place
list_place_of (Discards symbol) place = Some place
list_place_of _ place = None

abbrev pub list_place : Command → ℕ → Option ℕ
list_place c place = list_place_of (kind_of c) place

-- the reply of a command that commits by itself or only looks, by its outcome and the changes of its symbol
abbrev pub answering : Cutting → Command → Option Name → Outcome → List Change → Alone → Reply × Alone
answering c command (Some symbol) outcome (first ∷ more) r =
    let behind = committing c symbol (first ∷ more) r in
    (record { place = behind.events; listed = list_place command r.events; commits = behind.events ∷ []; left = []; outcome = outcome }, behind)
answering c command symbol outcome list r = (plain_reply r.events (list_place command r.events) outcome, r)

-- ---- staging

-- the name of the piece that a command stages
abbrev pub piece_name : Session → Alone → PieceName
piece_name s r = record { client = s.client; serial = r.turn }

-- a piece of this frame is staged
abbrev pub staging : Session → Name → Result Frame Refusal → Alone → Reply × Alone
staging s symbol (Err why) r = (refusal r.events None why, r)
staging s symbol (Ok frame) r = (
  plain_reply (suc r.events) None outcomes.Staged,
  record r {
    events = suc r.events;
    library = record r.library { state = set_of symbol (record (r.library.state symbol) { staged = record { name = piece_name s r; frame = frame } ∷ (r.library.state symbol).staged }) r.library.state };
    shape = set_of symbol (record (r.shape symbol) { pieces = piece_name s r ∷ (r.shape symbol).pieces }) r.shape;
  },
)

-- ---- keys and reclaim

-- how many keys of the symbol are stored
abbrev pub keys_alone : State → Shape → Outcome
keys_alone st s = outcomes.Keys (tiles_in s.blocks) (length s.indexes) s.elements (if st.has_reference then 1 else 0) (length s.pieces)

-- what a reclaim drops
abbrev pub freed_alone : State → Shape → Outcome
freed_alone st s = outcomes.Freed (tiles_in (dead_blocks st s)) (length (dead_indexes st s)) (length (dead_pieces st s))

-- the drops of a reclaim
abbrev pub drops_alone : State → Shape → ℕ
drops_alone st s = tiles_in (dead_blocks st s) + length (dead_indexes st s) + length (dead_pieces st s)

-- a reclaim of a symbol that has a reference, or none
abbrev pub reclaiming : Name → Alone → Reply × Alone
reclaiming symbol r = if (r.library.state symbol).has_reference
    then (
      plain_reply r.events None (freed_alone (r.library.state symbol) (r.shape symbol)),
      record r { events = r.events + drops_alone (r.library.state symbol) (r.shape symbol); shape = set_of symbol (swept (r.library.state symbol) (r.shape symbol)) r.shape },
    )
    else (refusal r.events None refusals.NoSuchSymbol, r)

-- ---- snapshots

-- the holder of a snapshot command
abbrev pub holder_alone : Session → Alone → Holder
holder_alone s r = record { client = s.client; serial = r.turn }

-- one hold after another, each an element and its Refer, with its place
abbrev pub holding : Cutting → Holder → List (Name × ℕ) → Alone → List HeldAt × Alone
holding c holder [] r = ([], r)
holding c holder (x ∷ xs) r =
    let behind = committing c x.0 (changes.Held holder x.1 ∷ []) r in
    let more = holding c holder xs behind in
    (record { symbol = x.0; version = x.1; place = behind.events } ∷ more.0, more.1)

-- one release after another, with their places
abbrev pub releasing : Cutting → Holder → List Name → Alone → List ℕ × Alone
releasing c holder [] r = ([], r)
releasing c holder (symbol ∷ more) r =
    let behind = committing c symbol (changes.Released holder ∷ []) r in
    let rest = releasing c holder more behind in
    (behind.events ∷ rest.0, rest.1)

-- the versions that are held before the first refusal, and that refusal
abbrev pub picked_before : Library → List Pick → List (Name × ℕ) × Option Refusal
picked_before l [] = ([], None)
picked_before l (p ∷ ps) = elim (pick_of l p) [
  | Err why ↦ ([], Some why)
  | Ok x ↦ let more = picked_before l ps in (x ∷ more.0, more.1)
]

-- of all symbols each that has a base is held; of named ones each in ascending order, up to the first that is refused
abbrev pub to_hold : Library → List Pick → List (Name × ℕ) × Option Refusal
to_hold l [] = elim (bases l l.symbols) [ [] ↦ ([], Some refusals.NoSuchSymbol) | x ∷ xs ↦ (x ∷ xs, None) ]
to_hold l (p ∷ ps) = picked_before l (in_name_order (p ∷ ps))

-- the place of the list that a snapshot of all symbols makes
abbrev pub snapshot_list : List Pick → ℕ → Option ℕ
snapshot_list [] place = Some place
snapshot_list (p ∷ ps) place = None

-- behind the holds the name stands over them; or the holds are released
abbrev pub kept_or_released : Cutting → Holder → Name → Option ℕ → List (Name × ℕ) → Option Refusal → List HeldAt × Alone → Reply × Alone
kept_or_released c holder snap listed picks None held = (
  record { place = suc held.1.events; listed = listed; commits = map (λ (x : HeldAt). x.place) held.0; left = []; outcome = outcomes.Kept held.0 },
  record held.1 { events = suc held.1.events; library = record held.1.library { snapshots = insert_named snap (record { holder = holder; picks = picks }) held.1.library.snapshots } },
)
kept_or_released c holder snap listed picks (Some why) held =
    let freed = releasing c holder (map (λ (x : HeldAt). x.symbol) held.0) held.1 in
    (record { place = held.1.events; listed = listed; commits = map (λ (x : HeldAt). x.place) held.0 ++ freed.0; left = []; outcome = outcomes.Refused why }, freed.1)

-- a snapshot
abbrev pub keeping : Cutting → Session → Name → List Pick → Alone → Reply × Alone
keeping c s snap picks r = if is_some (snapshot_named r.library snap)
    then (refusal r.events None refusals.SnapshotExists, r)
    else kept_or_released c (holder_alone s r) snap (snapshot_list picks r.events) (to_hold r.library picks).0 (to_hold r.library picks).1
    (holding c (holder_alone s r) (to_hold r.library picks).0 r)

-- the name stands no more
abbrev pub without_name : Name → Alone → Alone
without_name snap r = record r { events = suc r.events; library = record r.library { snapshots = without_named snap r.library.snapshots } }

-- a delete_snapshot of what stands under the name
abbrev pub unkeeping : Cutting → Name → Option Snapshot → Alone → Reply × Alone
unkeeping c snap None r = (refusal r.events None refusals.NoSuchSnapshot, r)
unkeeping c snap (Some x) r =
    let freed = releasing c x.holder (map (λ (p : Name × ℕ). p.0) x.picks) (without_name snap r) in
    (record { place = suc r.events; listed = None; commits = freed.0; left = []; outcome = outcomes.Unkept }, freed.1)

-- ---- runs

-- the run has one command more behind it
abbrev pub next_turn : Reply × Alone → Reply × Alone
next_turn x = (x.0, record x.1 { turn = suc x.1.turn })

-- the reply of one command, and where the run stands behind it; there is none where no frame has the command's number
abbrev pub step_alone : Cutting → Session → Command → Alone → Option (Reply × Alone)
step_alone c s (commands.Stage symbol frame) r = option_map (λ f. next_turn (staging s symbol f r)) (frame_of s frame)
step_alone c s (commands.Keys symbol) r = Some (next_turn (plain_reply r.events None (keys_alone (r.library.state symbol) (r.shape symbol)), r))
step_alone c s (commands.Reclaim symbol) r = Some (next_turn (reclaiming symbol r))
step_alone c s (commands.Snapshot snap picks) r = Some (next_turn (keeping c s snap picks r))
step_alone c s (commands.DeleteSnapshot snap) r = Some (next_turn (unkeeping c snap (snapshot_named r.library snap) r))
step_alone c s command r = option_map (λ (a : Answer). next_turn (answering c command (symbol_of command) a.outcome a.marks r)) (answer s r.library r.library r.events command)

-- the replies so far, with those of the commands that follow, and where the run then stands
abbrev pub alone : Cutting → Session → List Command → Alone → Option (List Reply × Alone)
alone c s [] r = Some ([], r)
alone c s (command ∷ more) r = option_and_then (λ (x : Reply × Alone). option_map (λ (y : List Reply × Alone). (x.0 ∷ y.0, y.1)) (alone c s more x.1)) (step_alone c s command r)

-- the replies of first commands, of one block and of last commands, and how many events there are at the end
pub record SoleRun : Type 0 where
  pub first : List Reply
  pub block : List Reply
  pub last : List Reply
  pub events : ℕ

-- the session of a client of the run
abbrev pub session_of : List Table → ℤ → ℕ → Session
session_of frames moment client = record { frames = frames; moment = moment; tries = 1; client = client }

-- first and last commands are those of client 1, and the block's are those of client 2
abbrev pub sole : Cutting → List Table → ℤ → List Command → List Command → List Command → Option SoleRun
sole c frames moment first block last =
    option_and_then (λ (x : List Reply × Alone).
    option_and_then (λ (y : List Reply × Alone).
    option_map (λ (z : List Reply × Alone). record { first = x.0; block = y.0; last = z.0; events = z.1.events })
    (alone c (session_of frames moment 1) last y.1)) (alone c (session_of frames moment 2) block x.1)) (alone c (session_of frames moment 1) first beginning)
