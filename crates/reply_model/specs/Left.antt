-- What a reply names as left held.
--     known_events         the own events that the reply can speak of
--     left_of              the symbols of the holds that are known and not released
--     MayBeLeft            the causes
--     HasLeft              the reply's `left`
use Rattle.std.specs.Prelude.{◌≡◌, ◌⊎◌, ℕ, ◌≤◌, Bool, true, false, ◌&&◌, if◌then◌else◌, List, [], ◌∷◌, Option, Some, None}
use Rattle.std.specs.List.{list_any, AllByRecursion}
use Rattle.key_kind.specs.declared.key.Holder.{Holder}
use Rattle.key_kind.specs.Names.{Name, same_name}
use Rattle.key_kind.specs.Keys.{same_holder}
use Rattle.bucket_core.specs.declared.event.Change.TheVariants as changes
use Rattle.bucket_core.specs.declared.event.Event.{Event}
use Rattle.bucket_core.specs.declared.event.Event.TheVariants as events
use Rattle.bucket_core.specs.History.{History}
use Rattle.store_model.specs.declared.snapshot.SnapRow.{SnapRow}
use Rattle.store_model.specs.declared.snapshot.SnapBody.{SnapBody}
use Rattle.expr_clause.specs.declared.command.Command.{Command}
use Rattle.reply_model.specs.declared.reply.Reply.{Reply}
use Rattle.reply_model.specs.Answering.{Session}
use Rattle.reply_model.specs.Windows.{Window, own_events, is_refused, is_cut, is_store_fault, refers_by_others, unnames}
use Rattle.reply_model.specs.Kinds.{Kind, kind_of, Holds, Unholds}
use Rattle.reply_model.specs.OwnEvents.{taken_away}

-- the place up to which own events are known: the window's end, after a StoreFault the reply's place
abbrev pub known_stop : Reply → Window → ℕ
known_stop reply w = if is_store_fault reply.outcome then reply.place else w.stop

-- the known own events
abbrev pub known_events : History → ℕ → Reply → Window → List Event
known_events h client reply w = own_events h client (record w { stop = known_stop reply w })

-- a Release of this holder for this symbol
abbrev pub releases : Name → Holder → Event → Bool
releases symbol holder (events.Refer client s was entry (changes.Released other ∷ [])) = same_name s symbol && same_holder other holder
releases symbol holder _ = false

-- the symbols of the Holds among these events, without those that are released among all of them
abbrev pub held_in : List Event → List Event → List Name
held_in all [] = []
held_in all (events.Refer client s was entry (changes.Held holder version ∷ []) ∷ es) = if list_any (releases s holder) all then held_in all es else s ∷ held_in all es
held_in all (_ ∷ es) = held_in all es

-- the symbols of a snapshot that are not released among these events
abbrev pub rows_left : List Event → Holder → List SnapRow → List Name
rows_left all holder [] = []
rows_left all holder (r ∷ rows) = if list_any (releases r.symbol holder) all then rows_left all holder rows else r.symbol ∷ rows_left all holder rows

-- an Unname of this snapshot is among the events
abbrev pub unname_in : Name → List Event → Bool
unname_in snap es = list_any (λ e. unnames snap e) es

-- the symbols of what stood under a name that are not released among these events
abbrev pub snapshot_left : List Event → Option SnapBody → List Name
snapshot_left all None = []
snapshot_left all (Some s) = rows_left all s.holder s.rows

-- the symbols that a reply names as left, by the kind of command: of a refused snapshot, and of a delete_snapshot whose Unname is known; `before` is
-- what stood under the name
abbrev pub left_of : Kind → Reply → List Event → Option SnapBody → List Name
left_of (Holds snap picks) reply known before = if is_refused reply.outcome then held_in known known else []
left_of (Unholds snap) reply known before = if unname_in snap known then snapshot_left known before else []
left_of _ reply known before = []

-- what stood under the name when a command of this kind took it away, where that is known
abbrev pub stood_before : History → ℕ → Kind → Reply → Window → Option SnapBody
stood_before h client (Unholds snap) reply w = if unname_in snap (known_events h client reply w) then taken_away h client snap else None
stood_before h client _ reply w = None

-- a symbol is left only with NoMemory, StoreFault or Spent, or where as many Refers of it by others as tries stand in the window
abbrev pub MayBeLeft : History → Session → Reply → Window → Name → Type 0
MayBeLeft h s reply w symbol = (is_cut reply.outcome ≡ true) ⊎ (s.tries ≤ refers_by_others h s.client symbol w)

-- the reply names exactly the symbols whose hold is known to stand, each with its cause
pub record HasLeft (h : History) (s : Session) (c : Command) (reply : Reply) (w : Window) : Type 0 where
  pub left : reply.left ≡ left_of (kind_of c) reply (known_events h s.client reply w) (stood_before h s.client (kind_of c) reply w)
  pub causes : AllByRecursion (MayBeLeft h s reply w) reply.left
