-- What a reclaim drops, and what is then not stored any more.
--     IsDeadIndex, IsDeadTile, IsDeadPiece      the keys that a reclaim drops
--     IsReclaiming         the own events of a reclaim
--     HasDeadKey           such a key is stored
--     IsFreedAt            the clause of Freed
--     reclaim_outcome      how many stored keys are dead, which is what a reclaim frees of them
use Rattle.std.specs.Prelude.{◌≡◌, ◌≢◌, ◌⊎◌, ◌&&◌, ℕ, ◌≤◌, Bool, true, false, not, if◌then◌else◌, List, [], ◌∷◌, ◌++◌, map, count_by, Some, None, ⊤, Contains, is_some}
use Rattle.std.specs.List.{list_any, AllByRecursion}
use Rattle.frame_core.specs.declared.refusal.Refusal.TheVariants as refusals
use Rattle.key_kind.specs.declared.key.KeyKind.{KeyKind}
use Rattle.key_kind.specs.declared.key.KeyKind.TheVariants as kinds
use Rattle.key_kind.specs.declared.key.Key.{Key}
use Rattle.key_kind.specs.Names.{Name, same_name}
use Rattle.key_kind.specs.Keys.{same_key, same_kind, key_before}
use Rattle.bucket_core.specs.declared.event.Event.{Event}
use Rattle.bucket_core.specs.declared.event.Event.TheVariants as events
use Rattle.bucket_core.specs.History.{History, author, stored, stored_keys, history_at, event_at}
use Rattle.store_model.specs.Library.{state_of, is_consumed}
use Rattle.store_model.specs.Links.{Linked, links, reached, reaches, is_reached, is_reached_by_needed, IsUnneeded, IsConsumedPiece}
use Rattle.reply_model.specs.declared.outcome.Outcome.{Outcome}
use Rattle.reply_model.specs.declared.outcome.Outcome.TheVariants as outcomes
use Rattle.reply_model.specs.declared.reply.Reply.{Reply}
use Rattle.reply_model.specs.Windows.{Window, own_events, is_refused}
use Rattle.reply_model.specs.Tries.{IsKeyOf}

-- the keys rise
abbrev pub KeysRise : List Key → Type 0
KeysRise [] = ⊤
KeysRise (a ∷ []) = ⊤
KeysRise (a ∷ b ∷ more) = (key_before a b ≡ true) × KeysRise (b ∷ more)

-- an index of the symbol that is dead and stored
abbrev pub IsDeadIndex : History → Name → Key → Type 0
IsDeadIndex g symbol key = IsKeyOf kinds.TableIndex symbol key × IsUnneeded g key × (is_some (stored g key) ≡ true)

-- a dead tile that such an index names
abbrev pub IsDeadTile : History → Name → Key → Type 0
IsDeadTile g symbol key =
    IsKeyOf kinds.TableData symbol key × IsUnneeded g key × ((l : Linked) × Contains (links g symbol) l × IsDeadIndex g symbol l.row.index × Contains (reached l) key)

-- a staged piece of the symbol that is consumed and stored
abbrev pub IsDeadPiece : History → Name → Key → Type 0
IsDeadPiece g symbol key = (key.name ≡ symbol) × IsConsumedPiece g key × (is_some (stored g key) ≡ true)

-- drops of tiles, then of indexes, then of pieces, each in key order, of what is dead in this history
pub record IsDropping (g : History) (client : ℕ) (symbol : Name) (es : List Event) : Type 0 where
  pub tiles : List Key
  pub indexes : List Key
  pub pieces : List Key
  pub is : es ≡ map (events.Drop client) (tiles ++ indexes ++ pieces)
  pub tiles_rise : KeysRise tiles
  pub indexes_rise : KeysRise indexes
  pub pieces_rise : KeysRise pieces
  pub dead_tiles : AllByRecursion (IsDeadTile g symbol) tiles
  pub dead_indexes : AllByRecursion (IsDeadIndex g symbol) indexes
  pub dead_pieces : AllByRecursion (IsDeadPiece g symbol) pieces

-- the drops of a reclaim, of what was dead at its last look at the reference: the reply's place, or a place before it where a call failed
abbrev pub IsReclaiming : History → ℕ → Name → Reply → Window → List Event → Type 0
IsReclaiming h client symbol reply w es =
    (q : ℕ) × (w.start ≤ q) × (q ≤ reply.place) × (is_refused reply.outcome ≡ false → q ≡ reply.place) × IsDropping (history_at h q) client symbol es

-- a key that a reclaim would drop is stored
abbrev pub HasDeadKey : History → Name → Type 0
HasDeadKey g symbol = (key : Key) × (is_some (stored g key) ≡ true) × (IsDeadTile g symbol key ⊎ IsDeadIndex g symbol key ⊎ IsDeadPiece g symbol key)

-- a drop of a key of this kind
abbrev pub drops_kind : KeyKind → Event → Bool
drops_kind kind (events.Drop client key) = same_kind key.kind kind
drops_kind kind _ = false

-- a drop of this key
abbrev pub drops : Key → Event → Bool
drops key (events.Drop client k) = same_key k key
drops key _ = false

-- the index was dropped by an event that is not the command's own
abbrev pub DroppedByAnother : History → ℕ → Window → Key → Type 0
DroppedByAnother h client w index = (q : ℕ) × (q ≤ w.stop) × (e : Event) × (event_at h q ≡ Some e) × (drops index e ≡ true) × ((q ≤ w.start) ⊎ (author e ≢ client))

-- Freed: the counts are those of the own drops, and what was dead at the reply's place is not stored any more, but for tiles whose index another dropped
pub record IsFreedAt (h : History) (client : ℕ) (symbol : Name) (tiles indexes pieces : ℕ) (reply : Reply) (w : Window) : Type 0 where
  pub referred : (state_of (history_at h reply.place) symbol).has_reference ≡ true
  pub tiles_are : tiles ≡ count_by (drops_kind kinds.TableData) (own_events h client w)
  pub indexes_are : indexes ≡ count_by (drops_kind kinds.TableIndex) (own_events h client w)
  pub pieces_are : pieces ≡ count_by (drops_kind kinds.Staged) (own_events h client w)
  pub no_index : (key : Key) → IsDeadIndex (history_at h reply.place) symbol key → stored (history_at h w.stop) key ≡ None
  pub no_tile : (l : Linked) (key : Key) → Contains (links (history_at h reply.place) symbol) l → IsDeadIndex (history_at h reply.place) symbol l.row.index
      → Contains (reached l) key → IsKeyOf kinds.TableData symbol key → IsUnneeded (history_at h reply.place) key
      → (stored (history_at h w.stop) key ≡ None) ⊎ DroppedByAnother h client w l.row.index
  pub no_piece : (key : Key) → IsDeadPiece (history_at h reply.place) symbol key → stored (history_at h w.stop) key ≡ None

-- ---- how many keys are dead

-- a key of this kind of the symbol that some link reached, and that no live or held link reaches
abbrev pub is_unneeded_of : KeyKind → History → Name → Key → Bool
is_unneeded_of kind g symbol key = same_kind key.kind kind && same_name key.name symbol && is_reached g key && not (is_reached_by_needed g key)

-- the test of a dead index
abbrev pub is_dead_index : History → Name → Key → Bool
is_dead_index g symbol key = is_unneeded_of kinds.TableIndex g symbol key && is_some (stored g key)

-- the test of a dead tile, which such an index names
abbrev pub is_dead_tile : History → Name → Key → Bool
is_dead_tile g symbol key = is_unneeded_of kinds.TableData g symbol key && list_any (λ (l : Linked). reaches l key && is_dead_index g symbol l.row.index) (links g symbol)

-- the test of a consumed piece
abbrev pub is_dead_piece : History → Name → Key → Bool
is_dead_piece g symbol key = same_kind key.kind kinds.Staged && same_name key.name symbol && is_consumed (state_of g key.name) (record { client = key.client; serial = key.serial }) && is_some (stored g key)

-- how many stored keys of the symbol are dead, of each kind
abbrev pub freed_outcome : History → Name → Outcome
freed_outcome g symbol = outcomes.Freed (count_by (is_dead_tile g symbol) (stored_keys g)) (count_by (is_dead_index g symbol) (stored_keys g)) (count_by (is_dead_piece g symbol) (stored_keys g))

-- what a reclaim of these contents answers
abbrev pub reclaim_outcome : History → Name → Outcome
reclaim_outcome g symbol = if (state_of g symbol).has_reference then freed_outcome g symbol else outcomes.Refused refusals.NoSuchSymbol
