-- Which keys of a symbol are dead, and what a look at the store finds of them.
--     has_key             a set of keys has the key
--     IsDeadKey           a tile, an index or a piece that a reclaim drops
--     reached_keys        the keys that a link with this index reaches
--     IsFoundIndex        what stands under the key of an index
--     IsIndexPut          the index of a row was put
--     IsReachedBy, DidReach, Reaches      the keys that the links of some rows reach, but for those of a set
--     has_number, keeps_in, PartsFrom      a row among those of kept versions, or the others
--     keeps, AreParted      the rows of kept versions, and the others
--     piece_name, has_piece, NotesPiece, NotesPieces, NotesStaged      consumed pieces among some keys, in a set
--     IsPartOf, IsParted      the parts of a walked state, and of a symbol's
--     ReachesKept, MissesKept, ReachesOnly, ReachesDead      what the rows of kept versions reach, and what only the others do
--     FoundDead           the dead keys of a symbol at a place
use Rattle.std.specs.Prelude.{◌≡◌, ◌⊎◌, ℕ, ◌≤◌, Bool, true, false, ◌||◌, ◌&&◌, not, List, [], ◌∷◌, ◌++◌, map, filter, reverse, length, Option, Some, None, Contains, nat_eq, is_some}
use Rattle.std.specs.List.{list_any}
use Rattle.std.specs.BTreeSet.{BTreeSet, contains_by}
use Rattle.std.specs.Ordering.{nat_cmp, ordering_then}
use Rattle.index_tree.specs.declared.index.Slot.{Slot}
use Rattle.index_tree.specs.declared.index.Index.{Index}
use Rattle.key_kind.specs.declared.key.KeyKind.TheVariants as kinds
use Rattle.key_kind.specs.declared.key.Key.{Key}
use Rattle.key_kind.specs.Names.{Name, same_name}
use Rattle.key_kind.specs.Keys.{same_key, same_kind, key_cmp}
use Rattle.bucket_core.specs.declared.event.PieceName.{PieceName}
use Rattle.bucket_core.specs.History.{History, stored, body_put}
use Rattle.store_model.specs.declared.chain.LinkRow.{LinkRow}
use Rattle.store_model.specs.declared.hold.HoldRow.{HoldRow}
use Rattle.store_model.specs.Library.{state_of, same_piece}
use Rattle.store_model.specs.Links.{Linked, links, reached, IsUnneeded}
use Rattle.store_model.specs.PlainLinks.{flat_put}
use Rattle.version_chain.specs.declared.state.SymbolState.{SymbolState}
use Rattle.version_chain.specs.States.{is_tomb, IsStateAt}
use Rattle.reply_model.specs.Tries.{IsKeyOf}
use Rattle.reply_model.specs.Drops.{IsDeadIndex, IsDeadTile, IsDeadPiece}
use Rattle.prune_rule.specs.declared.finding.Dead.{Dead}
use Rattle.prune_rule.specs.declared.finding.Parted.{Parted}
use Rattle.prune_rule.specs.declared.parting.Rows.{Rows}
use Rattle.prune_rule.specs.declared.reaching.Reached.{Reached}

-- the set has the key
abbrev pub has_key : BTreeSet Key → Key → Bool
has_key keys key = contains_by (key_cmp key) keys

-- a key of the symbol that a reclaim drops
abbrev pub IsDeadKey : History → Name → Key → Type 0
IsDeadKey g symbol key = IsDeadTile g symbol key ⊎ IsDeadIndex g symbol key ⊎ IsDeadPiece g symbol key

-- ---- indexes

-- the keys that a link with this index key and index reaches
abbrev pub reached_keys : Key → Index → List Key
reached_keys key index = key ∷ map (λ (s : Slot). s.key) index.slots

-- the index that stands under a key as it was put, or nothing
abbrev pub IsFoundIndex : History → Key → Option Index → Type 0
IsFoundIndex h key (Some index) = (is_some (stored h key) ≡ true) × (flat_put h key ≡ Some index)
IsFoundIndex h key None = stored h key ≡ None

-- the index of the row was put
pub record IsIndexPut (h : History) (row : LinkRow) : Type 0 where
  pub kind : row.index.kind ≡ kinds.TableIndex
  pub put : is_some (body_put h row.index) ≡ true

-- a row whose index stood, with what was put there, which reaches the key
pub record IsReachedBy (old new : History) (row : LinkRow) (key : Key) : Type 0 where
  pub stood : is_some (stored old row.index) ≡ true
  pub index : Index
  pub put : flat_put new row.index ≡ Some index
  pub reaches : Contains (reached_keys row.index index) key

-- the index of the row stands, and all that its link reaches is added to the set, but for what is kept
pub record ReachesRow (h : History) (row : LinkRow) (kept : BTreeSet Key) (old new : Reached) : Type 0 where
  pub stands : is_some (stored h row.index) ≡ true
  pub index : Index
  pub put : flat_put h row.index ≡ Some index
  pub gone : new.gone ≡ old.gone
  pub keys : (key : Key) → has_key new.keys key ≡ (has_key old.keys key || (list_any (λ k. same_key k key) (reached_keys row.index index) && not (has_key kept key)))

-- the index of the row is gone, and the keys are the same
pub record MissesRow (h : History) (row : LinkRow) (old new : Reached) : Type 0 where
  pub none : stored h row.index ≡ None
  pub gone : new.gone ≡ true
  pub keys : new.keys ≡ old.keys

-- one row more
abbrev pub DidReach : History → LinkRow → BTreeSet Key → Reached → Reached → Type 0
DidReach h row kept old new = MissesRow h row old new ⊎ ReachesRow h row kept old new

-- of each row either the index is gone, or all that its link reaches is in the set, but for what is kept; the set has nothing else
pub record Reaches (old new : History) (rows : List LinkRow) (kept : BTreeSet Key) (reached : Reached) : Type 0 where
  pub each : (row : LinkRow) → Contains rows row
      → ((stored new row.index ≡ None) × (reached.gone ≡ true))
      ⊎ ((index : Index) × (flat_put new row.index ≡ Some index) × ((key : Key) → Contains (reached_keys row.index index) key → has_key kept key ≡ false → has_key reached.keys key ≡ true))
  pub only : (key : Key) → has_key reached.keys key ≡ true → (has_key kept key ≡ false) × ((row : LinkRow) × Contains rows row × IsReachedBy old new row key)
  pub gone : reached.gone ≡ true → (row : LinkRow) × Contains rows row × (stored new row.index ≡ None)

-- ---- versions

-- the set has the number
abbrev pub has_number : BTreeSet ℕ → ℕ → Bool
has_number set n = contains_by (nat_cmp n) set

-- the version of the row is not among the first, or is among the second
abbrev pub keeps_in : BTreeSet ℕ → BTreeSet ℕ → LinkRow → Bool
keeps_in tombs held row = not (has_number tombs row.version) || has_number held row.version

-- a row more, among those of its kind
pub record PartsFrom (tombs held : BTreeSet ℕ) (row : LinkRow) (old new : Rows) : Type 0 where
  pub kept : new.kept ≡ old.kept ++ filter (keeps_in tombs held) (row ∷ [])
  pub dead : new.dead ≡ old.dead ++ filter (λ r. not (keeps_in tombs held r)) (row ∷ [])

-- the version of the row is not buried, or is held
abbrev pub keeps : List ℕ → List HoldRow → LinkRow → Bool
keeps tombs holds row = not (is_tomb tombs row.version) || list_any (λ (hold : HoldRow). nat_eq row.version hold.version) holds

-- the rows of kept versions, and those of the others, the newest first
pub record AreParted (links : List LinkRow) (tombs : List ℕ) (holds : List HoldRow) (rows : Rows) : Type 0 where
  pub kept : rows.kept ≡ filter (keeps tombs holds) (reverse links)
  pub dead : rows.dead ≡ filter (λ row. not (keeps tombs holds row)) (reverse links)

-- ---- pieces

-- the piece of a staged key
abbrev pub piece_name : Key → PieceName
piece_name key = record { client = key.client; serial = key.serial }

-- the set has the name of the piece
abbrev pub has_piece : BTreeSet (ℕ × ℕ) → PieceName → Bool
has_piece set name = contains_by (λ (p : ℕ × ℕ). ordering_then (nat_cmp name.client p.0) (nat_cmp name.serial p.1)) set

-- a set with this key, where its piece is among these
abbrev pub NotesPiece : Key → BTreeSet (ℕ × ℕ) → BTreeSet Key → BTreeSet Key → Type 0
NotesPiece key names old new = (other : Key) → has_key new other ≡ (has_key old other || (same_key key other && has_piece names (piece_name other)))

-- a set with those of these keys whose pieces are consumed
abbrev pub NotesPieces : List Key → List PieceName → BTreeSet Key → BTreeSet Key → Type 0
NotesPieces listed consumed old new = (other : Key) → has_key new other ≡ (has_key old other || (list_any (λ k. same_key k other) listed && list_any (same_piece (piece_name other)) consumed))

-- a set with those staged keys of the symbol that are stored and whose pieces are consumed
abbrev pub NotesStaged : History → Name → List PieceName → BTreeSet Key → BTreeSet Key → Type 0
NotesStaged h symbol consumed old new =
    (other : Key) → has_key new other ≡ (has_key old other || ((is_some (stored h other) && (same_kind other.kind kinds.Staged && same_name other.name symbol)) && list_any (same_piece (piece_name other)) consumed))

-- ---- one try

-- the rows of a state, its consumed pieces and its place
pub record IsPartOf (state : SymbolState) (parted : Parted) : Type 0 where
  pub rows : AreParted state.links state.tombs state.holds parted.rows
  pub consumed : parted.consumed ≡ state.consumed
  pub place : parted.place ≡ state.place

-- the parts of the symbol's state at a place of the call, where it has a reference
pub record IsParted (old new : History) (symbol : Name) (parted : Parted) : Type 0 where
  pub state : SymbolState
  pub at : IsStateAt new symbol state
  pub from : length old ≤ state.place
  pub referred : is_some state.was ≡ true
  pub parts : IsPartOf state parted

-- the keys that the rows of kept versions reach
pub record ReachesKept (old new : History) (rows : Rows) (kept : Reached) : Type 0 where
  pub none : BTreeSet Key
  pub empty : (key : Key) → has_key none key ≡ false
  pub reached : Reaches old new rows.kept none kept

-- the index of such a row is gone
pub record MissesKept (old new : History) (rows : Rows) : Type 0 where
  pub kept : Reached
  pub reached : ReachesKept old new rows kept
  pub gone : kept.gone ≡ true

-- of such rows no index was gone in the middle, and these keys only the others reach
pub record ReachesOnly (old new : History) (rows : Rows) (keys : BTreeSet Key) : Type 0 where
  pub middle : History
  pub first : History
  pub first_is : middle ≡ first ++ old
  pub second : History
  pub second_is : new ≡ second ++ middle
  pub kept : Reached
  pub reached : ReachesKept old middle rows kept
  pub there : kept.gone ≡ false
  pub dead : Reached
  pub others : Reaches middle new rows.dead kept.keys dead
  pub keys_are : keys ≡ dead.keys

-- the keys that only the other rows reach, or the index of a kept row is gone
abbrev pub ReachesDead : History → History → Rows → Option (BTreeSet Key) → Type 0
ReachesDead old new rows None = MissesKept old new rows
ReachesDead old new rows (Some keys) = ReachesOnly old new rows keys

-- ---- all of them

-- the symbol has a reference at a place of the call, and these are its keys that are dead there, but for what is gone since
pub record FoundDead (old new : History) (symbol : Name) (dead : Dead) : Type 0 where
  pub later : History
  pub before : History
  pub split : new ≡ later ++ before
  pub place : dead.place ≡ length before
  pub from : length old ≤ length before
  pub referred : (state_of before symbol).has_reference ≡ true
  pub each : (key : Key) → has_key dead.keys key ≡ true → IsDeadKey before symbol key
  pub no_index : (key : Key) → IsDeadIndex before symbol key → (has_key dead.keys key ≡ true) ⊎ (stored new key ≡ None)
  pub no_tile : (l : Linked) (key : Key) → Contains (links before symbol) l → IsDeadIndex before symbol l.row.index → Contains (reached l) key → IsKeyOf kinds.TableData symbol key → IsUnneeded before key
      → (has_key dead.keys key ≡ true) ⊎ (stored new l.row.index ≡ None)
  pub no_piece : (key : Key) → IsDeadPiece before symbol key → (has_key dead.keys key ≡ true) ⊎ (stored new key ≡ None)
