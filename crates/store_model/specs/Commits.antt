-- When a Refer may follow a history: what its changes are, and what is claimed of them.
--     marks_of            the marks of a list of changes
--     IsFresh, IsNewIndex, MayNameKey      the keys that a new link may have
--     HasFrameStamps, HasSlotStamps      a key, and a slot, with the stamps of their rows
--     FitsLink, FitsRemoved, FitsHeld, FitsReleased, FitsDiscarded      when each change fits
--     IsCommit            the forms of the changes of one commit
--     MayChange           an element that spells the changes of one commit
--     MayRestate          an element that tells the whole state anew
--     MayRefer            all that is claimed of a Refer
use Rattle.std.specs.Prelude.{◌≡◌, ◌⊎◌, ℕ, pos, ◌+◌, ◌<◌, Bool, true, false, List, [], ◌∷◌, map, flat_map, reverse, length, count_by, slice_range, Option, Some, None, if◌then◌else◌, ⊤, IfSome, is_some, unwrap_or}
use Rattle.std.specs.List.{list_any, AllByRecursion}
use Rattle.frame_core.specs.Ranges.{IsRange}
use Rattle.frame_core.specs.Frames.{Frame, first_stamp, last_stamp}
use Rattle.frame_core.specs.Limits.{IsStorable}
use Rattle.index_tree.specs.declared.index.Slot.{Slot}
use Rattle.index_tree.specs.PageRules.{Page, FitsPages}
use Rattle.segment_cut.specs.Tiles.{Tiled}
use Rattle.key_kind.specs.declared.key.KeyKind.TheVariants as kinds
use Rattle.key_kind.specs.declared.key.Key.{Key}
use Rattle.key_kind.specs.declared.key.Holder.{Holder}
use Rattle.key_kind.specs.Names.{Name}
use Rattle.key_kind.specs.Keys.{same_holder}
use Rattle.bucket_core.specs.declared.event.PieceName.{PieceName}
use Rattle.bucket_core.specs.declared.event.Change.{Change}
use Rattle.bucket_core.specs.declared.event.Change.TheVariants as changes
use Rattle.bucket_core.specs.History.{History, stored, puts_by}
use Rattle.store_model.specs.declared.chain.LinkRow.{LinkRow}
use Rattle.store_model.specs.declared.chain.ToldLink.{ToldLink}
use Rattle.store_model.specs.declared.chain.WholeState.{WholeState}
use Rattle.store_model.specs.declared.chain.ChainMark.{ChainMark}
use Rattle.store_model.specs.declared.chain.ChainMark.TheVariants as marks
use Rattle.store_model.specs.ChainText.{piece_before}
use Rattle.store_model.specs.Library.{State, Version, Hold, Piece, hold_of, state_of, is_live, live_versions, new_version, open_pieces, same_piece}
use Rattle.store_model.specs.Links.{Linked, linked, element, is_entry, is_reached, links, reaches}
use Rattle.store_model.specs.Holders.{has_hold, has_name, has_unnamed}

-- the marks of a change, where a version that it makes has this row
abbrev pub change_marks : LinkRow → Change → List ChainMark
change_marks row (changes.Wrote frame at) = marks.Link row ∷ []
change_marks row (changes.Appended frame at) = marks.Link row ∷ []
change_marks row (changes.Updated frame range at) = marks.Link row ∷ []
change_marks row (changes.Removed versions) = map marks.Tomb versions
change_marks row (changes.Held holder version) = marks.Hold holder version ∷ []
change_marks row (changes.Released holder) = marks.Release holder ∷ []
change_marks row (changes.Discarded pieces) = marks.Discard pieces ∷ []
change_marks row changes.Restated = []

-- the marks of a list of changes
abbrev pub marks_of : LinkRow → List Change → List ChainMark
marks_of row list = flat_map (change_marks row) list

-- a key that the client made for this version and that no link reached
pub record IsFresh (h : History) (client version : ℕ) (key : Key) : Type 0 where
  pub own : key.client ≡ client
  pub made_for : key.version ≡ version
  pub unreached : is_reached h key ≡ false

-- a new index key or page key of a link: a stored key of the symbol, made by the client for the link's version and reached by no earlier link
pub record IsNewIndex (h : History) (client version : ℕ) (symbol : Name) (key : Key) : Type 0 where
  pub kind : key.kind ≡ kinds.TableIndex
  pub name : key.name ≡ symbol
  pub stands : is_some (stored h key) ≡ true
  pub fresh : IsFresh h client version key

-- the key has the first and the last stamp of the frame's rows; of no rows both are 0
abbrev pub HasFrameStamps : Frame → Key → Type 0
HasFrameStamps frame key = (key.first ≡ unwrap_or (first_stamp frame.rows) (pos 0)) × (key.last ≡ unwrap_or (last_stamp frame.rows) (pos 0))

-- the newest live link reaches the key
abbrev pub newest_reaches : State → List Linked → Key → Bool
newest_reaches st [] key = false
newest_reaches st (l ∷ older) key = if is_live st l.row.version then reaches l key else newest_reaches st older key

-- a data key of a link of this version: a stored key of the symbol, new as those of indexes are, or reached by the newest live link
pub record MayNameKey (h : History) (client version : ℕ) (symbol : Name) (key : Key) : Type 0 where
  pub kind : key.kind ≡ kinds.TableData
  pub name : key.name ≡ symbol
  pub stands : is_some (stored h key) ≡ true
  pub fresh_or_shared : IsFresh h client version key ⊎ (newest_reaches (state_of h symbol) (links h symbol) key ≡ true)

-- the slot has the first and the last stamp of its rows in the frame
pub record HasSlotStamps (frame : Frame) (slot : Slot) : Type 0 where
  pub first : first_stamp (slice_range frame.rows slot.part.first_row (slot.part.first_row + slot.part.rows)) ≡ Some slot.first
  pub last : last_stamp (slice_range frame.rows slot.part.first_row (slot.part.first_row + slot.part.rows)) ≡ Some slot.last

-- the link may be made for this version
pub record FitsLink (h : History) (client : ℕ) (symbol : Name) (row : LinkRow) (v : Version) : Type 0 where
  pub number : row.version ≡ v.number
  pub stamp : row.stamp ≡ v.stamp
  pub rows : row.rows ≡ length v.frame.rows
  pub storable : IsStorable v.frame
  -- the key of its index is new, and tells the version and the frame's stamps
  pub new_index : IsNewIndex h client row.version symbol row.index
  pub index_stamps : HasFrameStamps v.frame row.index
  -- what was put under it, with its pages, whose keys are new and stand before that of the index
  pub link : Linked
  pub link_is : linked h row ≡ Some link
  pub new_pages : AllByRecursion (λ (p : Page). IsNewIndex h client row.version symbol p.row.key) link.pages
  pub pages_before : AllByRecursion (λ (p : Page). p.row.key.serial < row.index.serial) link.pages
  pub pages_fit : FitsPages link.index link.pages
  -- the index is one of the frame, with keys that the link may have, and its tiles are the frame
  pub schema : link.index.schema ≡ v.frame.schema
  pub index_rows : link.index.rows ≡ length v.frame.rows
  pub keys : AllByRecursion (λ (s : Slot). MayNameKey h client row.version symbol s.key) link.index.slots
  pub tiled : Tiled v.frame link.tiles
  pub stamps : AllByRecursion (HasSlotStamps v.frame) link.index.slots

-- numbers that rise
abbrev pub Rising : List ℕ → Type 0
Rising [] = ⊤
Rising (n ∷ []) = ⊤
Rising (n ∷ m ∷ more) = (n < m) × Rising (m ∷ more)

-- the list has an element
abbrev pub IsFilled : {X : Type 0} → List X → Type 0
IsFilled [] = ⊥
IsFilled (x ∷ xs) = ⊤

-- live versions, ascending, at least one
pub record FitsRemoved (st : State) (versions : List ℕ) : Type 0 where
  pub some : IsFilled versions
  pub rising : Rising versions
  pub live : AllByRecursion (λ n. is_live st n ≡ true) versions

-- a live version; the holder is the client's, from a command that began before its last Put, and is used neither for this symbol nor for a name
pub record FitsHeld (h : History) (client : ℕ) (symbol : Name) (holder : Holder) (version : ℕ) : Type 0 where
  pub live : is_live (state_of h symbol) version ≡ true
  pub own : holder.client ≡ client
  pub begun : holder.serial < puts_by client h
  pub unused : has_hold h symbol holder ≡ false
  pub unnamed : has_name h holder ≡ false

-- an unreleased hold, of an own holder that has no name, or of one whose name the client took away
pub record FitsReleased (h : History) (client : ℕ) (symbol : Name) (holder : Holder) : Type 0 where
  pub held : list_any (λ (w : Hold). same_holder holder w.holder) (state_of h symbol).holds ≡ true
  pub allowed : ((holder.client ≡ client) × (has_name h holder ≡ false)) ⊎ (has_unnamed h client holder ≡ true)

-- the pieces rise
abbrev pub PiecesRise : List PieceName → Type 0
PiecesRise [] = ⊤
PiecesRise (p ∷ []) = ⊤
PiecesRise (p ∷ q ∷ more) = (piece_before p q ≡ true) × PiecesRise (q ∷ more)

-- staged pieces that are not consumed, ascending, each once, at least one
pub record FitsDiscarded (st : State) (pieces : List PieceName) : Type 0 where
  pub some : IsFilled pieces
  pub rising : PiecesRise pieces
  pub staged : AllByRecursion (λ name. list_any (λ (p : Piece). same_piece name p.name) (open_pieces st) ≡ true) pieces

-- the mark of a change fits; a version's clause is the link's, and the range of an update is in order. Restated is no change of a commit
abbrev pub FitsMark : History → ℕ → Name → Change → Type 0
FitsMark h client symbol (changes.Removed versions) = FitsRemoved (state_of h symbol) versions
FitsMark h client symbol (changes.Held holder version) = FitsHeld h client symbol holder version
FitsMark h client symbol (changes.Released holder) = FitsReleased h client symbol holder
FitsMark h client symbol (changes.Discarded pieces) = FitsDiscarded (state_of h symbol) pieces
FitsMark h client symbol (changes.Updated frame range at) = IsRange range
FitsMark h client symbol changes.Restated = ⊥
FitsMark h client symbol _ = ⊤

-- each change fits, by itself, the history before the Refer: the version that it makes, or its mark
abbrev pub FitsChange : History → ℕ → Name → LinkRow → Change → Type 0
FitsChange h client symbol row c = IfSome (new_version (state_of h symbol) c) (FitsLink h client symbol row) × FitsMark h client symbol c

-- what a commit buries beside its new version is all that was live
abbrev pub BuriesAll : State → List Change → Type 0
BuriesAll st (c ∷ changes.Removed versions ∷ more) = versions ≡ reverse (map (λ v. v.number) (live_versions st))
BuriesAll st _ = ⊤

-- the change makes a version
abbrev pub is_version : Change → Bool
is_version (changes.Wrote frame at) = true
is_version (changes.Appended frame at) = true
is_version (changes.Updated frame range at) = true
is_version _ = false

-- the changes of one commit: a new version, with what it buries and consumes; or one other change
pub data Consumes : List Change → Type 0 where
  no_pieces : Consumes []
  some_pieces : (names : List PieceName) → Consumes (changes.Discarded names ∷ [])

-- behind a new version: what it buries, and then what it consumes
pub data Buries : List Change → Type 0 where
  no_tombs : {rest : List Change} → Consumes rest → Buries rest
  some_tombs : (numbers : List ℕ) {rest : List Change} → Consumes rest → Buries (changes.Removed numbers ∷ rest)

-- a new version, with what it buries and consumes; or one other change
pub data IsCommit : List Change → Type 0 where
  making : (c : Change) {rest : List Change} → is_version c ≡ true → Buries rest → IsCommit (c ∷ rest)
  marking : (c : Change) → is_version c ≡ false → IsCommit (c ∷ [])

-- the element stands on `was` and spells the changes, each of which fits
pub record MayChange (h : History) (client : ℕ) (symbol : Name) (was : Option Key) (entry : Key) (list : List Change) : Type 0 where
  pub form : IsCommit list
  pub row : LinkRow
  pub spelled : element h entry ≡ Some (record { prev = was; changes = marks_of row list })
  pub fits : AllByRecursion (FitsChange h client symbol row) list
  pub prunes : BuriesAll (state_of h symbol) list

-- ---- a state that is told anew

-- the same elements, each as often, in any order
abbrev pub AsOften : {X : Type 0} → List X → List X → Type 0
AsOften {X} xs ys = (test : X → Bool) → count_by test xs ≡ count_by test ys

-- a link as a Compact tells it
abbrev pub told_link : State → Linked → ToldLink
told_link st l = record { row = l.row; live = is_live st l.row.version }

-- each link with its own row and whether it is live, in ascending order; the unreleased holds; the consumed pieces
pub record TellsState (h : History) (symbol : Name) (told : WholeState) : Type 0 where
  pub links : told.links ≡ reverse (map (told_link (state_of h symbol)) (links h symbol))
  pub holds : AsOften (map hold_of told.holds) (state_of h symbol).holds
  pub pieces : AsOften told.pieces (state_of h symbol).consumed

-- the element stands on no other and tells the whole state, and the event restates it and does no more.
-- Gate C, closed by its field `not_yet`: no Refer tells a state anew. It opens by taking the field away, once walks end at a Compact. Another
-- field comes in its place: that the symbol has a reference, since only then does restating change nothing (`restating_changes_nothing`). With
-- the gate go: that no Refer restates (`lawful_is_plain`), that the chain has all entries (`plain_chain`), each of which stands
-- (`entries_stand`), that a Refer makes the changes of a commit (`is_commit`), and that a walk finds the state in its order, along all entries
-- (the clause `plainly` of the theorem on walks but for its field `no_pages`; PlainWalking and PlainFollowing). Seen to prove with gates B and
-- C open: a lawful history with a Compact (`compacted_lawful`), and that a Compact may neither forget a hold (`no_compact_that_forgets_a_hold`)
-- nor tell a live version as buried (`no_compact_that_buries`)
pub record MayRestate (h : History) (symbol : Name) (entry : Key) (list : List Change) : Type 0 where
  pub not_yet : ⊥
  pub alone : list ≡ changes.Restated ∷ []
  pub told : WholeState
  pub spelled : element h entry ≡ Some (record { prev = None; changes = marks.Compact told ∷ [] })
  pub tells : TellsState h symbol told

-- ---- a Refer

-- the entry is an own stored Version key of the symbol, new as an entry; its element spells the changes, or tells the whole state
pub record MayRefer (h : History) (client : ℕ) (symbol : Name) (was : Option Key) (entry : Key) (list : List Change) : Type 0 where
  pub kind : entry.kind ≡ kinds.Version
  pub name : entry.name ≡ symbol
  pub own : entry.client ≡ client
  pub stands : is_some (stored h entry) ≡ true
  pub fresh : is_entry h symbol entry ≡ false
  pub how : MayChange h client symbol was entry list ⊎ MayRestate h symbol entry list
