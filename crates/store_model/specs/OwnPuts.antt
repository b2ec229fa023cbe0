-- What a client has put and nothing links yet.
--     IsOwnPut, AreOwnPuts      a key of the client's own that stands with this body, and that no link reached and no Refer named; several
--     IsTableKind         the kinds of such keys
--     IsPutSlot, IsPutPage, IsPutLink, IsPutEntry      a slot's tile, a page, a link with its index, pages and tiles, and an element that a client
--                         has put, under keys that tell the link's version and, of an index, the frame's stamps
--     BuriesLive          the changes that bury beside a new version all that was live, or nothing
use Rattle.std.specs.Prelude.{◌≡◌, ℕ, ◌<◌, true, ◌||◌, List, [], ◌∷◌, map, reverse, length, Some, Ok}
use Rattle.std.specs.List.{AllByRecursion}
use Rattle.frame_core.specs.Frames.{Frame}
use Rattle.segment_bytes.specs.Segments.{segment_of}
use Rattle.segment_cut.specs.Tiles.{cut, Tiled}
use Rattle.index_tree.specs.declared.index.Slot.{Slot}
use Rattle.index_tree.specs.declared.index.Index.{Index}
use Rattle.index_tree.specs.declared.page.Root.{Root}
use Rattle.index_tree.specs.declared.page.IndexObject.TheVariants as objects
use Rattle.index_tree.specs.PageText.{object_of}
use Rattle.index_tree.specs.PageRules.{Page, FitsPages}
use Rattle.key_kind.specs.declared.key.KeyKind.{KeyKind}
use Rattle.key_kind.specs.declared.key.KeyKind.TheVariants as kinds
use Rattle.key_kind.specs.declared.key.Key.{Key}
use Rattle.key_kind.specs.Names.{Name}
use Rattle.key_kind.specs.Keys.{same_kind}
use Rattle.bucket_core.specs.declared.event.Change.{Change}
use Rattle.bucket_core.specs.declared.event.Change.TheVariants as changes
use Rattle.bucket_core.specs.History.{History, Bytes, stored, body_put}
use Rattle.store_model.specs.declared.chain.LinkRow.{LinkRow}
use Rattle.store_model.specs.declared.chain.Entry.{Entry}
use Rattle.store_model.specs.ChainText.{entry_of}
use Rattle.store_model.specs.Library.{State, Version, live_versions}
use Rattle.store_model.specs.Links.{page_slots_of, IsOwnUnlinked}
use Rattle.store_model.specs.Commits.{HasFrameStamps, HasSlotStamps, IsFilled}

-- an own key that stands with the body that was put, that no link reached and that is no entry
pub record IsOwnPut (h : History) (client : ℕ) (key : Key) (body : Bytes) : Type 0 where
  pub unlinked : IsOwnUnlinked h key client
  pub put : body_put h key ≡ Some body
  pub stands : stored h key ≡ Some body

-- a key of a kind that a client may drop again while nothing links it
abbrev pub IsTableKind : KeyKind → Type 0
IsTableKind kind = (same_kind kind kinds.TableData || same_kind kind kinds.TableIndex || same_kind kind kinds.Version) ≡ true

-- each of these keys is such a key, with its body
abbrev pub AreOwnPuts : History → ℕ → List (Key × Bytes) → Type 0
AreOwnPuts h client puts = AllByRecursion (λ (p : Key × Bytes). IsOwnPut h client p.0 p.1) puts

-- ---- a link and its element

-- a slot of the frame whose tile the client has put for this version, with this body
pub record IsPutSlot (h : History) (client version : ℕ) (symbol : Name) (frame : Frame) (w : Slot × Bytes) : Type 0 where
  pub kind : w.0.key.kind ≡ kinds.TableData
  pub name : w.0.key.name ≡ symbol
  pub made_for : w.0.key.version ≡ version
  pub own : IsOwnPut h client w.0.key w.1
  pub spelled : segment_of w.1 ≡ Ok (cut frame w.0.part)
  pub stamps : HasSlotStamps frame w.0

-- the slots of these, without the bodies
abbrev pub slots_of : List (Slot × Bytes) → List Slot
slots_of ws = map (λ (w : Slot × Bytes). w.0) ws

-- a page that the client has put for the row's version, before its index, with this body
pub record IsPutPage (h : History) (client : ℕ) (symbol : Name) (row : LinkRow) (w : Page × Bytes) : Type 0 where
  pub kind : w.0.row.key.kind ≡ kinds.TableIndex
  pub name : w.0.row.key.name ≡ symbol
  pub made_for : w.0.row.key.version ≡ row.version
  pub before : w.0.row.key.serial < row.index.serial
  pub own : IsOwnPut h client w.0.row.key w.1
  pub spelled : object_of w.1 ≡ Ok (objects.Page w.0.slots)

-- the pages of these, without the bodies
abbrev pub pages_of : List (Page × Bytes) → List Page
pages_of ws = map (λ (w : Page × Bytes). w.0) ws

-- the root of an index with these pages
abbrev pub root_with : Index → List Page → Root
root_with i pages = record { schema = i.schema; rows = i.rows; slots = length i.slots; pages = map (λ (p : Page). p.row) pages }

-- the body spells the index, or its root where it has pages
pub data SpellsIndex (body : Bytes) (i : Index) : List Page → Type 0 where
  whole : object_of body ≡ Ok (objects.Flat i) → SpellsIndex body i []
  rooted : {pages : List Page} → object_of body ≡ Ok (objects.Root (root_with i pages)) → page_slots_of pages ≡ i.slots → SpellsIndex body i pages

-- an index of the frame that the client has put under the row's key, with all its pages and tiles
pub record IsPutLink (h : History) (client : ℕ) (symbol : Name) (frame : Frame) (row : LinkRow) : Type 0 where
  pub kind : row.index.kind ≡ kinds.TableIndex
  pub name : row.index.name ≡ symbol
  pub made_for : row.index.version ≡ row.version
  pub index_stamps : HasFrameStamps frame row.index
  pub body : Bytes
  pub own : IsOwnPut h client row.index body
  pub index : Index
  pub pages : List (Page × Bytes)
  pub spelled : SpellsIndex body index (pages_of pages)
  pub each_page : AllByRecursion (IsPutPage h client symbol row) pages
  pub pages_fit : FitsPages index (pages_of pages)
  pub schema : index.schema ≡ frame.schema
  pub index_rows : index.rows ≡ length frame.rows
  pub slots : List (Slot × Bytes)
  pub slots_are : index.slots ≡ slots_of slots
  pub each : AllByRecursion (IsPutSlot h client row.version symbol frame) slots
  pub tiled : Tiled frame (map (λ (s : Slot). (s.part, cut frame s.part)) (slots_of slots))

-- an element of the symbol that the client has put
pub record IsPutEntry (h : History) (client : ℕ) (symbol : Name) (entry : Key) (element : Entry) : Type 0 where
  pub kind : entry.kind ≡ kinds.Version
  pub name : entry.name ≡ symbol
  pub body : Bytes
  pub own : IsOwnPut h client entry body
  pub spelled : entry_of body ≡ Ok element

-- nothing is buried, or all that was live
pub data BuriesLive (st : State) : List Change → Type 0 where
  buries_none : BuriesLive st []
  buries_live : IsFilled (live_versions st) → BuriesLive st (changes.Removed (reverse (map (λ (v : Version). v.number) (live_versions st))) ∷ [])
