-- The chain of a symbol, and the links in it.
--     entries             the entries of the symbol's Refers, the newest first
--     chain_entries       of these, the entries from the reference back to the last Compact
--     element             the chain element that was put under a key
--     index_put           the index that was put under a key, with the slots of its pages where it has pages
--     Linked, links       a link with its index, pages and tiles, as they were put when it was made; the links of a symbol, the newest first
--     reached             the keys that a link reaches: its index key, the keys of the pages, and the data keys that the slots name
--     is_needed           its version is live or held
--     IsDead..            the keys that may be dropped
use Rattle.std.specs.Prelude.{◌≡◌, ℕ, Bool, true, false, ◌||◌, ◌&&◌, List, [], ◌∷◌, ◌++◌, length, map, flat_map, Option, Some, None, if◌then◌else◌, option_map, option_and_then, nat_eq}
use Rattle.std.specs.List.{list_any, cons_option}
use Rattle.byte_fields.specs.Reading.{read_of}
use Rattle.frame_core.specs.declared.part.Part.{Part}
use Rattle.frame_core.specs.Frames.{Frame}
use Rattle.segment_bytes.specs.Segments.{segment_of}
use Rattle.index_tree.specs.declared.index.Slot.{Slot}
use Rattle.index_tree.specs.declared.index.Index.{Index}
use Rattle.index_tree.specs.declared.page.PageRow.{PageRow}
use Rattle.index_tree.specs.declared.page.Root.{Root}
use Rattle.index_tree.specs.declared.page.IndexObject.{IndexObject}
use Rattle.index_tree.specs.declared.page.IndexObject.TheVariants as objects
use Rattle.index_tree.specs.PageText.{object_of}
use Rattle.index_tree.specs.PageRules.{Page}
use Rattle.segment_cut.specs.Tiles.{Tile}
use Rattle.key_kind.specs.declared.key.KeyKind.TheVariants as kinds
use Rattle.key_kind.specs.declared.key.Key.{Key}
use Rattle.key_kind.specs.Names.{Name, same_name}
use Rattle.key_kind.specs.Keys.{same_key, same_kind}
use Rattle.bucket_core.specs.declared.event.Change.{Change}
use Rattle.bucket_core.specs.declared.event.Change.TheVariants as changes
use Rattle.bucket_core.specs.declared.event.Event.TheVariants as events
use Rattle.bucket_core.specs.History.{History, body_put}
use Rattle.store_model.specs.declared.chain.LinkRow.{LinkRow}
use Rattle.store_model.specs.declared.chain.ChainMark.{ChainMark}
use Rattle.store_model.specs.declared.chain.ChainMark.TheVariants as marks
use Rattle.store_model.specs.declared.chain.Entry.{Entry}
use Rattle.store_model.specs.ChainText.{entry_of}
use Rattle.store_model.specs.Library.{State, state_of, is_kept, is_consumed}

-- ---- elements

-- the entries of the symbol's Refers, the newest first
abbrev pub entries : History → Name → List Key
entries [] symbol = []
entries (events.Refer c s was entry list ∷ h) symbol = if same_name s symbol then entry ∷ entries h symbol else entries h symbol
entries (_ ∷ h) symbol = entries h symbol

-- the key is an entry of the symbol
abbrev pub is_entry : History → Name → Key → Bool
is_entry h symbol key = list_any (λ k. same_key k key) (entries h symbol)

-- the changes tell the state anew
abbrev pub restates : List Change → Bool
restates (changes.Restated ∷ more) = true
restates _ = false

-- what is left of a chain behind a Refer of these changes: of a chain that is told anew nothing
abbrev pub left_behind : {X : Type 0} → List Change → List X → List X
left_behind list older = if restates list then [] else older

-- the entries of the symbol's chain: from the reference back to the last Compact, or to the first where there is none
abbrev pub chain_entries : History → Name → List Key
chain_entries [] symbol = []
chain_entries (events.Refer c s was entry list ∷ h) symbol =
    if same_name s symbol then entry ∷ left_behind list (chain_entries h symbol) else chain_entries h symbol
chain_entries (_ ∷ h) symbol = chain_entries h symbol

-- the key is an entry of the symbol's chain
abbrev pub is_chained : History → Name → Key → Bool
is_chained h symbol key = list_any (λ k. same_key k key) (chain_entries h symbol)

-- the element that was put under a key
abbrev pub element : History → Key → Option Entry
element h key = option_and_then (λ body. read_of (entry_of body)) (body_put h key)

-- ---- indexes

-- the object that was put under the key of an index or of a page
abbrev pub object_put : History → Key → Option IndexObject
object_put h key = option_and_then (λ body. read_of (object_of body)) (body_put h key)

-- the slots of an object that is a page
abbrev pub page_in : IndexObject → Option (List Slot)
page_in (objects.Page slots) = Some slots
page_in _ = None

-- one page more, where its slots were put
abbrev pub with_page : PageRow → Option (List Slot) → Option (List Page) → Option (List Page)
with_page row (Some slots) (Some pages) = Some (record { row = row; slots = slots } ∷ pages)
with_page row _ _ = None

-- the pages that were put under the keys of a root
abbrev pub pages_put : History → List PageRow → Option (List Page)
pages_put h [] = Some []
pages_put h (p ∷ rows) = with_page p (option_and_then page_in (object_put h p.key)) (pages_put h rows)

-- an index with all its slots, and its pages where it has pages
pub record Paged : Type 0 where
  pub pages : List Page
  pub index : Index

-- the slots of pages, one page behind another
abbrev pub page_slots_of : List Page → List Slot
page_slots_of = flat_map (λ (p : Page). p.slots)

-- the index of a root with these pages, where they have as many slots as it says
abbrev pub paged_index : Root → List Page → Option Paged
paged_index r pages = if nat_eq (length (page_slots_of pages)) r.slots
    then Some (record { pages = pages; index = record { schema = r.schema; rows = r.rows; slots = page_slots_of pages } })
    else None

-- the whole index of an object: its own, or that of its pages; a page is none
abbrev pub whole_index : History → IndexObject → Option Paged
whole_index h (objects.Flat i) = Some (record { pages = []; index = i })
whole_index h (objects.Root r) = option_and_then (paged_index r) (pages_put h r.pages)
whole_index h (objects.Page slots) = None

-- the index that was put under a key, with its pages
abbrev pub index_put : History → Key → Option Paged
index_put h key = option_and_then (whole_index h) (object_put h key)

-- ---- links

-- a link, with its index, the pages of its index, and its tiles, as they were put
pub record Linked : Type 0 where
  pub row : LinkRow
  pub pages : List Page
  pub index : Index
  pub tiles : List Tile

-- the frame that was put under a key
abbrev pub frame_put : History → Key → Option Frame
frame_put h key = option_and_then (λ body. read_of (segment_of body)) (body_put h key)

-- one tile more, where its frame was put
abbrev pub with_tile : Part → Option Frame → Option (List Tile) → Option (List Tile)
with_tile part (Some frame) (Some tiles) = Some ((part, frame) ∷ tiles)
with_tile part _ _ = None

-- the tiles that were put under the keys of the slots
abbrev pub tiles_put : History → List Slot → Option (List Tile)
tiles_put h [] = Some []
tiles_put h (s ∷ slots) = with_tile s.part (frame_put h s.key) (tiles_put h slots)

-- the link of a row, as it was put
abbrev pub linked : History → LinkRow → Option Linked
linked h row = option_and_then (λ i. option_map (λ tiles. record { row = row; pages = i.pages; index = i.index; tiles = tiles }) (tiles_put h i.index.slots)) (index_put h row.index)

-- the links that these marks make
abbrev pub links_in : History → List ChainMark → List Linked
links_in h [] = []
links_in h (marks.Link row ∷ more) = cons_option (linked h row) (links_in h more)
links_in h (_ ∷ more) = links_in h more

-- the links of an element
abbrev pub links_of : History → Option Entry → List Linked
links_of h None = []
links_of h (Some e) = links_in h e.changes

-- the links of the element under a key
abbrev pub links_at : History → Key → List Linked
links_at h entry = links_of h (element h entry)

-- the links of a symbol, the newest first
abbrev pub links : History → Name → List Linked
links [] symbol = []
links (events.Refer c s was entry list ∷ h) symbol = if same_name s symbol then links_at h entry ++ links h symbol else links h symbol
links (_ ∷ h) symbol = links h symbol

-- ---- what a link reaches

-- the keys that a link reaches
abbrev pub reached : Linked → List Key
reached l = l.row.index ∷ (map (λ (p : Page). p.row.key) l.pages ++ map (λ (s : Slot). s.key) l.index.slots)

-- the link reaches the key
abbrev pub reaches : Linked → Key → Bool
reaches l key = list_any (λ k. same_key k key) (reached l)

-- the link's version is live or held
abbrev pub is_needed : State → Linked → Bool
is_needed st l = is_kept st l.row.version

-- some link of the key's symbol reached it
abbrev pub is_reached : History → Key → Bool
is_reached h key = list_any (λ l. reaches l key) (links h key.name)

-- a live or held link of the key's symbol reaches it
abbrev pub is_reached_by_needed : History → Key → Bool
is_reached_by_needed h key = list_any (λ l. is_needed (state_of h key.name) l && reaches l key) (links h key.name)

-- ---- dead keys

-- a tile, an index or a page that some link reached, and that no live or held link reaches
pub record IsUnneeded (h : History) (key : Key) : Type 0 where
  pub once : is_reached h key ≡ true
  pub no_more : is_reached_by_needed h key ≡ false

-- a staged piece that is consumed
pub record IsConsumedPiece (h : History) (key : Key) : Type 0 where
  pub staged : key.kind ≡ kinds.Staged
  pub consumed : is_consumed (state_of h key.name) (record { client = key.client; serial = key.serial }) ≡ true

-- an own key that no link reached and that is no entry
pub record IsOwnUnlinked (h : History) (key : Key) (client : ℕ) : Type 0 where
  pub own : key.client ≡ client
  pub table : (same_kind key.kind kinds.TableData || same_kind key.kind kinds.TableIndex || same_kind key.kind kinds.Version) ≡ true
  pub unreached : is_reached h key ≡ false
  pub no_entry : is_entry h key.name key ≡ false

-- an element of the symbol's chain before its last Compact, which tells anew what it told.
-- Gate D, closed by its field `not_yet`: no element may be dropped because it was told anew. It opens by taking the field away, behind gates B
-- and C, once walks begin again: an element that a walk is to read may then be gone, since another client told the chain anew, so the walk looks at
-- the reference again and starts from there, as often as it may. With the gate goes: that no element is retold (`none_retold`), and so that a
-- walk finds each element that its reference leads to. Seen to prove with gates B, C and D open: that two clients drop the older elements of a
-- chain that was told anew (`gone_on_lawful`), that nobody drops the Compact (`no_drop_of_a_compact`) nor an element above it
-- (`no_drop_above_a_compact`)
pub record IsRetold (h : History) (key : Key) : Type 0 where
  pub not_yet : ⊥
  pub once : is_entry h key.name key ≡ true
  pub no_more : is_chained h key.name key ≡ false
