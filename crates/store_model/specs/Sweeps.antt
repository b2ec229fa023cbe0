-- What the sweeping commands leave: a reclaim, a compaction and a tidy, each between the place p of its look and its end e. `apart` tells of which
-- keys a Drop before e was not the command's own.
--     IsDeadIndex, IsDeadPage      the index of a link, and a page of it, that is dead and stored
--     IsSwept             what a reclaim leaves of a symbol: dead indexes, their pages and tiles, and consumed pieces are gone
--     last_restates       the symbol's last Refer told its state anew
--     IsCompacted         what a compaction leaves: no element that the chain had before it
--     IsTidied            what a tidy leaves: a clean client, its holds released, and each symbol swept
use Rattle.std.specs.Prelude.{◌≡◌, ◌⊎◌, ℕ, Bool, true, false, List, [], ◌∷◌, map, Contains, None, is_some, if◌then◌else◌}
use Rattle.std.specs.List.{list_any, AllByRecursion}
use Rattle.index_tree.specs.declared.index.Slot.{Slot}
use Rattle.index_tree.specs.PageRules.{Page}
use Rattle.key_kind.specs.declared.key.Key.{Key}
use Rattle.key_kind.specs.declared.key.Holder.{Holder}
use Rattle.key_kind.specs.Names.{Name, same_name}
use Rattle.key_kind.specs.Keys.{same_key, same_holder}
use Rattle.bucket_core.specs.declared.event.Event.TheVariants as events
use Rattle.bucket_core.specs.History.{History, stored}
use Rattle.store_model.specs.Library.{Hold, state_of}
use Rattle.store_model.specs.Links.{Linked, links, restates, chain_entries, IsUnneeded, IsConsumedPiece}
use Rattle.store_model.specs.Collected.{IsClean}

-- ---- a reclaim

-- the index key of a link of the symbol that is dead and stored
pub record IsDeadIndex (g : History) (symbol : Name) (l : Linked) : Type 0 where
  pub link : Contains (links g symbol) l
  pub dead : IsUnneeded g l.row.index
  pub stands : is_some (stored g l.row.index) ≡ true

-- a page of such an index that is dead and stored
pub record IsDeadPage (g : History) (symbol : Name) (l : Linked) (p : Page) : Type 0 where
  pub index : IsDeadIndex g symbol l
  pub page : Contains l.pages p
  pub dead : IsUnneeded g p.row.key
  pub stands : is_some (stored g p.row.key) ≡ true

-- a page has a slot of this tile
abbrev pub names_tile : Page → Key → Bool
names_tile p key = list_any (λ (s : Slot). same_key s.key key) p.slots

-- a page of the link that names the tile is gone by another's hand
pub record HasPageApart (apart : Key → Type 0) (l : Linked) (key : Key) : Type 0 where
  pub page : Page
  pub of : Contains l.pages page
  pub names : names_tile page key ≡ true
  pub gone : apart page.row.key

-- of what was dead at p nothing is stored at e: indexes; their pages, but where the root went by another's hand; the tiles that an index names,
-- itself or by its pages, but where the index or that page went so; and consumed pieces. A tile is found by its index alone: a dead one whose
-- index had gone before p may stay for good, so a swept symbol can have dead keys yet (HasNoneDead of Collected says more)
pub record IsSwept (apart : Key → Type 0) (at_p at_e : History) (symbol : Name) : Type 0 where
  pub no_index : (l : Linked) → IsDeadIndex at_p symbol l → stored at_e l.row.index ≡ None
  pub no_page : (l : Linked) (p : Page) → IsDeadPage at_p symbol l p → (stored at_e p.row.key ≡ None) ⊎ apart l.row.index
  pub no_tile : (l : Linked) (key : Key) → IsDeadIndex at_p symbol l → Contains (map (λ (s : Slot). s.key) l.index.slots) key → IsUnneeded at_p key
      → (stored at_e key ≡ None) ⊎ apart l.row.index ⊎ HasPageApart apart l key
  pub no_piece : (key : Key) → key.name ≡ symbol → IsConsumedPiece at_p key → is_some (stored at_p key) ≡ true → stored at_e key ≡ None

-- ---- a compaction

-- the symbol's last Refer told its state anew
abbrev pub last_restates : History → Name → Bool
last_restates [] symbol = false
last_restates (events.Refer c s was entry list ∷ h) symbol = if same_name s symbol then restates list else last_restates h symbol
last_restates (_ ∷ h) symbol = last_restates h symbol

-- no element is stored at e that the chain had before the Compact. Of an element behind an older Compact it says nothing: to drop that one was
-- for the compaction which made it
abbrev pub IsCompacted : History → History → Name → Type 0
IsCompacted before at_e symbol = (key : Key) → Contains (chain_entries before symbol) key → stored at_e key ≡ None

-- ---- a tidy

-- the holder holds nothing of the symbol
abbrev pub IsReleased : History → Name → Holder → Type 0
IsReleased h symbol holder = list_any (λ (w : Hold). same_holder holder w.holder) (state_of h symbol).holds ≡ false

-- the client is clean, its debts are released, and each symbol is swept
pub record IsTidied (apart : Key → Type 0) (at_p at_e : History) (client : ℕ) (debts : List (Name × Holder)) : Type 0 where
  pub clean : IsClean at_e client
  pub released : AllByRecursion (λ (d : Name × Holder). IsReleased at_e d.0 d.1) debts
  pub swept : (symbol : Name) → IsSwept apart at_p at_e symbol
