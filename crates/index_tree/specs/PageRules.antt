-- When pages are the index of a frame.
--     Page                a page, with its row and its slots
--     HasPageStamps       the row has the first and the last stamp of the slots
--     AreFull             each page but the last is full
--     ArePages, FitsPages      pages whose slots lead through a frame as those of an index do
use Rattle.std.specs.Prelude.{◌≡◌, ℤ, List, [], ◌∷◌, length, Option, Some, None, ⊤}
use Rattle.std.specs.List.{AllByRecursion}
use Rattle.index_tree.specs.declared.index.Slot.{Slot}
use Rattle.index_tree.specs.declared.index.Index.{Index}
use Rattle.index_tree.specs.declared.page.PageRow.{PageRow}
use Rattle.index_tree.specs.PageText.{page_slots}
use Rattle.index_tree.specs.IndexRules.{IsSlot, Cover}

-- a page: what its root says of it, and its slots
pub record Page : Type 0 where
  pub row : PageRow
  pub slots : List Slot

-- the stamp with which the first slot begins, and the one with which the last ends
abbrev pub first_of_slots : List Slot → Option ℤ
first_of_slots [] = None
first_of_slots (s ∷ more) = Some s.first

abbrev pub last_of_slots : List Slot → Option ℤ
last_of_slots [] = None
last_of_slots (s ∷ []) = Some s.last
last_of_slots (s ∷ t ∷ more) = last_of_slots (t ∷ more)

-- the row of a page has the stamps of its slots
pub record HasPageStamps (p : Page) : Type 0 where
  pub first : first_of_slots p.slots ≡ Some p.row.first
  pub last : last_of_slots p.slots ≡ Some p.row.last

-- each page but the last is full
abbrev pub AreFull : List Page → Type 0
AreFull [] = ⊤
AreFull (p ∷ []) = ⊤
AreFull (p ∷ q ∷ more) = (length p.slots ≡ page_slots) × AreFull (q ∷ more)

-- full pages with their stamps, whose slots, together, keep the rules of an index
pub record ArePages (i : Index) (pages : List Page) : Type 0 where
  pub stamps : AllByRecursion HasPageStamps pages
  pub full : AreFull pages
  pub each : AllByRecursion (IsSlot (length i.schema.columns)) i.slots
  pub cover : Cover i.rows (length i.schema.columns) i.slots

-- the pages of an index; one that is not in pages keeps the rules by its spelling
abbrev pub FitsPages : Index → List Page → Type 0
FitsPages i [] = ⊤
FitsPages i (p ∷ pages) = ArePages i (p ∷ pages)
