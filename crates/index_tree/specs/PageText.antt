-- The one spelling of a page and of a root, and how bytes are read as an index, a root or a page.
--     page_text, root_text      the spelling of a page and of a root
--     page_rules          what the next slot of a page may be
--     page_of, root_of    the page and the root that bytes spell, or the fault
--     object_of           the index, the root or the page that bytes spell, or the fault
use Rattle.std.specs.Prelude.{ℕ, suc, zero, ◌+◌, Bool, true, ◌||◌, ◌&&◌, List, [], ◌∷◌, ◌++◌, length, take, flat_map, Result, Ok, Err, Option, Some, None, nat_le, nat_lt, nat_eq, int_le, if◌then◌else◌}
use Rattle.std.specs.Cmp.Lexicographic.{pointwise}
use Rattle.std.specs.Int.{w16, w32, to_be_bytes, div_ceil}
use Rattle.std.specs.Ordering.{int_eq}
use Rattle.byte_fields.specs.Reading.{Reading, ◌>>=◌, wanted, whole, number_at, signed_at, magic_at, signed_text}
use Rattle.segment_bytes.specs.Heads.{head_text}
use Rattle.key_kind.specs.declared.key.KeyKind.TheVariants as kinds
use Rattle.key_kind.specs.KeyText.{key_text, key_of_at}
use Rattle.index_tree.specs.declared.index.Slot.{Slot}
use Rattle.index_tree.specs.declared.page.PageRow.{PageRow}
use Rattle.index_tree.specs.declared.page.Root.{Root}
use Rattle.index_tree.specs.declared.page.IndexObject.{IndexObject}
use Rattle.index_tree.specs.declared.page.IndexObject.TheVariants as objects
use Rattle.index_tree.specs.IndexText.{slot_text, heads_at, GoesOn, index_of}

-- a page has at most so many slots; an index of more has pages
abbrev pub page_slots : ℕ
page_slots = 64

-- ---- the spelling

-- the magic of a page
abbrev pub page_magic : List ℕ
page_magic = 65 ∷ 73 ∷ 80 ∷ 49 ∷ []

-- the spelling of a page
abbrev pub page_text : List Slot → List ℕ
page_text slots = page_magic ++ to_be_bytes w32 (length slots) ++ flat_map slot_text slots

-- the magic of a root
abbrev pub root_magic : List ℕ
root_magic = 65 ∷ 73 ∷ 88 ∷ 50 ∷ []

-- the spelling of a page's row
abbrev pub page_row_text : PageRow → List ℕ
page_row_text p = key_text p.key ++ signed_text p.first ++ signed_text p.last

-- the spelling of a root
abbrev pub root_text : Root → List ℕ
root_text r =
    root_magic ++ to_be_bytes w16 (length r.schema.columns) ++ flat_map head_text r.schema.columns
    ++ to_be_bytes w32 r.rows ++ to_be_bytes w32 r.slots ++ to_be_bytes w32 (length r.pages) ++ flat_map page_row_text r.pages

-- ---- the reading of a page

-- the slot goes on with the row block of the one before, which has columns
abbrev pub goes_on : Slot → ℕ → Bool
goes_on before row = nat_le 1 before.part.cols && nat_eq row before.part.first_row

-- as many rows as a row block may have
abbrev pub some_rows : ℕ → Bool
some_rows n = nat_le 1 n && nat_le n 100000

-- what the next slot, which begins at this row, may be: the first slot of a page anything; a later one goes on with the row block of
-- the slot before, or begins the next one
abbrev pub page_rules : Option Slot → ℕ → GoesOn
page_rules None row = record { first_row = λ n. true; rows = some_rows; first = λ t. true; last = int_le; first_col = λ n. true }
page_rules (Some before) row = if goes_on before row
    then record {
      first_row = λ n. true;
      rows = λ n. nat_eq n before.part.rows;
      first = λ t. int_eq t before.first;
      last = λ s t. int_eq t before.last;
      first_col = λ n. nat_eq n (before.part.first_col + before.part.cols);
    }
    else record {
      first_row = λ n. nat_eq n (before.part.first_row + before.part.rows);
      rows = some_rows;
      first = int_le before.last;
      last = int_le;
      first_col = λ n. nat_eq n 0;
    }

-- the next slot of a page
abbrev pub page_slot_at : Option Slot → List ℕ → Reading Slot
page_slot_at before bytes = do
  key ← key_of_at kinds.TableData bytes
  first_row ← number_at w32 key.1
  rows ← wanted ((page_rules before first_row.0).first_row first_row.0) key.1 (number_at w32 first_row.1)
  first ← wanted ((page_rules before first_row.0).rows rows.0) first_row.1 (signed_at rows.1)
  last ← wanted ((page_rules before first_row.0).first first.0 && int_eq key.0.first first.0) rows.1 (signed_at first.1)
  first_col ← wanted ((page_rules before first_row.0).last first.0 last.0 && int_eq key.0.last last.0) first.1 (number_at w16 last.1)
  cols ← wanted ((page_rules before first_row.0).first_col first_col.0) last.1 (number_at w16 first_col.1)
  wanted (nat_le cols.0 127 && (nat_le 1 cols.0 || nat_eq first_col.0 0)) first_col.1
      (Ok (record { key = key.0; part = record { first_row = first_row.0; rows = rows.0; first_col = first_col.0; cols = cols.0 }; first = first.0; last = last.0 }, cols.1))

-- the next n slots of a page
abbrev pub page_slots_at : Option Slot → ℕ → List ℕ → Reading (List Slot)
page_slots_at before zero bytes = Ok ([], bytes)
page_slots_at before (suc n) bytes = do
  slot ← page_slot_at before bytes
  more ← page_slots_at (Some slot.0) n slot.1
  Ok (slot.0 ∷ more.0, more.1)

-- the page that the bytes begin with: 1 to 64 slots
unfoldable pub page_at : List ℕ → Reading (List Slot)
page_at bytes = do
  m ← magic_at page_magic bytes
  count ← number_at w32 m.1
  wanted (nat_le 1 count.0 && nat_le count.0 page_slots) m.1 (page_slots_at None count.0 count.1)

-- the page that the bytes spell, or the fault
unfoldable pub page_of : List ℕ → Result (List Slot) ℕ
unfolding page_at
page_of bytes = whole (page_at bytes)

-- ---- the reading of a root

-- the next page's row, whose stamps are its key's
abbrev pub page_row_at : List ℕ → Reading PageRow
page_row_at bytes = do
  key ← key_of_at kinds.TableIndex bytes
  first ← signed_at key.1
  last ← wanted (int_eq key.0.first first.0) key.1 (signed_at first.1)
  wanted (int_eq key.0.last last.0) first.1 (Ok (record { key = key.0; first = first.0; last = last.0 }, last.1))

-- the rows of the next n pages
abbrev pub page_rows_at : ℕ → List ℕ → Reading (List PageRow)
page_rows_at zero bytes = Ok ([], bytes)
page_rows_at (suc n) bytes = do
  row ← page_row_at bytes
  more ← page_rows_at n row.1
  Ok (row.0 ∷ more.0, more.1)

-- the root that the bytes begin with: of more slots than a page has, and of as many pages as they fill
unfoldable pub root_at : List ℕ → Reading Root
root_at bytes = do
  m ← magic_at root_magic bytes
  n ← number_at w16 m.1
  heads ← heads_at [] n.0 n.1
  rows ← number_at w32 heads.1
  slots ← number_at w32 rows.1
  count ← wanted (nat_lt page_slots slots.0) rows.1 (number_at w32 slots.1)
  pages ← wanted (nat_eq count.0 (div_ceil slots.0 page_slots)) slots.1 (page_rows_at count.0 count.1)
  Ok (record { schema = record { timed = true; columns = heads.0 }; rows = rows.0; slots = slots.0; pages = pages.0 }, pages.1)

-- the root that the bytes spell, or the fault
unfoldable pub root_of : List ℕ → Result Root ℕ
unfolding root_at
root_of bytes = whole (root_at bytes)

-- ---- the reading of either

-- the bytes begin with this magic
abbrev pub begins : List ℕ → List ℕ → Bool
begins magic bytes = pointwise nat_eq (take (length magic) bytes) magic

-- what was read, as an object
abbrev pub as_object : {X : Type 0} → (X → IndexObject) → Result X ℕ → Result IndexObject ℕ
as_object make (Ok x) = Ok (make x)
as_object make (Err left) = Err left

-- the index, the root or the page that the bytes spell, or the fault
unfoldable pub object_of : List ℕ → Result IndexObject ℕ
object_of bytes =
    if begins page_magic bytes then as_object objects.Page (page_of bytes)
    else if begins root_magic bytes then as_object objects.Root (root_of bytes)
    else as_object objects.Flat (index_of bytes)
