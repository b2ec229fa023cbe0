-- Slots as an index spells them, one behind another.
--     span_of, span_at, span_text      a slot without its key, as it is read and spelled
--     plain_slot_at       the next slot, by the layout of its fields alone
--     slots_in            the slots that bytes spell
--     SpellSlots, SpellFrom      bytes that are nothing but the spellings of slots, all and from a place on
--     all_slots           the slots of runs
--     moved, MayMove      a slot whose run of slots is moved, and one that may be
use Rattle.std.specs.Prelude.{◌≡◌, ◌≤◌, ◌<◌, ◌^◌, ℕ, ◌+◌, ◌-◌, List, [], ◌∷◌, ◌++◌, length, drop, flat_map, Ok}
use Rattle.std.specs.Int.{w16, w32, to_be_bytes}
use Rattle.std.specs.List.{AllByRecursion}
use Rattle.std.specs.Result.{result_unwrap_or}
use Rattle.byte_fields.specs.Reading.{Reading, ◌>>=◌, number_at, signed_at, list_at, signed_text}
use Rattle.key_kind.specs.declared.key.Key.{Key}
use Rattle.key_kind.specs.KeyText.{key_at}
use Rattle.index_tree.specs.declared.index.Slot.{Slot}
use Rattle.index_tree.specs.declared.span.Span.{Span}
use Rattle.index_tree.specs.IndexText.{slot_text}
use Rattle.index_tree.specs.IndexRules.{FitsSlot}

-- the rows, columns and stamps of a slot
abbrev pub span_of : Slot → Span
span_of s = record { part = s.part; first = s.first; last = s.last }

-- the slot with this key and these rows, columns and stamps
abbrev pub slot_with : Key → Span → Slot
slot_with key span = record { key = key; part = span.part; first = span.first; last = span.last }

-- what a slot's spelling has behind its key
abbrev pub span_text : Span → List ℕ
span_text span =
    to_be_bytes w32 span.part.first_row ++ to_be_bytes w32 span.part.rows ++ signed_text span.first ++ signed_text span.last
    ++ to_be_bytes w16 span.part.first_col ++ to_be_bytes w16 span.part.cols

-- the next rows, columns and stamps
abbrev pub span_at : List ℕ → Reading Span
span_at bytes = do
  first_row ← number_at w32 bytes
  rows ← number_at w32 first_row.1
  first ← signed_at rows.1
  last ← signed_at first.1
  first_col ← number_at w16 last.1
  cols ← number_at w16 first_col.1
  Ok (record { part = record { first_row = first_row.0; rows = rows.0; first_col = first_col.0; cols = cols.0 }; first = first.0; last = last.0 }, cols.1)

-- the next slot, by the layout of its fields alone
abbrev pub plain_slot_at : List ℕ → Reading Slot
plain_slot_at bytes = do
  key ← key_at bytes
  span ← span_at key.1
  Ok (slot_with key.0 span.0, span.1)

-- so many slots that bytes spell; none where they spell fewer
unfoldable pub slots_in : ℕ → List ℕ → List Slot
slots_in count bytes = (result_unwrap_or (list_at plain_slot_at count bytes) ([], [])).0

-- the bytes are the spellings of so many slots, these, whose numbers fit their fields
pub record SpellSlots (count : ℕ) (bytes : List ℕ) (slots : List Slot) : Type 0 where
  pub text : bytes ≡ flat_map slot_text slots
  pub len : length slots ≡ count
  pub fits : AllByRecursion FitsSlot slots

-- the bytes from a place on are the spellings of so many slots
pub record SpellFrom (from count : ℕ) (bytes : List ℕ) : Type 0 where
  pub within : from ≤ length bytes
  pub spelled : SpellSlots count (drop from bytes) (slots_in count (drop from bytes))

-- the slots of runs, one run behind another
abbrev pub all_slots : List (List Slot) → List Slot
all_slots [] = []
all_slots (run ∷ runs) = run ++ all_slots runs

-- the slot of a run that begins with the row `from`, where the run begins with the row `to` instead
abbrev pub moved : ℕ → ℕ → Slot → Slot
moved from to s = record s { part = record s.part { first_row = (s.part.first_row - from) + to } }

-- the slot's first row is not before `from`, and its place behind `to` fits its field
abbrev pub MayMove : ℕ → ℕ → Slot → Type 0
MayMove from to s = (from ≤ s.part.first_row) × ((s.part.first_row - from) + to < 2 ^ 32)
