-- The one spelling of an index, and how bytes are read as one, field by field.
--     front_text, index_text      the spelling of an index, and what of it stands before its slots
--     Reach, GoesOn       how far the slots reach, and what the next slot may be
--     index_of            the index that bytes spell, or the fault
use Rattle.std.specs.Prelude.{ℕ, suc, zero, ◌+◌, ℤ, pos, Bool, true, false, ◌||◌, ◌&&◌, not, List, [], ◌∷◌, ◌++◌, length, flat_map, Result, Ok, nat_le, nat_eq, int_le, if◌then◌else◌}
use Rattle.std.specs.Int.{w16, w32, to_be_bytes}
use Rattle.std.specs.Ordering.{int_eq}
use Rattle.byte_fields.specs.Reading.{Reading, ◌>>=◌, wanted, whole, number_at, signed_at, magic_at, signed_text}
use Rattle.frame_core.specs.Schemas.{Schema, Head}
use Rattle.segment_bytes.specs.Heads.{head_text, head_at}
use Rattle.key_kind.specs.declared.key.KeyKind.TheVariants as kinds
use Rattle.key_kind.specs.KeyText.{key_text, key_of_at}
use Rattle.index_tree.specs.declared.index.Slot.{Slot}
use Rattle.index_tree.specs.declared.index.Index.{Index}

-- the magic of an index
abbrev pub index_magic : List ℕ
index_magic = 65 ∷ 73 ∷ 88 ∷ 49 ∷ []

-- the spelling of a slot
abbrev pub slot_text : Slot → List ℕ
slot_text s =
    key_text s.key ++ to_be_bytes w32 s.part.first_row ++ to_be_bytes w32 s.part.rows ++ signed_text s.first ++ signed_text s.last
    ++ to_be_bytes w16 s.part.first_col ++ to_be_bytes w16 s.part.cols

-- what stands before the slots of an index of this schema, so many rows and so many slots
abbrev pub front_text : Schema → ℕ → ℕ → List ℕ
front_text schema rows count =
    index_magic ++ to_be_bytes w16 (length schema.columns) ++ flat_map head_text schema.columns
    ++ to_be_bytes w32 rows ++ to_be_bytes w32 count

-- the spelling of an index
abbrev pub index_text : Index → List ℕ
index_text i = front_text i.schema i.rows (length i.slots) ++ flat_map slot_text i.slots

-- ---- the reading

-- the next n columns, distinct from earlier ones
abbrev pub heads_at : List Head → ℕ → List ℕ → Reading (List Head)
heads_at earlier zero bytes = Ok ([], bytes)
heads_at earlier (suc n) bytes = do
  head ← head_at earlier bytes
  more ← heads_at (head.0 ∷ earlier) n head.1
  Ok (head.0 ∷ more.0, more.1)

-- how far the slots read so far reach: the last row block, and the columns of it that are covered
pub record Reach : Type 0 where
  pub first_row : ℕ
  pub rows : ℕ
  pub first : ℤ
  pub last : ℤ
  pub columns : ℕ
  pub is_open : Bool

-- before the first slot
abbrev pub no_reach : Reach
no_reach = record { first_row = 0; rows = 0; first = pos 0; last = pos 0; columns = 0; is_open = false }

-- the slot goes on with the open row block, or begins the next one
pub record GoesOn : Type 0 where
  pub first_row : ℕ → Bool
  pub rows : ℕ → Bool
  pub first : ℤ → Bool
  pub last : ℤ → ℤ → Bool
  pub first_col : ℕ → Bool

-- `total` rows are to be covered; only the first row block may begin at any stamp
abbrev pub rules_after : ℕ → Reach → GoesOn
rules_after total r = if r.is_open
    then record {
      first_row = λ n. nat_eq n r.first_row;
      rows = λ n. nat_eq n r.rows;
      first = λ t. int_eq t r.first;
      last = λ s t. int_eq t r.last;
      first_col = λ n. nat_eq n r.columns;
    }
    else record {
      first_row = λ n. nat_eq n (r.first_row + r.rows);
      rows = λ n. nat_le 1 n && nat_le n 100000 && nat_le (r.first_row + r.rows + n) total;
      first = λ t. nat_eq r.rows 0 || int_le r.last t;
      last = int_le;
      first_col = λ n. nat_eq n 0;
    }

-- the next slot, of an index of so many rows and columns
abbrev pub slot_at : ℕ → ℕ → Reach → List ℕ → Reading Slot
slot_at total columns reach bytes = do
  key ← key_of_at kinds.TableData bytes
  first_row ← number_at w32 key.1
  rows ← wanted (rule.first_row first_row.0) key.1 (number_at w32 first_row.1)
  first ← wanted (rule.rows rows.0) first_row.1 (signed_at rows.1)
  last ← wanted (rule.first first.0 && int_eq key.0.first first.0) rows.1 (signed_at first.1)
  first_col ← wanted (rule.last first.0 last.0 && int_eq key.0.last last.0) first.1 (number_at w16 last.1)
  cols ← wanted (rule.first_col first_col.0) last.1 (number_at w16 first_col.1)
  wanted (if nat_eq columns 0 then nat_eq cols.0 0 else nat_le 1 cols.0 && nat_le cols.0 127 && nat_le (first_col.0 + cols.0) columns) first_col.1
      (Ok (record { key = key.0; part = record { first_row = first_row.0; rows = rows.0; first_col = first_col.0; cols = cols.0 }; first = first.0; last = last.0 }, cols.1))
  where
    rule : GoesOn
    rule = rules_after total reach

-- how far a slot reaches
abbrev pub reach_of : ℕ → Slot → Reach
reach_of columns s = record {
  first_row = s.part.first_row;
  rows = s.part.rows;
  first = s.first;
  last = s.last;
  columns = s.part.first_col + s.part.cols;
  is_open = not (nat_eq (s.part.first_col + s.part.cols) columns);
}

-- the next n slots, which cover all rows and columns that are left
abbrev pub slots_at : ℕ → ℕ → Reach → ℕ → List ℕ → Reading (List Slot)
slots_at total columns reach zero bytes = wanted (not reach.is_open && nat_eq (reach.first_row + reach.rows) total) bytes (Ok ([], bytes))
slots_at total columns reach (suc n) bytes = do
  slot ← slot_at total columns reach bytes
  more ← slots_at total columns (reach_of columns slot.0) n slot.1
  Ok (slot.0 ∷ more.0, more.1)

-- the index that the bytes begin with
unfoldable pub index_at : List ℕ → Reading Index
index_at bytes = do
  m ← magic_at index_magic bytes
  n ← number_at w16 m.1
  heads ← heads_at [] n.0 n.1
  rows ← number_at w32 heads.1
  count ← number_at w32 rows.1
  slots ← slots_at rows.0 n.0 no_reach count.0 count.1
  Ok (record { schema = record { timed = true; columns = heads.0 }; rows = rows.0; slots = slots.0 }, slots.1)

-- the index that the bytes spell, or the fault
unfoldable pub index_of : List ℕ → Result Index ℕ
unfolding index_at
index_of bytes = whole (index_at bytes)
