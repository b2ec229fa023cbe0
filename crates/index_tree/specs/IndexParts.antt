-- The parts in which an index is read.
--     columns_at          the number of its columns, and the columns
--     counts_at           its rows, and how many slots it has
--     tiles_of            its rows and its slots
use Rattle.std.specs.Prelude.{ℕ, List, [], Result, Ok}
use Rattle.std.specs.Int.{w16, w32}
use Rattle.byte_fields.specs.Reading.{Reading, ◌>>=◌, number_at, magic_at, whole}
use Rattle.frame_core.specs.Schemas.{Head}
use Rattle.index_tree.specs.declared.index.Slot.{Slot}
use Rattle.index_tree.specs.IndexText.{index_magic, no_reach, heads_at, slots_at}

-- the number of the columns and the columns, behind the bytes with which each index begins
unfoldable pub columns_at : List ℕ → Reading (ℕ × List Head)
columns_at bytes = do
  m ← magic_at index_magic bytes
  n ← number_at w16 m.1
  heads ← heads_at [] n.0 n.1
  Ok ((n.0, heads.0), heads.1)

-- the number of rows, and that of slots
unfoldable pub counts_at : List ℕ → Reading (ℕ × ℕ)
counts_at bytes = do
  rows ← number_at w32 bytes
  count ← number_at w32 rows.1
  Ok ((rows.0, count.0), count.1)

-- the number of rows of an index of so many columns, and its slots, behind which nothing follows
abbrev pub tiles_of : ℕ → List ℕ → Result (ℕ × List Slot) ℕ
tiles_of columns bytes = whole (do
  counts ← counts_at bytes
  slots ← slots_at counts.0.0 columns no_reach counts.0.1 counts.1
  Ok ((counts.0.0, slots.0), slots.1))
