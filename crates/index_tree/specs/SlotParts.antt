-- The parts in which a slot is read, behind its key.
--     rows_at             its first row and its rows
--     stamps_at           its first and its last stamp
--     slice_at            its first column and its columns
use Rattle.std.specs.Prelude.{ℕ, ◌+◌, ℤ, ◌&&◌, List, Ok, nat_le, nat_eq, if◌then◌else◌}
use Rattle.std.specs.Int.{w16, w32}
use Rattle.std.specs.Ordering.{int_eq}
use Rattle.byte_fields.specs.Reading.{Reading, ◌>>=◌, wanted, number_at, signed_at}
use Rattle.key_kind.specs.declared.key.Key.{Key}
use Rattle.index_tree.specs.IndexText.{GoesOn}

-- the first row of a slot, and how many rows it has
abbrev pub rows_at : GoesOn → List ℕ → Reading (ℕ × ℕ)
rows_at rule bytes = do
  first_row ← number_at w32 bytes
  rows ← wanted (rule.first_row first_row.0) bytes (number_at w32 first_row.1)
  wanted (rule.rows rows.0) first_row.1 (Ok ((first_row.0, rows.0), rows.1))

-- the first and the last stamp of a slot, which are those of its key
abbrev pub stamps_at : GoesOn → Key → List ℕ → Reading (ℤ × ℤ)
stamps_at rule key bytes = do
  first ← signed_at bytes
  last ← wanted (rule.first first.0 && int_eq key.first first.0) bytes (signed_at first.1)
  wanted (rule.last first.0 last.0 && int_eq key.last last.0) first.1 (Ok ((first.0, last.0), last.1))

-- the first column of a slot, and how many columns it has, of so many in the index
abbrev pub slice_at : ℕ → GoesOn → List ℕ → Reading (ℕ × ℕ)
slice_at columns rule bytes = do
  first_col ← number_at w16 bytes
  cols ← wanted (rule.first_col first_col.0) bytes (number_at w16 first_col.1)
  wanted (if nat_eq columns 0 then nat_eq cols.0 0 else nat_le 1 cols.0 && nat_le cols.0 127 && nat_le (first_col.0 + cols.0) columns) first_col.1 (Ok ((first_col.0, cols.0), cols.1))
