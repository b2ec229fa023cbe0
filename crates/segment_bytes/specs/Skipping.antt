-- Bytes that are passed over, and what is remembered of them.
--     counted, last_from      cells and ends that were passed, as the bytes of text in them
--     ends_in             the numbers of four bytes at the front
--     width_at, skip_at   how long the cells of a spelled column are, and such a column as it lies in the bytes
--     parts_at            the parts of a spelled segment
use Rattle.std.specs.Prelude.{ℕ, suc, zero, ◌+◌, ◌-◌, ◌*◌, List, [], ◌∷◌, length, take, drop, Result, Ok, nat_eq, if◌then◌else◌}
use Rattle.std.specs.Int.{w8, w16, w32, from_be_bytes}
use Rattle.byte_fields.specs.Reading.{Reading, ◌>>=◌, number_at, bytes_at}
use Rattle.frame_core.specs.declared.cell.ColType.{ColType}
use Rattle.frame_core.specs.declared.cell.ColType.TheVariants as types
use Rattle.frame_core.specs.declared.cell.Cell.{Cell}
use Rattle.frame_core.specs.Texts.{Text}
use Rattle.segment_bytes.specs.Heads.{type_at}
use Rattle.segment_bytes.specs.CellTexts.{joined}

-- how many bytes of text the cells have, and the bytes after them
abbrev pub counted : List Cell × List ℕ → ℕ × List ℕ
counted x = (length (joined x.0), x.1)

-- the last of ends, or where the first text begins
abbrev pub last_end : ℕ → List ℕ → ℕ
last_end start [] = start
last_end start (e ∷ ends) = last_end e ends

-- the last end, and the bytes after the ends
abbrev pub last_from : ℕ → List ℕ × List ℕ → ℕ × List ℕ
last_from start x = (last_end start x.0, x.1)

-- the first n numbers of four bytes each
abbrev pub ends_in : ℕ → List ℕ → List ℕ
ends_in zero bytes = []
ends_in (suc n) bytes = from_be_bytes w32 (take 4 bytes) ∷ ends_in n (drop 4 bytes)

-- how many bytes the cells of a text column have, which has rows: four for each end, and as many as the last end says
abbrev pub texts_width : ℕ → List ℕ → Result ℕ ℕ
texts_width rows bytes = do
  ends ← bytes_at (4 * rows - 4) bytes
  last ← number_at w32 ends.1
  Ok (4 * rows + last.0)

-- how many bytes the cells of a column have: so many for each row, and for texts besides as many as the last end says
unfoldable pub width_at : ColType → ℕ → List ℕ → Result ℕ ℕ
width_at types.Int rows bytes = Ok (8 * rows)
width_at types.Flag rows bytes = Ok rows
width_at types.Stamp rows bytes = Ok (8 * rows)
width_at types.Text rows bytes = if nat_eq rows 0 then Ok 0 else texts_width rows bytes

-- the next column as it lies in the bytes: its type, its name and the bytes of its cells, none of them tested
unfoldable pub skip_at : ℕ → List ℕ → Reading (ColType × Text × List ℕ)
skip_at rows bytes = do
  kind ← type_at bytes
  n ← number_at w8 kind.1
  name ← bytes_at n.0 n.1
  width ← width_at kind.0 rows name.1
  cells ← bytes_at width name.1
  Ok ((kind.0, name.0, cells.0), cells.1)

-- the parts of a segment: how many rows and columns it has, the bytes from its stamps on, and those from its columns on, none
-- of them tested
unfoldable pub parts_at : List ℕ → Reading (ℕ × ℕ × List ℕ)
parts_at bytes = do
  magic ← bytes_at 4 bytes
  rows ← number_at w32 magic.1
  count ← number_at w16 rows.1
  stamps ← bytes_at (8 * rows.0) count.1
  Ok ((rows.0, count.0, count.1), stamps.1)
