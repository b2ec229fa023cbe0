-- The plain file of a frame, whose columns are whole numbers.
--     column_name_at          the name of a column
--     column_from             the numbers at one place of the rows
--     plain_rows_of           the rows of a text
--     table_from, rows_table  the table of names and rows
--     plain_table_of          the table of a file
use Rattle.std.specs.Prelude.{ℕ, suc, ℤ, Bool, true, false, List, [], ◌∷◌, map, length, drop, filter_map, slice_get, Option, option_map, nat_le}
use Rattle.std.specs.List.{list_all}
use Rattle.frame_core.specs.Texts.{Text}
use Rattle.frame_core.specs.declared.cell.ColType.{ColType}
use Rattle.frame_core.specs.declared.cell.ColType.TheVariants as types
use Rattle.frame_core.specs.declared.cell.Cell.{Cell}
use Rattle.frame_core.specs.declared.cell.Cell.TheVariants as cells
use Rattle.frame_core.specs.RawFrames.{Table}
use Rattle.script_lang.specs.Fronts.{Front, ◌>>=◌, where_true, identifier_at, whole_number_at, line_at, all_of}

-- a whole number is the type of each column of a plain file
abbrev pub is_int : ColType → Bool
is_int types.Int = true
is_int _ = false

-- a name of at most 255 bytes
abbrev pub short_name : Text × Text → Option (Text × Text)
short_name x = where_true (nat_le (length x.0) 255) x

-- the name of a column: an identifier of at most 255 bytes
unfoldable pub column_name_at : Front Text
column_name_at text = identifier_at text >>= short_name

-- the rows of a text: each has so many whole numbers
unfoldable pub plain_rows_of : ℕ → Text → Option (List (List ℤ))
plain_rows_of numbers text = all_of (line_at whole_number_at numbers) (length text) text

-- the first number of each row
abbrev pub firsts : List (List ℤ) → List ℤ
firsts rows = filter_map (λ r. slice_get r 0) rows

-- the columns of these types that the rows make: the first column has the first number of each row
abbrev pub columns_from : List ColType → List (List ℤ) → List (ColType × List Cell)
columns_from [] rows = []
columns_from (kind ∷ kinds) rows = (kind, map cells.Int (firsts rows)) ∷ columns_from kinds (map (drop 1) rows)

-- a table: the first number of each row is its stamp
abbrev pub table_from : List ColType → List Text → List (List ℤ) → Table
table_from kinds names rows = record { stamps = firsts rows; names = names; columns = columns_from kinds (map (drop 1) rows) }

-- the table of these names and of the rows of a text
unfoldable pub rows_table : List ColType → List Text → Text → Option Table
rows_table kinds names text = option_map (table_from kinds names) (plain_rows_of (suc (length kinds)) text)

-- the table of a plain file: a header with the index's name, which does not count, and a name for each type; then the rows,
-- each with its stamp and a whole number for each type
unfoldable pub plain_table_of : List ColType → Text → Option Table
plain_table_of kinds text = do
  checked ← where_true (list_all is_int kinds) text
  header ← line_at column_name_at (suc (length kinds)) checked
  rows_table kinds (drop 1 header.0) header.1
