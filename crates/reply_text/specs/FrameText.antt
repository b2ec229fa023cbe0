-- How a frame is printed: a header and its rows, each as a record of fields.
--     record_text             the line of a record: its fields between commas
--     cell_text               the field of a cell
--     header_fields, row_fields      the fields of the header and of a row
--     frame_lines             the lines of a frame
use Rattle.std.specs.Prelude.{Bool, true, false, if◌then◌else◌, List, [], ◌∷◌, ◌++◌, map, codes}
use Rattle.std.specs.List.{join_with_byte}
use Rattle.std.specs.Fmt.{signed_decimal}
use Rattle.frame_core.specs.declared.cell.Cell.{Cell}
use Rattle.frame_core.specs.declared.cell.Cell.TheVariants as cells
use Rattle.frame_core.specs.Texts.{Text}
use Rattle.frame_core.specs.Schemas.{Head}
use Rattle.frame_core.specs.Frames.{Row, Frame}

-- a line with its end
abbrev pub ended : Text → Text
ended line = line ++ 10 ∷ []

-- the line of a record: its fields between commas
unfoldable pub record_text : List Text → Text
record_text fields = ended (join_with_byte 44 fields)

-- the field of a cell
abbrev pub cell_text : Cell → Text
cell_text (cells.Int n) = signed_decimal n
cell_text (cells.Flag b) = if b then codes "True" else codes "False"
cell_text (cells.Text t) = t
cell_text (cells.Stamp n) = signed_decimal n

-- the field of the index, where there is one
abbrev pub index_text : Bool → Text → Text
index_text timed field = if timed then field else []

-- the fields with one for the index before them, where there is an index
abbrev pub with_index : Bool → Text → List Text → List Text
with_index true field fields = field ∷ fields
with_index false field fields = fields

-- the fields of the header
abbrev pub header_fields : Frame → List Text
header_fields f = with_index f.schema.timed (codes "time") (map (λ (c : Head). c.0) f.schema.columns)

-- the fields of a row
abbrev pub row_fields : Bool → Row → List Text
row_fields timed r = with_index timed (signed_decimal r.stamp) (map cell_text r.cells)

-- the header and the rows
abbrev pub frame_lines : Frame → List Text
frame_lines f = record_text (header_fields f) ∷ map (λ r. record_text (row_fields f.schema.timed r)) f.rows
