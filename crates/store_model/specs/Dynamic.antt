-- Frames whose cells may be missing: what a frame, an append or update that brings other columns, and tiles of short row blocks are to be, once
-- `Cell` can be missing. No clause rests on them yet: the law is over frames without missing cells, and is to keep its words over these.
--     Seen, WideRow, WideFrame      a cell or none; rows and frames of such
--     union, schemas_clash          the columns of two schemas; where one name has two types
--     widen, united                 a row under more columns; the rows of both frames under the columns of both
--     Tiled                         each cell that is not missing is in exactly one part, each cell in at most one, each row in at least one
use Rattle.std.specs.Prelude.{◌≡◌, ℕ, ℤ, ◌+◌, ◌<◌, ◌≤◌, Bool, ◌&&◌, not, if◌then◌else◌, List, [], ◌∷◌, ◌++◌, map, filter, length, Option, Some, None, option_and_then, slice_get, slice_range, count_by}
use Rattle.std.specs.List.{list_any, AllByRecursion}
use Rattle.frame_core.specs.declared.cell.Cell.{Cell}
use Rattle.frame_core.specs.declared.part.Part.{Part}
use Rattle.frame_core.specs.Texts.{Text, same_text}
use Rattle.frame_core.specs.Schemas.{Head, Schema, same_type}
use Rattle.segment_cut.specs.Tiles.{has_row, has_cell}

-- ---- frames

-- a value of its column's type, or missing
pub data Seen : Type 0 where
  seen : Cell → Seen
  missing : Seen

-- a stamp, and one cell for each column
pub record WideRow : Type 0 where
  pub stamp : ℤ
  pub cells : List Seen

-- a schema and rows
pub record WideFrame : Type 0 where
  pub schema : Schema
  pub rows : List WideRow

-- the cell of a row at a column
abbrev pub cell_at : WideFrame → ℕ → ℕ → Option Seen
cell_at f row column = option_and_then (λ (r : WideRow). slice_get r.cells column) (slice_get f.rows row)

-- ---- the columns of both

-- one of the columns has this name
abbrev pub is_named : List Head → Text → Bool
is_named columns name = list_any (λ (c : Head). same_text name c.0) columns

-- the columns of the first in order, and then the second's new ones in order
abbrev pub union : List Head → List Head → List Head
union first second = first ++ filter (λ (c : Head). not (is_named first c.0)) second

-- the least position in the second, from n, whose name the first has with another type
abbrev pub clashes_from : ℕ → List Head → List Head → Option ℕ
clashes_from n first [] = None
clashes_from n first (c ∷ more) =
    if list_any (λ (d : Head). same_text c.0 d.0 && not (same_type c.1 d.1)) first then Some n else clashes_from (n + 1) first more

abbrev pub schemas_clash : List Head → List Head → Option ℕ
schemas_clash = clashes_from 1

-- the cell under a name, which is missing where no column has the name
abbrev pub cell_named : Text → List Head → List Seen → Seen
cell_named name [] cells = missing
cell_named name (c ∷ columns) [] = missing
cell_named name (c ∷ columns) (x ∷ cells) = if same_text name c.0 then x else cell_named name columns cells

-- the row under other columns
abbrev pub widen : List Head → List Head → WideRow → WideRow
widen from to r = record { stamp = r.stamp; cells = map (λ (c : Head). cell_named c.0 from r.cells) to }

-- the rows of both frames, joined so, under the columns of both
abbrev pub united : (List WideRow → List WideRow → List WideRow) → WideFrame → WideFrame → WideFrame
united join base frame = record {
  schema = record base.schema { columns = union base.schema.columns frame.schema.columns };
  rows = join (map (widen base.schema.columns (union base.schema.columns frame.schema.columns)) base.rows)
      (map (widen frame.schema.columns (union base.schema.columns frame.schema.columns)) frame.rows);
}

-- ---- tiles

-- the columns of a row that lie in the part
abbrev pub cut_row : Part → WideRow → WideRow
cut_row part r = record r { cells = slice_range r.cells part.first_col (part.first_col + part.cols) }

-- the rows and columns of a part, with their stamps
abbrev pub cut : WideFrame → Part → WideFrame
cut f part = record {
  schema = record f.schema { columns = slice_range f.schema.columns part.first_col (part.first_col + part.cols) };
  rows = map (cut_row part) (slice_range f.rows part.first_row (part.first_row + part.rows));
}

-- the part lies in the frame
abbrev pub LiesIn : WideFrame → Part → Type 0
LiesIn f part = (part.first_row + part.rows ≤ length f.rows) × (part.first_col + part.cols ≤ length f.schema.columns)

-- each tile is its part of the frame; each cell is in at most one tile, and one that is in none is missing; each row is in some
pub record Tiled (frame : WideFrame) (tiles : List (Part × WideFrame)) : Type 0 where
  pub inside : AllByRecursion (λ (t : Part × WideFrame). LiesIn frame t.0) tiles
  pub parts : AllByRecursion (λ (t : Part × WideFrame). t.1 ≡ cut frame t.0) tiles
  pub once : (row column : ℕ) → row < length frame.rows → column < length frame.schema.columns → count_by (λ (t : Part × WideFrame). has_cell t.0 row column) tiles ≤ 1
  pub absent : (row column : ℕ) → row < length frame.rows → column < length frame.schema.columns → count_by (λ (t : Part × WideFrame). has_cell t.0 row column) tiles ≡ 0
      → cell_at frame row column ≡ Some missing
  pub rows : (row : ℕ) → row < length frame.rows → 1 ≤ count_by (λ (t : Part × WideFrame). has_row t.0 row) tiles
