-- When tiles are the tiles of a frame.
--     cut                the part of a frame
--     Tiled              tiles that are parts of a frame: each cell is in exactly one part, and each row in at least one
use Rattle.std.specs.Prelude.{◌≡◌, ℕ, ◌+◌, ◌<◌, ◌≤◌, List, map, length, slice_range, count_by, ◌&&◌, nat_le, nat_lt, Bool}
use Rattle.std.specs.List.{AllByRecursion}
use Rattle.frame_core.specs.declared.part.Part.{Part}
use Rattle.frame_core.specs.Frames.{Row, Frame}

-- the columns of a row that lie in the part
abbrev pub cut_row : Part → Row → Row
cut_row part r = record r { cells = slice_range r.cells part.first_col (part.first_col + part.cols) }

-- the rows and columns of a part, with their stamps
abbrev pub cut : Frame → Part → Frame
cut f part = record {
  schema = record f.schema { columns = slice_range f.schema.columns part.first_col (part.first_col + part.cols) };
  rows = map (cut_row part) (slice_range f.rows part.first_row (part.first_row + part.rows));
}

-- whether the part has the row, and the cell of a row
abbrev pub has_row : Part → ℕ → Bool
has_row part row = nat_le part.first_row row && nat_lt row (part.first_row + part.rows)

-- whether the part has the cell of a row and a column
abbrev pub has_cell : Part → ℕ → ℕ → Bool
has_cell part row column = has_row part row && nat_le part.first_col column && nat_lt column (part.first_col + part.cols)

-- a tile: which part it is, and the frame that it holds
abbrev pub Tile : Type 0
Tile = Part × Frame

-- the part lies in the frame
abbrev pub LiesIn : Frame → Part → Type 0
LiesIn f part = (part.first_row + part.rows ≤ length f.rows) × (part.first_col + part.cols ≤ length f.schema.columns)

-- each tile is its part of the frame; each cell is in one tile, and each row in some
pub record Tiled (frame : Frame) (tiles : List Tile) : Type 0 where
  pub inside : AllByRecursion (λ t. LiesIn frame t.0) tiles
  pub parts : AllByRecursion (λ t. t.1 ≡ cut frame t.0) tiles
  pub cells : (row column : ℕ) → row < length frame.rows → column < length frame.schema.columns → count_by (λ t. has_cell t.0 row column) tiles ≡ 1
  pub rows : (row : ℕ) → row < length frame.rows → 1 ≤ count_by (λ t. has_row t.0 row) tiles
