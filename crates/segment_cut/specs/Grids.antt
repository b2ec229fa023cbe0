-- The parts into which a frame is cut.
--     Grid                    the numbers of a frame's rows and columns, and its cutting
--     row_blocks, col_blocks  how many blocks of rows and slices of columns there are
--     part_at, parts          the part of a block and a slice; all parts, block by block
--     grid_of, tiles_of       the grid of a frame, and its tiles
use Rattle.std.specs.Prelude.{ℕ, ◌*◌, ◌-◌, min, max, List, length, map}
use Rattle.std.specs.List.{flat_map, range_with_len}
use Rattle.std.specs.Int.{div_ceil}
use Rattle.frame_core.specs.declared.part.Part.{Part}
use Rattle.frame_core.specs.Frames.{Frame}
use Rattle.segment_cut.specs.Cuttings.{Cutting}
use Rattle.segment_cut.specs.Tiles.{Tile, cut}

-- the numbers of rows and of columns that are cut, and how
pub record Grid : Type 0 where
  pub rows : ℕ
  pub cols : ℕ
  pub cutting : Cutting

-- how many blocks of rows there are: none where there are no rows
abbrev pub row_blocks : Grid → ℕ
row_blocks grid = div_ceil grid.rows grid.cutting.rows

-- how many slices of columns there are: one even where there are no columns
abbrev pub col_blocks : Grid → ℕ
col_blocks grid = max 1 (div_ceil grid.cols grid.cutting.cols)

-- the part of a block and a slice, both counted from 0: full, unless it is the last
abbrev pub part_at : Grid → ℕ → ℕ → Part
part_at grid block slice = record {
  first_row = block * grid.cutting.rows;
  rows = min grid.cutting.rows (grid.rows - block * grid.cutting.rows);
  first_col = slice * grid.cutting.cols;
  cols = min grid.cutting.cols (grid.cols - slice * grid.cutting.cols);
}

-- the parts of a block, slice by slice
abbrev pub block_parts : Grid → ℕ → List Part
block_parts grid block = map (part_at grid block) (range_with_len 0 (col_blocks grid))

-- all parts, block by block
abbrev pub parts : Grid → List Part
parts grid = flat_map (block_parts grid) (range_with_len 0 (row_blocks grid))

-- the grid of a frame
abbrev pub grid_of : Frame → Cutting → Grid
grid_of f cutting = record { rows = length f.rows; cols = length f.schema.columns; cutting = cutting }

-- the tiles of a frame: its parts with what is cut from it
abbrev pub tiles_of : Frame → Cutting → List Tile
tiles_of f cutting = map (λ part. (part, cut f part)) (parts (grid_of f cutting))
