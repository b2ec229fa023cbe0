-- How tiles are joined.
--     IsTiledBy, AreTiles     a frame of this schema that tiles make; tiles of which there is one
--     tile_cells, joined_cells    the cells that a tile has of a column, and that tiles have, one behind another
--     with_stamps, joined_stamps      the stamps with those of a tile that lie beyond them, and with those of tiles in turn
--     FitsKinds               whether a tile's columns are those of these types from its first column on
use Rattle.std.specs.Prelude.{◌≡◌, ℕ, ◌+◌, ◌-◌, ◌≤◌, ℤ, Bool, ◌&&◌, if◌then◌else◌, nat_le, nat_lt, List, [], ◌++◌, length, map, drop, fold, slice_range}
use Rattle.std.specs.List.{flat_map}
use Rattle.frame_core.specs.declared.cell.ColType.{ColType}
use Rattle.frame_core.specs.declared.cell.Cell.{Cell}
use Rattle.frame_core.specs.declared.part.Part.{Part}
use Rattle.frame_core.specs.Parts.{has_column}
use Rattle.frame_core.specs.Schemas.{Head, Schema}
use Rattle.frame_core.specs.Frames.{Frame, IsFrame, stamps_of}
use Rattle.frame_core.specs.Columns.{cells_of}
use Rattle.segment_cut.specs.Tiles.{Tile, Tiled}

-- the frame has this schema, and these are its tiles
pub record IsTiledBy (schema : Schema) (tiles : List Tile) (frame : Frame) : Type 0 where
  pub schema_is : frame.schema ≡ schema
  pub is_frame : IsFrame frame
  pub tiled : Tiled frame tiles

-- the tiles are those of one frame of this schema
pub record AreTiles (schema : Schema) (tiles : List Tile) : Type 0 where
  pub frame : Frame
  pub is : IsTiledBy schema tiles frame

-- the cells that a tile has of a column
abbrev pub tile_cells : ℕ → Tile → List Cell
tile_cells column t = if has_column t.0 column then cells_of (column - t.0.first_col) t.1.rows else []

-- the cells that tiles have of a column, one tile behind another
abbrev pub joined_cells : ℕ → List Tile → List Cell
joined_cells column = flat_map (tile_cells column)

-- the stamps, and behind them those of a tile that lie beyond them
abbrev pub with_stamps : List ℤ → Tile → List ℤ
with_stamps stamps t = stamps ++ drop (length stamps - t.0.first_row) (stamps_of t.1.rows)

-- the stamps, and behind them those of tiles in turn
abbrev pub joined_stamps : List ℤ → List Tile → List ℤ
joined_stamps = fold with_stamps

-- the columns of the tile have these types, from its first column on
abbrev pub FitsKinds : List ColType → Tile → Type 0
FitsKinds kinds t = (t.0.first_col + t.0.cols ≤ length kinds) × (map (λ (h : Head). h.1) t.1.schema.columns ≡ slice_range kinds t.0.first_col (t.0.first_col + t.0.cols))
