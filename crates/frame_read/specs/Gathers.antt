-- How tiles in memory make the columns and the stamps of a frame.
--     passes              the stamps before an edge of the range
--     fresh, reach        the rows of a tile in the range that lie beyond a row, and how far the tile reaches
--     cells_gathered, stamps_gathered     the cells of a column, and the stamps, of tiles in turn
--     HasType             a tile's column of a name is of a type
--     HasSegment, IsOpened        a tile's bytes are a segment, and a tile in memory is the one that was fetched
--     AreOfFrame          tiles of some frame
use Rattle.std.specs.Prelude.{◌≡◌, Bool, not, ℕ, ◌+◌, ◌-◌, max, ℤ, List, [], ◌∷◌, ◌++◌, length, drop, Option, Some, None, Ok}
use Rattle.std.specs.Arc.{arc_value}
use Rattle.frame_core.specs.declared.cell.Cell.{Cell}
use Rattle.frame_core.specs.Ranges.{Range, is_below, is_above}
use Rattle.frame_core.specs.Texts.{Text}
use Rattle.frame_core.specs.Schemas.{Head}
use Rattle.frame_core.specs.Frames.{Row, Frame, IsFrame, stamps_of, rows_within, type_at}
use Rattle.frame_core.specs.Columns.{cells_of}
use Rattle.frame_core.specs.Selecting.{place_of}
use Rattle.segment_bytes.specs.Segments.{segment_of}
use Rattle.segment_cut.specs.Tiles.{Tile}
use Rattle.frame_read.specs.declared.searching.Edge.{Edge}
use Rattle.frame_read.specs.declared.searching.Edge.TheVariants as edges
use Rattle.frame_read.specs.declared.tiles.FetchedTile.{FetchedTile}
use Rattle.frame_read.specs.declared.tiles.Tiles.{Tiles}
use Rattle.frame_read.specs.Wholes.{AreTilesOf}

-- whether a stamp lies before where the rows in the range begin, or before where they end
abbrev pub passes : Edge → Range → ℤ → Bool
passes edges.Begin range t = is_below range t
passes edges.End range t = not (is_above range t)

-- the rows of the tile in the range, from this row of the frame on
abbrev pub fresh : Range → ℕ → Tile → List Row
fresh range reached t = rows_within range (drop (reached - t.0.first_row) t.1.rows)

-- the row behind the last of the tile, unless a later one is reached
abbrev pub reach : ℕ → Tile → ℕ
reach reached t = max reached (t.0.first_row + length t.1.rows)

-- the cells of the column of a name in the tiles that have it, each row once
abbrev pub cells_gathered : Range → Text → ℕ → List Tile → List Cell
cells_gathered range name reached [] = []
cells_gathered range name reached (t ∷ ts) =
    elim (place_of name t.1.schema.columns) [
      | None ↦ cells_gathered range name reached ts
      | Some k ↦ cells_of k (fresh range reached t) ++ cells_gathered range name (reach reached t) ts
    ]

-- the stamps of the tiles, each row once
abbrev pub stamps_gathered : Range → ℕ → List Tile → List ℤ
stamps_gathered range reached [] = []
stamps_gathered range reached (t ∷ ts) = stamps_of (fresh range reached t) ++ stamps_gathered range (reach reached t) ts

-- the column of this name, where the tile has it, is of this type
abbrev pub HasType : Head → Tile → Type 0
HasType head t = (place : ℕ) → place_of head.0 t.1.schema.columns ≡ Some place → type_at t.1 place ≡ Some head.1

-- the tile's bytes spell a frame
abbrev pub HasSegment : FetchedTile → Type 0
HasSegment tile = (frame : Frame) × (segment_of (arc_value tile.body) ≡ Ok frame)

-- the tile in memory has the part and the rows of the one that was fetched
pub record IsOpened (fetched : FetchedTile) (t : Tile) : Type 0 where
  pub part : t.0 ≡ fetched.part
  pub frame : segment_of (arc_value fetched.body) ≡ Ok t.1

-- the tiles have what is asked of some frame
pub record AreOfFrame (tiles : Tiles) : Type 0 where
  pub frame : Frame
  pub columns : Option (List Text)
  pub is_frame : IsFrame frame
  pub tiles_of : AreTilesOf frame tiles.range columns tiles
