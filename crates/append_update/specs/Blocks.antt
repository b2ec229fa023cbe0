-- Tiles of a run of row blocks, as those of a frame of its own.
--     whole               the range of all stamps
--     from_place, moved_tile      a part and a tile, with their rows counted from a row on
--     tiles_from          tiles of these columns, with their rows counted from a row on
use Rattle.std.specs.Prelude.{ℕ, ◌-◌, List, map, None}
use Rattle.frame_core.specs.declared.part.Part.{Part}
use Rattle.frame_core.specs.Ranges.{Range}
use Rattle.frame_core.specs.Schemas.{Schema}
use Rattle.frame_read.specs.declared.tiles.FetchedTile.{FetchedTile}
use Rattle.frame_read.specs.declared.tiles.Tiles.{Tiles}

-- all stamps
abbrev pub whole : Range
whole = record { from = None; to = None }

-- the part, with its rows counted from a row on
abbrev pub from_place : ℕ → Part → Part
from_place begin part = record part { first_row = part.first_row - begin }

-- the tile, with its rows counted from a row on
abbrev pub moved_tile : ℕ → FetchedTile → FetchedTile
moved_tile begin t = record t { part = from_place begin t.part }

-- these tiles, with their rows counted from a row on
abbrev pub tiles_from : Schema → ℕ → List FetchedTile → Tiles
tiles_from schema begin tiles = record { schema = schema; range = whole; tiles = map (moved_tile begin) tiles }
