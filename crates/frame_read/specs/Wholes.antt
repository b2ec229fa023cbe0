-- What fetched tiles have of the frame of their version.
--     HoldsPart           a tile holds its part of a frame
--     AreTilesOf          tiles that have what is asked of a frame
--     FetchedIsFrame      in a lawful history fetched tiles have what is asked of their version's frame
use Rattle.std.specs.Prelude.{◌≡◌, ℕ, ℤ, true, List, slice_get, Option, Some, Ok, Contains}
use Rattle.std.specs.List.{list_any, AllByRecursion}
use Rattle.std.specs.Arc.{arc_value}
use Rattle.frame_core.specs.Ranges.{Range, is_within}
use Rattle.frame_core.specs.Texts.{Text}
use Rattle.frame_core.specs.Schemas.{Head}
use Rattle.frame_core.specs.Frames.{Frame, IsFrame, stamp_at}
use Rattle.segment_bytes.specs.Segments.{segment_of}
use Rattle.segment_cut.specs.Tiles.{cut, has_row, has_cell}
use Rattle.bucket_core.specs.History.{History}
use Rattle.store_model.specs.Library.{Version, state_of}
use Rattle.store_model.specs.Law.{IsLawful}
use Rattle.frame_read.specs.declared.target.Target.{Target}
use Rattle.frame_read.specs.declared.tiles.FetchedTile.{FetchedTile}
use Rattle.frame_read.specs.declared.tiles.Tiles.{Tiles}
use Rattle.reply_model.specs.ReadAnswers.{is_asked}
use Rattle.frame_read.specs.TileSets.{IsAskedSchema, IsFetched}

-- the tile's segment is its part of the frame
abbrev pub HoldsPart : Frame → FetchedTile → Type 0
HoldsPart frame tile = segment_of (arc_value tile.body) ≡ Ok (cut frame tile.part)

-- the tiles have each row of the frame that is in the range, and of these each cell that is asked; each holds its part of the
-- frame; and the schema is that of the asked columns, in the order asked
pub record AreTilesOf (frame : Frame) (range : Range) (columns : Option (List Text)) (tiles : Tiles) : Type 0 where
  pub range_is : tiles.range ≡ range
  pub schema : IsAskedSchema frame.schema columns tiles.schema
  pub parts : AllByRecursion (HoldsPart frame) tiles.tiles
  pub rows : (row : ℕ) (t : ℤ) → stamp_at frame row ≡ Some t → is_within range t ≡ true → list_any (λ (tile : FetchedTile). has_row tile.part row) tiles.tiles ≡ true
  pub cells : (row column : ℕ) (t : ℤ) (head : Head) → stamp_at frame row ≡ Some t → is_within range t ≡ true → slice_get frame.schema.columns column ≡ Some head → is_asked columns head.0 ≡ true
      → list_any (λ (tile : FetchedTile). has_cell tile.part row column) tiles.tiles ≡ true

-- a version of the target's number, of whose frame the tiles have what is asked
pub record HasFrame (h : History) (target : Target) (range : Range) (columns : Option (List Text)) (tiles : Tiles) : Type 0 where
  pub version : Version
  pub version_is : Contains (state_of h target.symbol).versions version
  pub number : version.number ≡ target.version
  pub is_frame : IsFrame version.frame
  pub tiles_of : AreTilesOf version.frame range columns tiles

-- in each lawful history fetched tiles are so
abbrev pub FetchedIsFrame : Type 0
FetchedIsFrame = (h : History) → IsLawful h → (target : Target) (range : Range) (columns : Option (List Text)) (tiles : Tiles) → IsFetched h target range columns tiles → HasFrame h target range columns tiles
