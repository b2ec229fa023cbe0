-- The tiles of a frame, and the keys under which a try puts them and their index.
--     IsTileOf, AreTilesOf      a tile of a frame; the tiles of its whole grid
--     slot_at, placed     the slot of a tile under a serial; tiles with their slots, one serial after another
--     tile_puts           their keys and bodies
--     index_key           the key of the index
use Rattle.std.specs.Prelude.{◌≡◌, ℕ, suc, pos, List, [], ◌∷◌, ◌+◌, map, slice_range, unwrap_or, Some, Ok, FitsSigned}
use Rattle.std.specs.Int.{w64}
use Rattle.std.specs.Arc.{arc_value}
use Rattle.std.specs.List.{AllByRecursion}
use Rattle.frame_core.specs.Frames.{Frame, first_stamp, last_stamp}
use Rattle.segment_bytes.specs.Segments.{segment_of}
use Rattle.segment_cut.specs.Tiles.{cut}
use Rattle.segment_cut.specs.Cuttings.{Cutting, IsCutting}
use Rattle.segment_cut.specs.Grids.{parts, grid_of}
use Rattle.index_tree.specs.declared.index.Slot.{Slot}
use Rattle.key_kind.specs.declared.key.KeyKind.TheVariants as kinds
use Rattle.key_kind.specs.declared.key.Key.{Key}
use Rattle.key_kind.specs.Names.{Name}
use Rattle.bucket_core.specs.History.{Bytes}
use Rattle.frame_write.specs.declared.tiles.Tile.{Tile}

-- the stamps of the part's first and last row, and the part's segment
pub record IsTileOf (frame : Frame) (t : Tile) : Type 0 where
  pub first : first_stamp (slice_range frame.rows t.part.first_row (t.part.first_row + t.part.rows)) ≡ Some t.first
  pub last : last_stamp (slice_range frame.rows t.part.first_row (t.part.first_row + t.part.rows)) ≡ Some t.last
  pub spelled : segment_of (arc_value t.body) ≡ Ok (cut frame t.part)
  pub first_fits : FitsSigned w64 t.first
  pub last_fits : FitsSigned w64 t.last

-- the tiles of all parts of the frame's grid, block by block
pub record AreTilesOf (frame : Frame) (cutting : Cutting) (tiles : List Tile) : Type 0 where
  pub cutting_is : IsCutting cutting
  pub parts_are : map (λ (t : Tile). t.part) tiles ≡ parts (grid_of frame cutting)
  pub each : AllByRecursion (IsTileOf frame) tiles

-- the slot of a tile, with its key under this serial
abbrev pub slot_at : ℕ → Name → ℕ → ℕ → Tile → Slot
slot_at client symbol version serial t = record {
  key = record { kind = kinds.TableData; name = symbol; client = client; serial = serial; version = version; first = t.first; last = t.last };
  part = t.part;
  first = t.first;
  last = t.last;
}

-- tiles with their slots, under one serial after another, and their bodies
abbrev pub placed : ℕ → Name → ℕ → ℕ → List Tile → List (Slot × Bytes)
placed client symbol version serial [] = []
placed client symbol version serial (t ∷ tiles) = (slot_at client symbol version serial t, arc_value t.body) ∷ placed client symbol version (suc serial) tiles

-- the key and the body of a slot's tile
abbrev pub tile_put : Slot × Bytes → Key × Bytes
tile_put w = (w.0.key, w.1)

-- the keys and bodies of tiles
abbrev pub tile_puts : List (Slot × Bytes) → List (Key × Bytes)
tile_puts = map tile_put

-- the key of the frame's index: with the stamps of its first and last row, or 0
abbrev pub index_key : ℕ → Name → ℕ → ℕ → Frame → Key
index_key client symbol version serial frame = record {
  kind = kinds.TableIndex;
  name = symbol;
  client = client;
  serial = serial;
  version = version;
  first = unwrap_or (first_stamp frame.rows) (pos 0);
  last = unwrap_or (last_stamp frame.rows) (pos 0);
}
