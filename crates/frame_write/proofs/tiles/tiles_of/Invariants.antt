use Rattle.std.proofs.Common.{◌≡◌, map}
use Rattle.std.specs.List.{flat_map, range_with_len, AllByRecursion}
use Rattle.segment_cut.specs.Grids.{block_parts, grid_of}
use Rattle.frame_write.specs.declared.tiles.Tile.{Tile}
use Rattle.frame_write.specs.Placing.{IsTileOf}
use Rattle.frame_write.proofs.tiles.tiles_of.Given as goal

-- the tiles of the blocks so far
abbrev pub invariant-loop-block : goal.invariant-loop-block
invariant-loop-block l = record {
  parts : map (λ (t : Tile). t.part) l.tiles ≡ flat_map (block_parts (grid_of l.frame l.fn.cutting)) (range_with_len 0 l.block);
  each : AllByRecursion (IsTileOf l.frame) l.tiles;
}
