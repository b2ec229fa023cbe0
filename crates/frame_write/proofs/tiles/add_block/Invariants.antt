use Rattle.std.proofs.Common.{◌≡◌, ◌++◌, map}
use Rattle.std.specs.List.{range_with_len, AllByRecursion}
use Rattle.segment_cut.specs.Grids.{part_at, grid_of}
use Rattle.frame_write.specs.declared.tiles.Tile.{Tile}
use Rattle.frame_write.specs.Placing.{IsTileOf}
use Rattle.frame_write.proofs.tiles.add_block.Given as goal

-- the tiles of the slices so far stand behind the others
abbrev pub invariant-loop-slice : goal.invariant-loop-slice
invariant-loop-slice l = record {
  parts : map (λ (t : Tile). t.part) l.tiles ≡ map (λ (t : Tile). t.part) l.fn.tiles ++ map (part_at (grid_of l.frame l.fn.cutting) l.fn.block) (range_with_len 0 l.slice);
  each : AllByRecursion (IsTileOf l.frame) l.fn.tiles → AllByRecursion (IsTileOf l.frame) l.tiles;
}
