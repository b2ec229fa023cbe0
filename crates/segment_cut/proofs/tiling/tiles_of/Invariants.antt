use Rattle.std.proofs.Common.{◌≡◌, map}
use Rattle.std.specs.List.{flat_map, range_with_len}
use Rattle.segment_cut.specs.Tiles.{cut}
use Rattle.segment_cut.specs.Grids.{block_parts, grid_of}
use Rattle.segment_cut.proofs.tiling.tiles_of.Given as goal

-- the tiles of the blocks so far
abbrev pub invariant-loop-block : goal.invariant-loop-block
invariant-loop-block l = l.tiles ≡ map (λ p. (p, cut l.frame p)) (flat_map (block_parts (grid_of l.frame l.fn.cutting)) (range_with_len 0 l.block))
