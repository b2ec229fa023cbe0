use Rattle.std.proofs.Common.{◌≡◌, ◌++◌, map}
use Rattle.std.specs.List.{range_with_len}
use Rattle.segment_cut.specs.Tiles.{cut}
use Rattle.segment_cut.specs.Grids.{part_at, grid_of}
use Rattle.segment_cut.proofs.tiling.add_block.Given as goal

-- the tiles of the slices so far stand behind the others
abbrev pub invariant-loop-slice : goal.invariant-loop-slice
invariant-loop-slice l = l.tiles ≡ l.fn.tiles ++ map (λ p. (p, cut l.frame p)) (map (part_at (grid_of l.frame l.fn.cutting) l.fn.block) (range_with_len 0 l.slice))
