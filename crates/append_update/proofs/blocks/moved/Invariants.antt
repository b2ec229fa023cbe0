use Rattle.std.proofs.Common.{◌≡◌, ◌++◌, map}
use Rattle.append_update.specs.Blocks.{moved_tile}
use Rattle.append_update.proofs.blocks.moved.Given as goal

-- the moved tiles, and what the others will be
abbrev pub invariant-loop-tile : goal.invariant-loop-tile
invariant-loop-tile l = l.moved ++ map (moved_tile l.begin) l.tile-iterator.rest.items ≡ map (moved_tile l.begin) l.fn.tiles
