use Rattle.std.proofs.Common.{◌≡◌, ◌++◌, drop}
use Rattle.frame_read.specs.Gathers.{stamps_gathered}
use Rattle.frame_read.proofs.gathering.gathered_stamps.Given as goal

-- the tiles that are left put behind the stamps so far what all tiles have
abbrev pub invariant-loop-tile : goal.invariant-loop-tile
invariant-loop-tile l = l.stamps ++ stamps_gathered l.range l.reached (drop l.tile-index l.tiles) ≡ stamps_gathered l.range 0 l.tiles
