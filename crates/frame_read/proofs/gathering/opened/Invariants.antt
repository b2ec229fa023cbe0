use Rattle.std.proofs.Common.{take}
use Rattle.std.specs.List.{AllZip}
use Rattle.frame_read.specs.Gathers.{IsOpened}
use Rattle.frame_read.proofs.gathering.opened.Given as goal

-- the tiles so far are in memory
abbrev pub invariant-loop-tile : goal.invariant-loop-tile
invariant-loop-tile l = AllZip IsOpened (take l.tile-index l.tiles) l.made.items
