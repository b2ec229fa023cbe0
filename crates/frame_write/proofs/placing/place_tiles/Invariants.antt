use Rattle.std.proofs.Common.{◌≡◌, ◌++◌, ◌+◌, ◌<◌, ◌^◌, drop}
use Rattle.store_model.specs.OwnPuts.{slots_of}
use Rattle.frame_write.specs.Plans.{puts_seen}
use Rattle.frame_write.specs.Placing.{placed, tile_puts}
use Rattle.frame_write.proofs.placing.place_tiles.Given as goal

-- what is placed, and behind it what the other tiles will be
abbrev pub invariant-loop-tile : goal.invariant-loop-tile
invariant-loop-tile l = record {
  slots : l.all.slots ++ slots_of (placed l.fn.client l.fn.symbol l.fn.version l.all.next (drop l.tile-index l.tiles)) ≡ slots_of (placed l.fn.client l.fn.symbol l.fn.version l.fn.serial l.tiles);
  puts : puts_seen l.all.puts ++ tile_puts (placed l.fn.client l.fn.symbol l.fn.version l.all.next (drop l.tile-index l.tiles)) ≡ tile_puts (placed l.fn.client l.fn.symbol l.fn.version l.fn.serial l.tiles);
  next : l.all.next ≡ l.fn.serial + l.tile-index;
  fits : l.all.next < 2 ^ 64;
}
