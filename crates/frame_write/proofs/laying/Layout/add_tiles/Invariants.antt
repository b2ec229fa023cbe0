use Rattle.std.proofs.Common.{◌≡◌, ◌++◌, ◌+◌, ◌<◌, ◌^◌, drop}
use Rattle.std.specs.List.{AllByRecursion}
use Rattle.index_tree.specs.IndexRules.{FitsSlot}
use Rattle.frame_write.specs.Plans.{puts_seen}
use Rattle.frame_write.specs.Laying.{fresh_laid, slots_laid, puts_laid}
use Rattle.frame_write.proofs.laying.Layout.add_tiles.Given as goal

-- the slots and the puts so far, and behind them what the other tiles will be
abbrev pub invariant-loop-tile : goal.invariant-loop-tile
invariant-loop-tile l = record {
  slots : l.self.slots ≡ l.fn.self.slots;
  fresh : l.fresh ++ slots_laid (fresh_laid l.fn.client l.name l.fn.version l.begin l.self.next (drop l.tile-index l.tiles)) ≡ slots_laid (fresh_laid l.fn.client l.name l.fn.version l.fn.self.rows l.fn.self.next l.tiles);
  fit : AllByRecursion FitsSlot l.fresh;
  puts : puts_seen l.self.puts ++ puts_laid (fresh_laid l.fn.client l.name l.fn.version l.begin l.self.next (drop l.tile-index l.tiles)) ≡ puts_seen l.fn.self.puts ++ puts_laid (fresh_laid l.fn.client l.name l.fn.version l.fn.self.rows l.fn.self.next l.tiles);
  rows : l.self.rows ≡ l.fn.self.rows;
  begin : l.begin ≡ l.fn.self.rows;
  next : l.self.next ≡ l.fn.self.next + l.tile-index;
  fits : l.fn.self.next < 2 ^ 64 → l.self.next < 2 ^ 64;
}
