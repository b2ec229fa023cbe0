use Rattle.std.proofs.Common.{◌≡◌, map, take}
use Rattle.segment_cut.proofs.joining.by_first_row.Given as goal

-- the tiles so far were lent
abbrev pub invariant-loop-tile : goal.invariant-loop-tile
invariant-loop-tile l = map (λ t. t.now) l.sorted.items ≡ take l.tile-index l.tiles
