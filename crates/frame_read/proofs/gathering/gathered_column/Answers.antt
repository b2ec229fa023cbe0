use Rattle.frame_read.proofs.GatherSteps.{type-there}
use Rattle.frame_read.proofs.gathering.gathered_column.Goals as goal

pub add_cells-requires : goal.add_cells-requires
add_cells-requires c = type-there c.args.head.now c.args.tiles.now c.tile-item.result c.loop-tile.tile-index c.in-Some.place _ c.requires c.loop-tile-test.true c.tile-item.is c.in-Some.ensures c.loop-tile.invariant.kind
