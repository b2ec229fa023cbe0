use Rattle.frame_read.proofs.GatherSteps.{stamps-step}
use Rattle.frame_read.proofs.gathering.gathered_stamps.Goals as goal

pub loop-tile-preserved : goal.loop-tile-preserved
loop-tile-preserved c = stamps-step c.args.tiles.now c.tile-item.result c.loop-tile.tile-index c.args.range c.loop-tile.reached _ c.fresh_rows-from.result.0 c.fresh_rows-from.result.1 c.loop-tile.stamps _ _ _ c.loop-tile-test.true c.tile-item.is c.in_ok-more.ensures c.fresh_rows-from.ensures.rows c.in_ok-put_stamps.ensures c.in_ok-reached.ensures c.loop-tile.invariant
