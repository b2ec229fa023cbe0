use Rattle.frame_read.specs.Gathers.{HasSegment, IsOpened}
use Rattle.frame_read.proofs.GatherSteps.{all-at, zip-step}
use Rattle.frame_read.proofs.gathering.opened.Goals as goal

pub opened_frame-requires : goal.opened_frame-requires
opened_frame-requires c = all-at HasSegment c.args.tiles.now c.tile-item.result c.loop-tile.tile-index c.requires c.loop-tile-test.true c.tile-item.is

pub loop-tile-preserved : goal.loop-tile-preserved
loop-tile-preserved c = zip-step IsOpened c.args.tiles.now c.tile-item.result c.loop-tile.tile-index c.loop-tile.made.items _ (c.tile-item.result.part, c.in_ok-frame.frame) c.loop-tile-test.true c.tile-item.is c.loop-tile.invariant c.in_ok-push.ensures.items c.in_ok-frame.ensures
