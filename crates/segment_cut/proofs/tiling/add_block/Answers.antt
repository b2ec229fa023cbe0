use Rattle.segment_cut.specs.Grids.{grid_of}
use Rattle.segment_cut.proofs.GridTiles.{tile-more}
use Rattle.segment_cut.proofs.tiling.add_block.Goals as goal

pub loop-slice-preserved : goal.loop-slice-preserved
loop-slice-preserved c = tile-more c.args.frame.now (grid_of c.args.frame.now c.args.cutting) c.divided-grid.result c.args.block c.loop-slice.slice _ _ _ _ _ c.divided-grid.ensures c.part-part.ensures c.in_ok-cut.ensures c.in_ok-push.ensures.ok c.loop-slice.invariant
