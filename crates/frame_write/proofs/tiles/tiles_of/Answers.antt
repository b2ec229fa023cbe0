use Rattle.std.proofs.Common.{rules}
use Rattle.segment_cut.specs.Grids.{grid_of}
use Rattle.frame_write.proofs.TileLemmas.{block_more}
use Rattle.frame_write.proofs.tiles.tiles_of.Goals as goal

pub loop-block-preserved : goal.loop-block-preserved
loop-block-preserved c = record {
  parts = block_more (grid_of c.args.frame.now c.args.cutting) c.loop-block.block _ _ c.in_ok-add_block.ensures.parts c.loop-block.invariant.parts;
  each = c.in_ok-add_block.ensures.each c.loop-block.invariant.each;
}

pub returns : goal.returns
returns c = record { cutting_is = c.rows-rows.ensures.limits; parts_are = search rules; each = c.loop-block.invariant.each }
