use Rattle.segment_cut.proofs.Cuts.{reaches-rows, kinds-more, cells-more}
use Rattle.segment_cut.proofs.tile.column_parts.Goals as goal

pub part-requires-clause-within : goal.part-requires-clause-within
part-requires-clause-within c = reaches-rows c.args.frame.now c.args.part c.loop-column.column _ c.requires.frame c.requires.part c.loop-column-test.true c.column-cells.ensures.cells

pub loop-column-preserved : goal.loop-column-preserved
loop-column-preserved c = record {
  kinds = kinds-more c.args.frame.now c.args.part c.loop-column.column _ _ _ _ c.column-cells.ensures.kind c.in_ok-part.ensures.kind c.in_ok-push.ensures.ok c.loop-column.invariant.kinds;
  cells = cells-more c.args.frame.now c.args.part c.loop-column.column _ _ _ _ c.requires.frame c.requires.part c.loop-column-test.true c.column-cells.ensures.cells c.in_ok-part.ensures.cells c.in_ok-push.ensures.ok c.loop-column.invariant.cells;
}
