use Rattle.std.proofs.Common.{arith}
use Rattle.frame_read.proofs.RangeLemmas.{fresh-slice}
use Rattle.frame_read.proofs.gathering.fresh_rows.Goals as goal

pub returns-clause-rows : goal.returns-clause-rows
returns-clause-rows c =
    fresh-slice c.args.range c.args.reached c.args.tile.now c.min-skip.result c.edge_row-from.result c.edge_row-to.result c.max.result c.from.ensures.range c.rows-rows.ensures.storable.is_frame.ascending
    (omega (arith, c.min-skip.ensures, c.saturating_sub-seen.ensures, c.rows-rows.ensures.rows)) c.edge_row-from.ensures.count c.edge_row-to.ensures.count (omega (arith, c.max.ensures))
