use Rattle.std.proofs.Common.{arith}
use Rattle.std.proofs.lemmas.Result.{on_ok_weaker}
use Rattle.frame_read.proofs.GatherSteps.{type_below, cells-long, part-cells}
use Rattle.frame_read.proofs.gathering.add_cells.Goals as goal

pub column-requires : goal.column-requires
column-requires c = type_below c.args.tile.now.1.schema.columns c.args.place _ c.requires

pub cells_between-requires-clause-within : goal.cells_between-requires-clause-within
cells_between-requires-clause-within c = omega (arith, c.fresh_rows-from.ensures.within, cells-long c.args.tile.now c.args.place _ c.column.result.now.1 c.fresh_rows-from.ensures.frame c.requires c.column.ensures.cells)

pub returns-clause-cells : goal.returns-clause-cells
returns-clause-cells c = on_ok_weaker c.put_cells.result
    (part-cells c.args.tile.now c.args.place _ _ _ c.args.range c.args.reached _ _ _ _ c.fresh_rows-from.ensures.frame c.requires c.column.ensures.cells c.in_ok-more.ensures.cells c.fresh_rows-from.ensures.rows)
    c.put_cells.ensures.cells
