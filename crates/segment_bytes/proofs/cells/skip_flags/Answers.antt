use Rattle.byte_fields.proofs.Skipping.{list_on}
use Rattle.segment_bytes.specs.CellTexts.{flag_cell_at}
use Rattle.segment_bytes.proofs.cells.skip_flags.Goals as goal

pub loop-preserved : goal.loop-preserved
loop-preserved c = list_on flag_cell_at c.args.count c.loop.counter c.loop.rest.now c.in_ok-rest.rest.now _ c.loop-test.true c.in_ok-rest.ensures c.loop.invariant
