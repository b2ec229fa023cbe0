use Rattle.std.proofs.Common.{arith, subst, sym, ◌≡◌, ◌<◌, ◌^◌, ap, Some, take}
use Rattle.std.specs.Prelude.{slice_get, slice_index_or, slice_set}
use Rattle.std.proofs.lemmas.Option.{slice_get-get_or}
use Rattle.frame_core.specs.Columns.{column_cells}
use Rattle.frame_core.specs.Frames.{cell_of}
use Rattle.group_clause.specs.Tallies.{total}
use Rattle.group_clause.specs.Partials.{tallies}
use Rattle.group_clause.specs.Keeping.{IsTally}
use Rattle.group_clause.specs.Blocks.{cells_at}
use Rattle.group_clause.proofs.BlockLemmas.{row_tallied, tally_small, got_same, at_read}
use Rattle.group_clause.proofs.MadeRows.{all_at}
use Rattle.group_clause.proofs.block.tally_column.Goals as goal

pub add-requires : goal.add-requires
add-requires c =
    let ns = c.args.numbers.now in
    let n = slice_index_or ns c.loop-row.row 0 in
    let below : n < c.args.count = all_at (λ m. m < c.args.count) ns c.loop-row.row 0 c.loop-row-test.true c.requires.below in
    let here : c.index_mut.result.now ≡ total tallies (cells_at n (take c.loop-row.row ns) (take c.loop-row.row (column_cells c.args.column.now))) =
    got_same c.loop-row.tallies.items n _ _ (at_read c.loop-row.tallies.items n c.index_mut.result.now (omega (arith, below, c.loop-row.invariant.0)) c.index_mut.ensures.value) (c.loop-row.invariant.1 n below) in
    subst (IsTally (2 ^ 62)) (sym here) (tally_small n c.loop-row.row ns (column_cells c.args.column.now) c.requires.cells c.requires.few)

pub loop-row-preserved : goal.loop-row-preserved
loop-row-preserved c =
    let ns = c.args.numbers.now in
    let n = slice_index_or ns c.loop-row.row 0 in
    let below : n < c.args.count = all_at (λ m. m < c.args.count) ns c.loop-row.row 0 c.loop-row-test.true c.requires.below in
    let number : slice_get ns c.loop-row.row ≡ Some n = slice_get-get_or ns c.loop-row.row 0 c.loop-row-test.true in
    let here : slice_get c.loop-row.tallies.items n ≡ Some c.index_mut.result.now = at_read c.loop-row.tallies.items n c.index_mut.result.now (omega (arith, below, c.loop-row.invariant.0)) c.index_mut.ensures.value in
    row_tallied c.args.count ns (column_cells c.args.column.now) c.loop-row.row c.loop-row.tallies.items _ n (cell_of c.cell.result) c.index_mut.result.now c.requires.lengths below number c.cell.ensures c.loop-row.invariant here
    (ap (slice_set c.loop-row.tallies.items n) c.add.ensures)
