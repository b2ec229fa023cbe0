use Rattle.std.proofs.Common.{rules, ◌<◌, sym, subst, ap, ◌∙◌}
use Rattle.segment_cut.specs.Grids.{grid_of, col_blocks, part_at}
use Rattle.frame_write.specs.Placing.{IsTileOf}
use Rattle.frame_write.proofs.GridSlots.{IsGridPart, grid_part}
use Rattle.frame_write.proofs.TileLemmas.{part_more, each_more}
use Rattle.frame_write.proofs.tiles.add_block.Goals as goal

pub tile_of-requires : goal.tile_of-requires
tile_of-requires c =
    let within : c.loop-slice.slice < col_blocks c.divided-grid.result = search rules in
    let slice_lt : c.loop-slice.slice < col_blocks (grid_of c.args.frame.now c.args.cutting) = subst (λ g. c.loop-slice.slice < col_blocks g) c.divided-grid.ensures within in
    let keeps = grid_part c.args.frame.now c.args.cutting c.args.block c.loop-slice.slice c.rows-rows.ensures.limits c.requires.block slice_lt in
    let is = c.part-part.ensures ∙ ap (λ g. part_at g c.args.block c.loop-slice.slice) c.divided-grid.ensures in
    let here = subst (IsGridPart c.args.frame.now) (sym is) keeps in
    record { storable = c.requires.storable; lies = here.lies; some_rows = here.some_rows }

pub loop-slice-preserved : goal.loop-slice-preserved
loop-slice-preserved c = record {
  parts = part_more (grid_of c.args.frame.now c.args.cutting) c.divided-grid.result c.args.block c.loop-slice.slice _ _ _ _ _ c.divided-grid.ensures c.part-part.ensures c.in_ok-tile_of.ensures.part c.in_ok-push.ensures.ok c.loop-slice.invariant.parts;
  each = λ before. each_more (IsTileOf c.args.frame.now) _ _ _ c.in_ok-push.ensures.ok (c.loop-slice.invariant.each before) c.in_ok-tile_of.ensures.tile;
}
