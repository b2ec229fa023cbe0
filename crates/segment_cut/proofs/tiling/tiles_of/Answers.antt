use Rattle.std.proofs.Common.{◌≡◌, List, sym, subst, rules}
use Rattle.segment_cut.specs.Tiles.{Tile, Tiled}
use Rattle.segment_cut.specs.Grids.{grid_of, tiles_of}
use Rattle.segment_cut.proofs.GridLemmas.{tiled-grid}
use Rattle.segment_cut.proofs.GridTiles.{block-more}
use Rattle.segment_cut.proofs.tiling.tiles_of.Goals as goal

pub loop-block-preserved : goal.loop-block-preserved
loop-block-preserved c = block-more c.args.frame.now (grid_of c.args.frame.now c.args.cutting) c.loop-block.block _ _ c.in_ok-add_block.ensures c.loop-block.invariant

pub returns-clause-tiled : goal.returns-clause-tiled
returns-clause-tiled c =
    let all : c.loop-block.tiles ≡ tiles_of c.args.frame.now c.args.cutting = search rules in
    subst (λ (tiles : List Tile). Tiled c.args.frame.now tiles) (sym all) (tiled-grid c.args.frame.now c.args.cutting c.rows-rows.ensures.limits)
