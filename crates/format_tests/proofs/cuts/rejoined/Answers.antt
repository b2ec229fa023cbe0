use Rattle.std.proofs.Common.{sym}
use Rattle.std.specs.List.Sorted.{IsPermutation}
use Rattle.segment_cut.specs.Grids.{tiles_of}
use Rattle.segment_cut.proofs.GridLemmas.{tiled-grid}
use Rattle.segment_cut.proofs.Orders.{Tiled-permutation}
use Rattle.format_tests.proofs.cuts.rejoined.Goals as goal

pub join-requires : goal.join-requires
join-requires c =
    let moved : IsPermutation (tiles_of c.args.frame.now c.args.cutting) c.deref.result.now = rw (c.deref.ensures.value, ← c.in_ok-tiles_of.ensures.tiles, ← c.into_vec-tiles.ensures) c.reverse.ensures.permutation in
    record {
      frame = c.args.frame.now;
      is = record {
        schema_is = sym c.schema.ensures.schema;
        is_frame = c.rows.ensures.frame;
        tiled = Tiled-permutation c.args.frame.now _ _ moved (tiled-grid c.args.frame.now c.args.cutting c.rows-2.ensures.limits);
      };
    }
