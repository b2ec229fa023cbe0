use Rattle.std.proofs.Common.{◌∙◌, ap, map, refl}
use Rattle.frame_core.specs.Schemas.{Head}
use Rattle.segment_cut.proofs.Wholes.{IsWhole-frame, frame-whole}
use Rattle.segment_cut.proofs.JoinSteps.{empty-cells, fits-next, stamps-step, cells-step, made}
use Rattle.segment_cut.proofs.joining.join.Goals as goal

pub loop-tile-init : goal.loop-tile-init
loop-tile-init c = record {
  stamps = rw c.in_ok-stamps.ensures refl;
  cells = λ k. rw (empty-cells _ c.in_ok-columns.ensures.cells k) refl;
  kinds = c.in_ok-columns.ensures.kinds ∙ ap (map (λ (h : Head). h.1)) c.columns.ensures;
}

pub add_columns-requires : goal.add_columns-requires
add_columns-requires c = fits-next _ _ c.deref-tile-items.result.now _ c.loop-tile.tile-index _ c.requires (rw c.deref-tile-items.ensures.value c.in_ok-sorted.ensures.same) c.loop-tile-test.true c.tile-item.is c.loop-tile.invariant.kinds

pub loop-tile-preserved : goal.loop-tile-preserved
loop-tile-preserved c = record {
  stamps = stamps-step c.deref-tile-items.result.now _ c.loop-tile.tile-index _ _ _ c.loop-tile-test.true c.tile-item.is c.in_ok-add_stamps.ensures c.loop-tile.invariant.stamps;
  cells = λ k. cells-step c.deref-tile-items.result.now _ c.loop-tile.tile-index k _ _ _ c.loop-tile-test.true c.tile-item.is (c.in_ok-add_columns.ensures.cells k) (c.loop-tile.invariant.cells k);
  kinds = c.in_ok-add_columns.ensures.kinds ∙ c.loop-tile.invariant.kinds;
}

pub from_columns-requires : goal.from_columns-requires
from_columns-requires c =
    let m = made _ _ _ c.deref-tile-items.result.now c.loop-tile.tile-index _ _ _ c.requires.frame c.requires.is (rw c.deref-tile-items.ensures.value c.in_ok-sorted.ensures.same) (rw c.deref-tile-items.ensures.value c.in_ok-sorted.ensures.rising) c.loop-tile-test.false c.in_ok-schema.ensures.copy c.from_vec.ensures c.loop-tile.invariant.stamps c.loop-tile.invariant.cells c.loop-tile.invariant.kinds in
    IsWhole-frame c.requires.frame _ _ _ c.requires.is.is_frame m.schema_is m.stamps_are m.kinds m.cells

pub returns : goal.returns
returns c = λ f is.
    let m = made _ _ _ c.deref-tile-items.result.now c.loop-tile.tile-index _ _ _ f is (rw c.deref-tile-items.ensures.value c.in_ok-sorted.ensures.same) (rw c.deref-tile-items.ensures.value c.in_ok-sorted.ensures.rising) c.loop-tile-test.false c.in_ok-schema.ensures.copy c.from_vec.ensures c.loop-tile.invariant.stamps c.loop-tile.invariant.cells c.loop-tile.invariant.kinds in
    c.from_columns.ensures ∙ frame-whole f _ _ _ is.is_frame m.schema_is m.stamps_are m.cells
