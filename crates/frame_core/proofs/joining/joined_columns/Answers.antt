use Rattle.frame_core.proofs.JoinLemmas.{kinds_at, kinds_joined, cells_joined, cells_done}
use Rattle.frame_core.proofs.joining.joined_columns.Goals as goal

pub joined-requires : goal.joined-requires
joined-requires c = kinds_at _ _ _ _ _ c.requires c.loop-place-test.true c.index-first-place.is c.index-more-place.is

pub loop-place-preserved : goal.loop-place-preserved
loop-place-preserved c = record {
  kinds = kinds_joined _ _ _ _ _ _ c.loop-place-test.true c.index-first-place.is c.in_ok-joined.ensures.kind c.loop-place.invariant.kinds c.in_ok-push.ensures.ok;
  cells = cells_joined _ _ _ _ _ _ _ _ c.requires c.loop-place-test.true c.index-first-place.is c.index-more-place.is c.in_ok-joined.ensures.cells c.loop-place.invariant.cells c.in_ok-push.ensures.ok;
}

pub returns-clause-cells : goal.returns-clause-cells
returns-clause-cells c = cells_done _ _ _ _ c.loop-place-test.false c.loop-place.invariant.cells
