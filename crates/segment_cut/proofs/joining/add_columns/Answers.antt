use Rattle.segment_cut.proofs.JoinSteps.{kind-at}
use Rattle.segment_cut.proofs.joining.add_columns.Goals as goal

pub append_at-requires : goal.append_at-requires
append_at-requires c = kind-at _ _ c.args.tile.now _ _ c.loop-column.invariant.kinds c.requires c.loop-column-test.true c.column-more.ensures.kind
