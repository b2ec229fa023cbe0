use Rattle.std.proofs.Common.{sym, subst}
use Rattle.frame_core.specs.Limits.{IsStorable}
use Rattle.append_update.proofs.UpdatePlans.{cut_above, run_storable}
use Rattle.append_update.proofs.EdgeLemmas.{above_ordered, reached_within}
use Rattle.append_update.proofs.edges.edge_above.Goals as goal

pub block_frame-requires-clause-run : goal.block_frame-requires-clause-run
block_frame-requires-clause-run g c = cut_above c.requires.base.version.frame c.args.base.now.index c.requires.base.newest.index_of c.args.range c.args.cuts c.requires.cuts

pub block_frame-requires-clause-ordered : goal.block_frame-requires-clause-ordered
block_frame-requires-clause-ordered g c = above_ordered c.requires.base.version.frame c.args.base.now.index c.requires.base.newest.index_of c.args.range c.args.cuts c.requires.cuts

pub block_frame-requires-clause-within : goal.block_frame-requires-clause-within
block_frame-requires-clause-within g c = reached_within c.requires.base.version.frame c.args.base.now.index c.requires.base.newest.index_of c.args.range c.args.cuts c.requires.cuts

pub rows_above-requires : goal.rows_above-requires
rows_above-requires g c =
    let b = c.requires.base in
    record {
      storable = subst IsStorable (sym (c.in_ok-block.ensures.frame b))
          (run_storable b.version.frame c.args.base.now.index b.newest.index_of c.args.range c.args.cuts c.requires.cuts c.args.cuts.ended c.args.cuts.reached
          (cut_above b.version.frame c.args.base.now.index b.newest.index_of c.args.range c.args.cuts c.requires.cuts));
    }
