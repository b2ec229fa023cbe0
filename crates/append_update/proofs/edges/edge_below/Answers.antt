use Rattle.std.proofs.Common.{sym, subst}
use Rattle.frame_core.specs.Limits.{IsStorable}
use Rattle.append_update.proofs.UpdatePlans.{cut_below, run_storable}
use Rattle.append_update.proofs.EdgeLemmas.{below_ordered, begun_within}
use Rattle.append_update.proofs.edges.edge_below.Goals as goal

pub block_frame-requires-clause-run : goal.block_frame-requires-clause-run
block_frame-requires-clause-run g c = cut_below c.requires.base.version.frame c.args.base.now.index c.requires.base.newest.index_of c.args.range c.args.cuts c.requires.cuts

pub block_frame-requires-clause-ordered : goal.block_frame-requires-clause-ordered
block_frame-requires-clause-ordered g c = below_ordered c.requires.base.version.frame c.args.base.now.index c.requires.base.newest.index_of c.args.range c.args.cuts c.requires.cuts

pub block_frame-requires-clause-within : goal.block_frame-requires-clause-within
block_frame-requires-clause-within g c = begun_within c.requires.base.version.frame c.args.base.now.index c.requires.base.newest.index_of c.args.range c.args.cuts c.requires.cuts

pub rows_below-requires : goal.rows_below-requires
rows_below-requires g c =
    let b = c.requires.base in
    record {
      storable = subst IsStorable (sym (c.in_ok-block.ensures.frame b))
          (run_storable b.version.frame c.args.base.now.index b.newest.index_of c.args.range c.args.cuts c.requires.cuts c.args.cuts.below c.args.cuts.begun
          (cut_below b.version.frame c.args.base.now.index b.newest.index_of c.args.range c.args.cuts c.requires.cuts));
    }
