use Rattle.std.proofs.Common.{length}
use Rattle.bucket_core.specs.Laws.{Looks}
use Rattle.bucket_core.specs.Calls.{IsSteady}
use Rattle.store_model.specs.Law.{IsClaimed}
use Rattle.prune_rule.proofs.ReachLemmas.{ReachesSoFar}
use Rattle.prune_rule.proofs.reaching.reach.Given as goal

-- the rows so far, from the last on
abbrev pub invariant-loop-row : goal.invariant-loop-row
invariant-loop-row g l = record {
  looks : Looks IsClaimed (g.B.Bucket.number l.initial.bucket) (g.B.Bucket.sole l.initial.bucket) (g.B.Bucket.seen l.initial.bucket) (g.B.Bucket.seen l.bucket);
  steady : IsSteady g.B.Bucket.number g.B.Bucket.limit g.B.Bucket.faults g.B.Bucket.sole l.initial.bucket l.bucket;
  so_far : ReachesSoFar (g.B.Bucket.seen l.initial.bucket) (g.B.Bucket.seen l.bucket) l.fn.rows l.rest.items l.kept l.reached;
}

abbrev pub decreases-loop-row : goal.decreases-loop-row
decreases-loop-row g l = length l.rest.items
