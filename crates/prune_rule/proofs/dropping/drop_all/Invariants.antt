use Rattle.std.proofs.Common.{length}
use Rattle.bucket_core.specs.Calls.{IsSteady}
use Rattle.prune_rule.proofs.DropLemmas.{DropsSoFar}
use Rattle.prune_rule.proofs.dropping.drop_all.Given as goal

-- the keys so far were dropped where they were there
abbrev pub invariant-loop-key : goal.invariant-loop-key
invariant-loop-key g l = record {
  steady : IsSteady g.B.Bucket.number g.B.Bucket.limit g.B.Bucket.faults g.B.Bucket.sole l.initial.bucket l.bucket;
  so_far : DropsSoFar (g.B.Bucket.number l.initial.bucket) (g.B.Bucket.sole l.initial.bucket) (g.B.Bucket.seen l.initial.bucket) (g.B.Bucket.seen l.bucket) l.fn.dead.keys l.rest.keys l.freed;
}

abbrev pub decreases-loop-key : goal.decreases-loop-key
decreases-loop-key g l = length l.rest.keys
