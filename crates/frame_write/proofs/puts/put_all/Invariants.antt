use Rattle.bucket_core.specs.Calls.{IsSteady}
use Rattle.frame_write.specs.Plans.{puts_seen}
use Rattle.frame_write.specs.Loops.{PutSoFar}
use Rattle.frame_write.proofs.puts.put_all.Given as goal

-- the first puts stand
abbrev pub invariant-loop-put : goal.invariant-loop-put
invariant-loop-put g l = record {
  steady : IsSteady g.B.Bucket.number g.B.Bucket.limit g.B.Bucket.faults g.B.Bucket.sole l.initial.bucket l.bucket;
  so_far : PutSoFar (g.B.Bucket.number l.initial.bucket) (g.B.Bucket.sole l.initial.bucket) (g.B.Bucket.seen l.initial.bucket) (g.B.Bucket.seen l.bucket) (puts_seen l.puts) l.put-index;
}
