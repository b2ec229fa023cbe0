use Rattle.std.proofs.Common.{◌<◌, length}
use Rattle.bucket_core.specs.Calls.{IsSteady}
use Rattle.version_chain.specs.Marking.{IsMet}
use Rattle.prune_rule.specs.Finding.{MetLooks}
use Rattle.prune_rule.proofs.ReachLemmas.{MetSoFar}
use Rattle.prune_rule.proofs.finding.find_dead.Given as goal

-- so many tries were met, the last by the commit of this place
abbrev pub invariant-loop : goal.invariant-loop
invariant-loop g l = record {
  steady : IsSteady g.B.Bucket.number g.B.Bucket.limit g.B.Bucket.faults g.B.Bucket.sole l.initial.bucket l.bucket;
  so_far : MetSoFar (g.B.Bucket.number l.initial.bucket) (g.B.Bucket.sole l.initial.bucket) l.symbol l.counter (g.B.Bucket.seen l.initial.bucket) (g.B.Bucket.seen l.bucket);
  each : MetLooks (g.B.Bucket.number l.initial.bucket) l.symbol l.counter (g.B.Bucket.seen l.initial.bucket) (g.B.Bucket.seen l.bucket) l.met;
  met : 0 < l.counter → IsMet (g.B.Bucket.number l.initial.bucket) l.symbol (length (g.B.Bucket.seen l.initial.bucket)) (g.B.Bucket.seen l.bucket) l.met;
}
