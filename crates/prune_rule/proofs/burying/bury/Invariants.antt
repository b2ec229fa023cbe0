use Rattle.std.proofs.Common.{◌<◌, length}
use Rattle.bucket_core.specs.Calls.{IsSteady}
use Rattle.version_chain.specs.Marking.{IsMet}
use Rattle.prune_rule.specs.Burials.{burial_of}
use Rattle.prune_rule.specs.Tries.{DidRefused, MetTries}
use Rattle.prune_rule.proofs.burying.bury.Given as goal

-- so many tries were met, the last by the commit of this place
abbrev pub invariant-loop : goal.invariant-loop
invariant-loop g l = record {
  steady : IsSteady g.B.Bucket.number g.B.Bucket.limit g.B.Bucket.faults g.B.Bucket.sole l.initial.bucket l.bucket;
  so_far : DidRefused (g.B.Bucket.number l.initial.bucket) (g.B.Bucket.sole l.initial.bucket) l.symbol (g.B.Bucket.seen l.initial.bucket) (g.B.Bucket.seen l.bucket) l.counter;
  each : MetTries (g.B.Bucket.number l.initial.bucket) l.symbol (burial_of l.wish) l.counter (g.B.Bucket.seen l.initial.bucket) (g.B.Bucket.seen l.bucket) l.met;
  met : 0 < l.counter → IsMet (g.B.Bucket.number l.initial.bucket) l.symbol (length (g.B.Bucket.seen l.initial.bucket)) (g.B.Bucket.seen l.bucket) l.met;
}
