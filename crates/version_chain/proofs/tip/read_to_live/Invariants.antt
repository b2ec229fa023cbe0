use Rattle.std.proofs.Common.{◌≡◌, length, ◌-◌}
use Rattle.bucket_core.specs.Laws.{Looks}
use Rattle.bucket_core.specs.Calls.{IsSteady}
use Rattle.store_model.specs.Law.{IsClaimed}
use Rattle.store_model.specs.Links.{entries}
use Rattle.store_model.specs.PlainWalks.{tombs_in}
use Rattle.version_chain.proofs.Walked.{ReadSoFar}
use Rattle.version_chain.proofs.tip.read_to_live.Given as goal

-- the newest elements were read, and their Tombs noted, while others went on
abbrev pub invariant-loop-key : goal.invariant-loop-key
invariant-loop-key g l = record {
  looks : Looks IsClaimed (g.B.Bucket.number l.fn.bucket) (g.B.Bucket.sole l.fn.bucket) (g.B.Bucket.seen l.fn.bucket) (g.B.Bucket.seen l.bucket);
  steady : IsSteady g.B.Bucket.number g.B.Bucket.limit g.B.Bucket.faults g.B.Bucket.sole l.fn.bucket l.bucket;
  so_far : ReadSoFar (g.B.Bucket.seen l.fn.bucket) l.newest l.elements;
  tombs : l.tombs ≡ tombs_in l.elements;
}

abbrev pub decreases-loop-key : goal.decreases-loop-key
decreases-loop-key g l = length (entries (g.B.Bucket.seen l.fn.bucket) l.newest.name) - length l.elements
