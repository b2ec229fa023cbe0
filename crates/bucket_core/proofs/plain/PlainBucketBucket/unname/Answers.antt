use Rattle.std.proofs.Common.{refl}
use Rattle.bucket_core.specs.Calls.{unname_event}
use Rattle.bucket_core.proofs.BucketLemmas.{facts-added}
use Rattle.bucket_core.proofs.plain.PlainBucketBucket.unname.Goals as goal

pub invariant_of-self : goal.invariant_of-self
invariant_of-self g c =
    let s = c.args.self.now in
    let kept = facts-added c.unname.result g.L.Law.claimed s.number s.next (unname_event s.number c.args.snap.now) s.log c.unname.new.self
    c.unname.ensures.ok c.unname.ensures.err refl s.counted s.lawful c.in_default.ensures.0.0
    (c.requires.claim) in
    record { counted = kept.0; lawful = kept.1 }
