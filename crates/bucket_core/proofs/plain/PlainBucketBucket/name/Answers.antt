use Rattle.std.proofs.Common.{refl}
use Rattle.std.specs.Arc.{arc_value}
use Rattle.bucket_core.specs.Calls.{name_event}
use Rattle.bucket_core.proofs.BucketLemmas.{facts-added}
use Rattle.bucket_core.proofs.plain.PlainBucketBucket.name.Goals as goal

pub invariant_of-self : goal.invariant_of-self
invariant_of-self g c =
    let s = c.args.self.now in
    let kept = facts-added c.name.result g.L.Law.claimed s.number s.next (name_event s.number c.args.snap.now (arc_value c.args.body)) s.log c.name.new.self
    c.name.ensures.ok c.name.ensures.err refl s.counted s.lawful c.in_default.ensures.0
    (c.requires.claim) in
    record { counted = kept.0; lawful = kept.1 }
