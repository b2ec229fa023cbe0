use Rattle.std.proofs.Common.{option_copied, refl}
use Rattle.std.specs.Arc.{arc_value}
use Rattle.bucket_core.specs.Calls.{refer_event}
use Rattle.bucket_core.proofs.BucketLemmas.{facts-added, claimed-refer}
use Rattle.bucket_core.proofs.plain.PlainBucketBucket.refer.Goals as goal

pub invariant_of-self : goal.invariant_of-self
invariant_of-self g c =
    let s = c.args.self.now in
    let kept = facts-added c.refer.result g.L.Law.claimed s.number s.next (refer_event s.number c.args.symbol.now (option_copied c.args.was) c.args.entry.now (arc_value c.args.changes)) s.log c.refer.new.self
    c.refer.ensures.ok c.refer.ensures.err refl s.counted s.lawful c.in_default.ensures
    (claimed-refer g.L.Law.claimed s.log s.number c.args.symbol.now (option_copied c.args.was) c.args.entry.now (arc_value c.args.changes) c.requires.may c.in_default.ensures) in
    record { counted = kept.0; lawful = kept.1 }
