use Rattle.std.proofs.Common.{refl, true, ◌≡◌}
use Rattle.std.specs.Prelude.{is_some}
use Rattle.bucket_core.specs.History.{stored}
use Rattle.bucket_core.specs.Calls.{drop_event}
use Rattle.bucket_core.proofs.BucketLemmas.{facts-added, claimed-drop, something_set}
use Rattle.bucket_core.proofs.plain.PlainBucketBucket.drop_key.Goals as goal

pub invariant_of-self : goal.invariant_of-self
invariant_of-self g c =
    let s = c.args.self.now in
    let stands : is_some (stored s.log c.args.key.now) ≡ true = something_set s.log c.args.key.now c.set_at.result c.set_at.ensures c.if-is_none.ensures in
    let kept = facts-added c.drop_key.result g.L.Law.claimed s.number s.next (drop_event s.number c.args.key.now) s.log c.drop_key.new.self
    c.drop_key.ensures.ok c.drop_key.ensures.err refl s.counted s.lawful stands
    (claimed-drop g.L.Law.claimed s.log s.number c.args.key.now c.requires.may stands) in
    record { counted = kept.0; lawful = kept.1 }
