use Rattle.std.proofs.Common.{ap, ◌∙◌}
use Rattle.bucket_core.specs.History.{since}
use Rattle.prune_rule.proofs.SetLemmas.{look_refused}
use Rattle.prune_rule.proofs.ReferredLemmas.{since_told}
use Rattle.prune_rule.proofs.finding.referred_place.Goals as goal

pub returns-in-Ok-get-clause-place : goal.returns-in-Ok-get-clause-place
returns-in-Ok-get-clause-place g c =
    let h = g.B.Bucket.seen c.get.new.self in
    c.in-Ok-get.ensures.found.since ∙ (ap (since h) c.in-Ok.ensures.key ∙ since_told h c.args.symbol.now (g.met.B.Bucket.lawful c.get.new.self))

pub returns-clause-refused : goal.returns-clause-refused
returns-clause-refused g c = look_refused _ _ _ _ _ _ _ _ _ c.place-place.ensures c.refused_by.ensures c.in-Err.ensures.looks c.in-Err.ensures.refused
