use Rattle.prune_rule.proofs.DropLemmas.{may_try, gone_is, one_refused, note_refused}
use Rattle.prune_rule.proofs.dropping.drop_one.Goals as goal

pub drop_key-requires : goal.drop_key-requires
drop_key-requires g c = record { may = may_try _ _ _ c.requires.dead }

pub returns-in-Err-push-clause-did : goal.returns-in-Err-push-clause-did
returns-in-Err-push-clause-did g c =
    let d = gone_is (g.B.Bucket.number c.args.bucket.now) (g.B.Bucket.sole c.args.bucket.now) (g.B.Bucket.limit c.args.bucket.now) (g.B.Bucket.faults c.args.bucket.now) (g.B.Bucket.faults c.drop_key.new.self)
    (g.B.Bucket.seen c.args.bucket.now) (g.B.Bucket.seen c.drop_key.new.self) c.args.key c.in-Ok-Gone.field-0 c.in-Ok-Gone.place c.in-Ok-Gone.field-0-is c.in-Ok-Gone.ensures.did in
    note_refused _ _ _ _ _ _ _ _ _ _ d.1 c.out_of_memory.ensures d.0

pub returns-in-Err-clause-did : goal.returns-in-Err-clause-did
returns-in-Err-clause-did g c = one_refused _ _ _ _ _ _ _ _ _ _ _ c.place-place.ensures c.refused_by.ensures c.in-Err.ensures.did
