use Rattle.version_chain.proofs.CallLemmas.{drop_found, drop_refused}
use Rattle.version_chain.proofs.marking.drop_element.Goals as goal

pub returns-in-Ok-clause-did : goal.returns-in-Ok-clause-did
returns-in-Ok-clause-did g c = drop_found _ _ _ (g.B.Bucket.faults c.args.bucket.now) (g.B.Bucket.faults c.drop_key.new.self) _ _ _ _ _ c.requires.own.1 (g.met.B.Bucket.lawful c.drop_key.new.self) c.in-Ok.ensures.did

pub returns-in-Err-clause-did : goal.returns-in-Err-clause-did
returns-in-Err-clause-did g c = drop_refused _ _ _ _ _ _ _ _ _ _ _ c.place-place.ensures c.refused_by.ensures c.in-Err.ensures.did
