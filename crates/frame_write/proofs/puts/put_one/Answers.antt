use Rattle.version_chain.proofs.CallLemmas.{put_refused}
use Rattle.frame_write.proofs.puts.put_one.Goals as goal

pub returns-in-Err-clause-did : goal.returns-in-Err-clause-did
returns-in-Err-clause-did g c = put_refused _ _ _ _ _ _ _ _ c.in-Ok.ensures.key c.in-Ok.ensures.body _ _ _ c.place-place.ensures c.refused_by.ensures c.in-Err.ensures.did
