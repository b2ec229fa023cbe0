use Rattle.std.proofs.Common.{refl}
use Rattle.std.specs.Arc.{arc_value}
use Rattle.version_chain.proofs.CallLemmas.{put_refused}
use Rattle.version_chain.proofs.marking.put_element.Goals as goal

pub returns-in-Err-clause-did : goal.returns-in-Err-clause-did
returns-in-Err-clause-did g c = put_refused _ _ _ _ _ _ _ (c.args.key, arc_value c.args.body) refl refl _ _ _ c.place-place.ensures c.refused_by.ensures c.in-Err.ensures.did
