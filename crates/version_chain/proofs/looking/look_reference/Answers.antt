use Rattle.std.proofs.Common.{subst}
use Rattle.std.specs.Prelude.{IfOk}
use Rattle.bucket_core.specs.Calls.{IsFound}
use Rattle.version_chain.proofs.looking.look_reference.Goals as goal

pub returns-clause-found : goal.returns-clause-found
returns-clause-found g c = subst (λ k. IfOk c.look.result (IsFound (g.B.Bucket.seen c.look.new.bucket) k)) c.in-Ok.ensures.key c.look.ensures.found
