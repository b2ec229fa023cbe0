use Rattle.std.proofs.Common.{sym}
use Rattle.bucket_shared.specs.SeatCalls.{number_at, seen_at}
use Rattle.bucket_shared.proofs.Growth.{puts_by-none}
use Rattle.bucket_shared.proofs.pass.Pass.split.Goals as goal

-- the new client has made no puts
pub invariant_of-result-clause-served : goal.invariant_of-result-clause-served
invariant_of-result-clause-served g c = sym (puts_by-none (number_at c.in-Some.seated) (seen_at c.in-Some.seated) c.in-Some.ensures.split.none_by)
