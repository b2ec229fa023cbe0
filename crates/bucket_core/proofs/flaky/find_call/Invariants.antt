use Rattle.std.proofs.Common.{◌≡◌, drop}
use Rattle.bucket_core.specs.Plans.{planned}
use Rattle.bucket_core.proofs.flaky.find_call.Given as goal

-- the call is among the rest as it is among all
abbrev pub invariant-loop-call : goal.invariant-loop-call
invariant-loop-call l = planned (drop l.call-index l.fails) l.number ≡ planned l.fails l.number
