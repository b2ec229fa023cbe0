use Rattle.std.proofs.Common.{arith}
use Rattle.version_chain.proofs.SnapLaws.{Spelled, snap_takes}
use Rattle.version_chain.proofs.snapshots.snap_read.Goals as goal

read : (c : goal.In-Ok) → Spelled c.args.bytes.now c.in-Ok.body
read c = snap_takes c.args.bytes.now c.in-Ok.body (λ i. omega (arith, c.type_inv.bytes i)) c.in-Ok.ensures

pub returns-in-Ok-clause-spelled : goal.returns-in-Ok-clause-spelled
returns-in-Ok-clause-spelled c = (read c).text

pub returns-in-Ok-clause-is_snap : goal.returns-in-Ok-clause-is_snap
returns-in-Ok-clause-is_snap c = (read c).is_snap

pub returns-in-Ok-clause-fits : goal.returns-in-Ok-clause-fits
returns-in-Ok-clause-fits c = (read c).fits
