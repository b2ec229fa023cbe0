use Rattle.std.proofs.Common.{arith}
use Rattle.version_chain.proofs.SnapLaws.{snap_takes, snap_again}
use Rattle.version_chain.proofs.laws.snapshots_have_one_spelling.Goals as goal

pub returns-clause-read : goal.returns-clause-read
returns-clause-read c = snap_again

pub returns-clause-spelled : goal.returns-clause-spelled
returns-clause-spelled c = λ s is. (snap_takes c.args.bytes.now s (λ i. omega (arith, c.type_inv.bytes i)) is).text

pub returns-clause-is_snap : goal.returns-clause-is_snap
returns-clause-is_snap c = λ s is. (snap_takes c.args.bytes.now s (λ i. omega (arith, c.type_inv.bytes i)) is).is_snap

pub returns-clause-fits : goal.returns-clause-fits
returns-clause-fits c = λ s is. (snap_takes c.args.bytes.now s (λ i. omega (arith, c.type_inv.bytes i)) is).fits
