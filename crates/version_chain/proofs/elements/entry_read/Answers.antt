use Rattle.std.proofs.Common.{arith}
use Rattle.version_chain.proofs.ElementLaws.{Spelled, entry_takes}
use Rattle.version_chain.proofs.elements.entry_read.Goals as goal

read : (c : goal.In-Ok) → Spelled c.args.bytes.now c.in-Ok.entry
read c = entry_takes c.args.bytes.now c.in-Ok.entry (λ i. omega (arith, c.type_inv.bytes i)) c.in-Ok.ensures

pub returns-in-Ok-clause-spelled : goal.returns-in-Ok-clause-spelled
returns-in-Ok-clause-spelled c = (read c).text

pub returns-in-Ok-clause-is_entry : goal.returns-in-Ok-clause-is_entry
returns-in-Ok-clause-is_entry c = (read c).is_entry

pub returns-in-Ok-clause-fits : goal.returns-in-Ok-clause-fits
returns-in-Ok-clause-fits c = (read c).fits
