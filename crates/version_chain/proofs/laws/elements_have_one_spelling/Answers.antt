use Rattle.std.proofs.Common.{arith}
use Rattle.version_chain.proofs.ElementLaws.{entry_takes, entry_again}
use Rattle.version_chain.proofs.laws.elements_have_one_spelling.Goals as goal

pub returns-clause-read : goal.returns-clause-read
returns-clause-read c = entry_again

pub returns-clause-spelled : goal.returns-clause-spelled
returns-clause-spelled c = λ e is. (entry_takes c.args.bytes.now e (λ i. omega (arith, c.type_inv.bytes i)) is).text

pub returns-clause-is_entry : goal.returns-clause-is_entry
returns-clause-is_entry c = λ e is. (entry_takes c.args.bytes.now e (λ i. omega (arith, c.type_inv.bytes i)) is).is_entry

pub returns-clause-fits : goal.returns-clause-fits
returns-clause-fits c = λ e is. (entry_takes c.args.bytes.now e (λ i. omega (arith, c.type_inv.bytes i)) is).fits
