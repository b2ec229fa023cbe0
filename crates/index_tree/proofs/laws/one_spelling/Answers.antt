use Rattle.std.proofs.Common.{arith}
use Rattle.index_tree.proofs.IndexLaws.{index_spelled, index_again}
use Rattle.index_tree.proofs.laws.one_spelling.Goals as goal

pub returns-clause-read : goal.returns-clause-read
returns-clause-read c = index_again

pub returns-clause-spelled : goal.returns-clause-spelled
returns-clause-spelled c = λ index e. (index_spelled c.args.bytes.now index (λ i. omega (arith, c.type_inv.bytes i)) e).text

pub returns-clause-is_index : goal.returns-clause-is_index
returns-clause-is_index c = λ index e. (index_spelled c.args.bytes.now index (λ i. omega (arith, c.type_inv.bytes i)) e).is
