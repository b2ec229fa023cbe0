use Rattle.std.proofs.Common.{arith}
use Rattle.segment_bytes.proofs.SegmentLaws.{segment_takes, segment_again}
use Rattle.segment_bytes.proofs.laws.one_spelling.Goals as goal

pub returns-clause-read : goal.returns-clause-read
returns-clause-read c = segment_again

pub returns-clause-spelled : goal.returns-clause-spelled
returns-clause-spelled c = λ f e. (segment_takes c.args.bytes.now f (λ i. omega (arith, c.type_inv.bytes i)) e).text

pub returns-clause-storable : goal.returns-clause-storable
returns-clause-storable c = λ f e. (segment_takes c.args.bytes.now f (λ i. omega (arith, c.type_inv.bytes i)) e).storable
