use Rattle.std.proofs.Common.{arith}
use Rattle.segment_bytes.specs.Views.{IsView}
use Rattle.segment_bytes.proofs.SegmentLaws.{segment_takes}
use Rattle.segment_bytes.proofs.ViewLaws.{lies_spelled, lies_fails, lies_so, view_gives}
use Rattle.segment_bytes.proofs.viewing.view_spelled.Goals as goal
use Rattle.segment_bytes.proofs.viewing.view_spelled.Goals.{In-Ok}

pub unreachable-requires : goal.unreachable-requires
unreachable-requires c = lies_fails c.args.bytes.now _ (lies_spelled c.args.bytes.now c.requires.0 (λ i. omega (arith, c.type_inv.bytes i)) c.requires.1) c.in-Err.ensures

made : (c : In-Ok) → IsView c.args.bytes.now c.in-Ok.rows c.in-Ok.count c.in-Ok.stamps.now c.in-Ok.columns.now
made c = lies_so c.args.bytes.now _ _ _ _ (lies_spelled c.args.bytes.now c.requires.0 (λ i. omega (arith, c.type_inv.bytes i)) c.requires.1) c.in-Ok.ensures

pub invariant_of-result : goal.invariant_of-result
invariant_of-result c = made c

pub returns-clause-found : goal.returns-clause-found
returns-clause-found c = view_gives c.args.bytes.now (made c).good

pub returns-clause-spelled : goal.returns-clause-spelled
returns-clause-spelled c = (segment_takes c.args.bytes.now _ (λ i. omega (arith, c.type_inv.bytes i)) (view_gives c.args.bytes.now (made c).good)).text

pub returns-clause-storable : goal.returns-clause-storable
returns-clause-storable c = (made c).storable
