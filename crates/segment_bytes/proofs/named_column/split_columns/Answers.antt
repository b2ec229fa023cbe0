use Rattle.std.proofs.Common.{◌∙◌, arith}
use Rattle.std.proofs.lemmas.List.{take_all}
use Rattle.segment_bytes.proofs.Copies.{copied_same}
use Rattle.segment_bytes.proofs.Finds.{split_one, split_fails}
use Rattle.segment_bytes.proofs.named_column.split_columns.Goals as goal

pub new-requires-clause-name : goal.new-requires-clause-name
new-requires-clause-name c = (split_one _ _ c.loop.counter _ _ _ c.in-Ok.found _ c.requires.1 c.loop-test.true (c.loop.invariant _ c.requires.1).1 c.in-Ok.ensures).name

pub new-requires-clause-cells : goal.new-requires-clause-cells
new-requires-clause-cells c = (split_one _ _ c.loop.counter _ _ _ c.in-Ok.found _ c.requires.1 c.loop-test.true (c.loop.invariant _ c.requires.1).1 c.in-Ok.ensures).cells

pub unreachable-requires : goal.unreachable-requires
unreachable-requires c = split_fails _ _ c.loop.counter _ _ _ _ c.requires.1 c.loop-test.true (c.loop.invariant _ c.requires.1).1 c.in-Err.ensures

pub loop-preserved : goal.loop-preserved
loop-preserved c = λ all spells.
    let so_far = c.loop.invariant all spells in
    let one = split_one _ _ c.loop.counter _ _ all c.in-Ok.found _ spells c.loop-test.true so_far.1 c.in-Ok.ensures in
    (copied_same c.loop.made c.push.new.self c.new.result all _ c.loop.counter so_far.0 one.at c.in_ok-push-in-Ok.ensures.ok c.new.ensures, one.left)

pub returns : goal.returns
returns c = λ all spells. (c.loop.invariant all spells).0 ∙ take_all c.loop.counter all (omega (arith, spells.count_is, c.loop-test.false))
