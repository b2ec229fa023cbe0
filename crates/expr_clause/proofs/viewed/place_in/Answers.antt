use Rattle.std.proofs.Common.{arith}
use Rattle.expr_clause.proofs.ViewLemmas.{found_place, later_place}
use Rattle.expr_clause.proofs.viewed.place_in.Goals as goal

pub returns-then-is_named : goal.returns-then-is_named
returns-then-is_named c =
    found_place c.args.name.now c.args.view.now.schema.columns c.loop-place.place c.is_named.result
    (omega (arith, c.loop-place-test.true, c.cols-place-end.ensures)) c.is_named.ensures c.if-is_named.true c.loop-place.invariant

pub loop-place-preserved : goal.loop-place-preserved
loop-place-preserved c =
    later_place c.args.name.now c.args.view.now.schema.columns c.loop-place.place c.is_named.result
    (omega (arith, c.loop-place-test.true, c.cols-place-end.ensures)) c.is_named.ensures c.if-is_named.false c.loop-place.invariant
