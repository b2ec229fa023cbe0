use Rattle.std.proofs.Common.{◌≡◌, ◌+◌, ◌-◌, ◌/◌, ◌≤◌, Some, sym, ap, ◌∙◌, arith, rules, w64, SFits}
use Rattle.std.specs.Prelude.{slice_get}
use Rattle.std.proofs.lemmas.Int.{to_z-of_z}
use Rattle.std.proofs.lemmas.List.{length-map}
use Rattle.std.proofs.lemmas.Option.{slice_get-map}
use Rattle.frame_core.specs.Frames.{Row, stamps_of}
use Rattle.frame_read.specs.Gathers.{passes}
use Rattle.frame_read.proofs.SearchLemmas.{passed_before, left_behind, edge_count}
use Rattle.frame_read.proofs.searching.edge_row.Goals as goal

pub loop-low-preserved-then-is_before : goal.loop-low-preserved-then-is_before
loop-low-preserved-then-is_before c =
    let rows = c.args.view.now.rows in
    let middle = c.loop-low.low + (c.loop-low.high - c.loop-low.low) / 2 in
    let at : slice_get (stamps_of rows) middle ≡ Some c.stamp.result = slice_get-map (λ (r : Row). r.stamp) rows middle ∙ c.stamp.ensures in
    let fits : SFits w64 c.stamp.result = search rules in
    record {
      least = omega (arith, c.loop-low.invariant.least);
      ordered = omega (arith, c.loop-low-test.true);
      most = c.loop-low.invariant.most;
      passed = λ k d le lt. passed_before c.args.edge c.args.range (stamps_of rows) middle c.stamp.result c.rows-high.ensures.storable.is_frame.ascending at (ap (passes c.args.edge c.args.range) (sym (to_z-of_z w64 c.stamp.result fits)) ∙ sym c.if-is_before.ensures) k d lt;
      left = c.loop-low.invariant.left;
    }

pub loop-low-preserved : goal.loop-low-preserved
loop-low-preserved c =
    let rows = c.args.view.now.rows in
    let middle = c.loop-low.low + (c.loop-low.high - c.loop-low.low) / 2 in
    let at : slice_get (stamps_of rows) middle ≡ Some c.stamp.result = slice_get-map (λ (r : Row). r.stamp) rows middle ∙ c.stamp.ensures in
    let fits : SFits w64 c.stamp.result = search rules in
    record {
      least = c.loop-low.invariant.least;
      ordered = omega arith;
      most = omega (arith, c.loop-low.invariant.most, c.loop-low-test.true);
      passed = c.loop-low.invariant.passed;
      left = λ k d le lt. left_behind c.args.edge c.args.range (stamps_of rows) middle c.stamp.result c.rows-high.ensures.storable.is_frame.ascending at (ap (passes c.args.edge c.args.range) (sym (to_z-of_z w64 c.stamp.result fits)) ∙ sym c.if-is_before.ensures) k d le lt;
    }

pub returns-clause-count : goal.returns-clause-count
returns-clause-count c =
    let i = c.loop-low.invariant in
    let met : c.loop-low.high ≤ c.loop-low.low = omega (arith, c.loop-low-test.false) in
    edge_count c.args.edge c.args.range (stamps_of c.args.view.now.rows) c.args.first c.loop-low.low i.least (omega (arith, i.ordered, i.most, length-map c.args.view.now.rows (λ (r : Row). r.stamp))) i.passed
    (λ k d le lt. i.left k d (omega (arith, met, le)) lt)
