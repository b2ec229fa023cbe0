use Rattle.std.proofs.Common.{rules, ◌≡◌, ◌+◌, true, false, w64, to_z, of_z, sym, ap, ◌∙◌}
use Rattle.frame_core.specs.Ranges.{is_within}
use Rattle.append_update.proofs.OutsideLemmas.{outside_here, outside_next}
use Rattle.append_update.proofs.updating.first_outside.Goals as goal

pub returns-then-not-is_within : goal.returns-then-not-is_within
returns-then-not-is_within c =
    let off : c.is_within.result ≡ false = search rules in
    let stamp : to_z w64 (of_z w64 c.stamp.result) ≡ c.stamp.result = search rules in
    sym (outside_here c.args.range c.args.frame.now.rows c.loop-row.row (c.loop-row.row + 1) c.stamp.result c.stamp.ensures (sym (c.is_within.ensures ∙ ap (is_within c.args.range) stamp) ∙ off)) ∙ c.loop-row.invariant

pub loop-row-preserved : goal.loop-row-preserved
loop-row-preserved c =
    let on : c.is_within.result ≡ true = search rules in
    let stamp : to_z w64 (of_z w64 c.stamp.result) ≡ c.stamp.result = search rules in
    sym (outside_next c.args.range c.args.frame.now.rows c.loop-row.row (c.loop-row.row + 1) c.stamp.result c.stamp.ensures (sym (c.is_within.ensures ∙ ap (is_within c.args.range) stamp) ∙ on)) ∙ c.loop-row.invariant
