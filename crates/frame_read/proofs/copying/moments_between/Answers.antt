use Rattle.std.proofs.Common.{ap, rules, arith, w64, SFits}
use Rattle.std.proofs.lemmas.Int.{to_z-of_z}
use Rattle.frame_core.specs.declared.cell.Cell.TheVariants as variants
use Rattle.frame_read.proofs.CopyLemmas.{part_more}
use Rattle.frame_read.proofs.copying.moments_between.Goals as goal

pub loop-row-preserved : goal.loop-row-preserved
loop-row-preserved c =
    let fits : SFits w64 c.stamp.result = search rules in
    part_more variants.Stamp c.loop-row.moments c.push.new.self _ c.args.column.now.1 _ c.args.from c.loop-row.row (omega arith) c.loop-row.invariant c.stamp.ensures c.in_ok-push.ensures.ok (ap variants.Stamp (to_z-of_z w64 c.stamp.result fits))
