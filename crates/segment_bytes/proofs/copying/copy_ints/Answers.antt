use Rattle.std.proofs.Common.{ap, rules, w64, SFits}
use Rattle.std.proofs.lemmas.Int.{to_z-of_z}
use Rattle.frame_core.specs.declared.cell.Cell.TheVariants as variants
use Rattle.segment_bytes.proofs.Copies.{copied_more}
use Rattle.segment_bytes.proofs.copying.copy_ints.Goals as goal

pub loop-row-preserved : goal.loop-row-preserved
loop-row-preserved c =
    let fits : SFits w64 c.int.result = search rules in
    copied_more variants.Int c.loop-row.numbers c.push.new.self _ c.args.view.now.1 _ c.loop-row.row c.loop-row.invariant c.int.ensures c.in_ok-push.ensures.ok (ap variants.Int (to_z-of_z w64 c.int.result fits))
