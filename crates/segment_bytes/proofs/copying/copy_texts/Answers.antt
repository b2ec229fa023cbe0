use Rattle.std.proofs.Common.{refl}
use Rattle.frame_core.specs.declared.cell.Cell.TheVariants as variants
use Rattle.segment_bytes.proofs.Copies.{copied_more}
use Rattle.segment_bytes.proofs.copying.copy_texts.Goals as goal

pub loop-row-preserved : goal.loop-row-preserved
loop-row-preserved c = copied_more variants.Text c.loop-row.texts c.push.new.self _ c.args.view.now.1 _ c.loop-row.row c.loop-row.invariant c.text.ensures c.in_ok-push.ensures.ok refl
