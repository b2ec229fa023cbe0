use Rattle.std.proofs.Common.{refl, arith}
use Rattle.frame_core.specs.declared.cell.Cell.TheVariants as variants
use Rattle.frame_read.proofs.CopyLemmas.{part_more}
use Rattle.frame_read.proofs.copying.flags_between.Goals as goal

pub loop-row-preserved : goal.loop-row-preserved
loop-row-preserved c = part_more variants.Flag c.loop-row.flags c.push.new.self _ c.args.column.now.1 _ c.args.from c.loop-row.row (omega arith) c.loop-row.invariant c.flag.ensures c.in_ok-push.ensures.ok refl
