use Rattle.std.proofs.Common.{◌≡◌, map}
use Rattle.std.specs.Prelude.{slice_range}
use Rattle.frame_core.specs.declared.cell.Cell.TheVariants as variants
use Rattle.frame_read.proofs.copying.texts_between.Given as goal

-- the cells so far were copied
abbrev pub invariant-loop-row : goal.invariant-loop-row
invariant-loop-row l = map variants.Text l.texts ≡ slice_range l.column.1 l.from l.row
