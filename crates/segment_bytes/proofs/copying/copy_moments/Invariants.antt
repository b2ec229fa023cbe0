use Rattle.std.proofs.Common.{◌≡◌, map, take}
use Rattle.frame_core.specs.declared.cell.Cell.TheVariants as variants
use Rattle.segment_bytes.proofs.copying.copy_moments.Given as goal

-- the cells so far were copied
abbrev pub invariant-loop-row : goal.invariant-loop-row
invariant-loop-row l = map variants.Stamp l.moments ≡ take l.row l.view.1
