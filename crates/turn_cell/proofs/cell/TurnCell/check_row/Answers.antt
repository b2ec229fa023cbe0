use Rattle.std.proofs.Common.{rules, arith}
use Rattle.turn_cell.proofs.LoadSteps.{loads_row}
use Rattle.turn_cell.proofs.cell.TurnCell.check_row.Goals as goal

pub load-found-requires : goal.load-found-requires
load-found-requires g c = let k = c.requires.row in (search rules, search rules, loads_row _ _ _ _ _ _ _ _ _ (omega arith))
