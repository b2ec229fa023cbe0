use Rattle.std.proofs.Common.{rules}
use Rattle.turn_cell.proofs.CountSteps.{counts_entry}
use Rattle.turn_cell.proofs.cell.TurnCell.step.Goals as goal

pub fetch_add-requires : goal.fetch_add-requires
fetch_add-requires g c = (search rules, search rules, counts_entry _ _ _ _ _ _ _ _ c.requires.holds.0 c.requires.holds.1 c.requires.author c.requires.row c.requires.room)
