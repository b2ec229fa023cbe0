use Rattle.turn_cell.proofs.cell.TurnCell.unchanged.Given as goal

abbrev pub ghosts-check_row : goal.ghosts-check_row
ghosts-check_row g a = record { place = a.place }
