use Rattle.turn_tally.specs.Marks.{mark_of}
use Rattle.turn_tally.proofs.adding.add.Given as goal

abbrev pub ghosts-mark : goal.ghosts-mark
ghosts-mark g a = record { mark = mark_of a.seat.now.me.0.badge.number a.row a.amount }
