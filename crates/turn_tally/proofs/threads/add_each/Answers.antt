use Rattle.std.proofs.Common.{[]}
use Rattle.turn_cell.proofs.Sole.{awaits_none, sole_again}
use Rattle.turn_tally.proofs.threads.add_each.Goals as goal

pub returns-clause-sole : goal.returns-clause-sole
returns-clause-sole g c = let was = c.requires.sole in let is = c.add_all.ensures in sole_again _ is.rests.0 (is.first was.1) (is.awaits [] (awaits_none _ was))
