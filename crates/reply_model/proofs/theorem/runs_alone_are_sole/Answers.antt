use Rattle.reply_model.proofs.AloneRuns.{runs_grow, runs_are_sole, blocks_are_sole}
use Rattle.reply_model.proofs.theorem.runs_alone_are_sole.Goals as goal

pub returns-clause-grow : goal.returns-clause-grow
returns-clause-grow c = runs_grow

pub returns-clause-sole : goal.returns-clause-sole
returns-clause-sole c = runs_are_sole

pub returns-clause-blocks : goal.returns-clause-blocks
returns-clause-blocks c = blocks_are_sole
