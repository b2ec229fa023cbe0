use Rattle.reply_model.proofs.AloneServed.{legal_alone_steps}
use Rattle.reply_model.proofs.theorem.legal_replies_alone_are_sole.Goals as goal

pub returns : goal.returns
returns c = legal_alone_steps
