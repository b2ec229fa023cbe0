use Rattle.reply_model.proofs.Isolation.{legal_is_isolated}
use Rattle.reply_model.proofs.theorem.commands_are_isolated.Goals as goal

pub returns : goal.returns
returns c = legal_is_isolated
