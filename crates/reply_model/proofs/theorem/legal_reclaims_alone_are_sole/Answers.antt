use Rattle.reply_model.proofs.ReclaimSteps.{legal_reclaims_alone}
use Rattle.reply_model.proofs.theorem.legal_reclaims_alone_are_sole.Goals as goal

pub returns : goal.returns
returns c = legal_reclaims_alone
