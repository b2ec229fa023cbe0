use Rattle.reply_model.proofs.Later.{legal_stays}
use Rattle.reply_model.proofs.theorem.legal_replies_stay_legal.Goals as goal

pub returns : goal.returns
returns c = legal_stays
