use Rattle.store_model.proofs.Stable.{claims_stay as claims_do_stay}
use Rattle.store_model.proofs.theorem.claims_stay.Goals as goal

pub returns : goal.returns
returns c = claims_do_stay
