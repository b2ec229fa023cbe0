use Rattle.store_model.proofs.Listing.{lists_agree}
use Rattle.store_model.proofs.theorem.library_lists_agree.Goals as goal

pub returns : goal.returns
returns c = lists_agree
