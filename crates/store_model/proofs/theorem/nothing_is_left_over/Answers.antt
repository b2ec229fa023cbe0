use Rattle.store_model.proofs.Collecting.{collects_all}
use Rattle.store_model.proofs.theorem.nothing_is_left_over.Goals as goal

pub returns : goal.returns
returns c = collects_all
