use Rattle.store_model.proofs.MovesOn.{moves_on}
use Rattle.store_model.proofs.theorem.references_move_on.Goals as goal

pub returns : goal.returns
returns c = moves_on
