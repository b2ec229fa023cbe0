use Rattle.store_model.proofs.Settling.{looks_settle}
use Rattle.store_model.proofs.theorem.second_looks_settle.Goals as goal

pub returns : goal.returns
returns c = looks_settle
