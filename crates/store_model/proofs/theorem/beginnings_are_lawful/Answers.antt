use Rattle.store_model.proofs.Lawful.{beginning_lawful}
use Rattle.store_model.proofs.theorem.beginnings_are_lawful.Goals as goal

pub returns : goal.returns
returns c = beginning_lawful
