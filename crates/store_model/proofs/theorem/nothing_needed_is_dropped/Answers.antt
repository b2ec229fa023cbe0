use Rattle.store_model.proofs.Lawful.{lawful_is_intact, lawful_as_put}
use Rattle.store_model.proofs.Standing.{lawful_is_shown}
use Rattle.store_model.proofs.theorem.nothing_needed_is_dropped.Goals as goal

pub returns-clause-intact : goal.returns-clause-intact
returns-clause-intact c = lawful_is_intact

pub returns-clause-as_put : goal.returns-clause-as_put
returns-clause-as_put c = lawful_as_put

pub returns-clause-shown : goal.returns-clause-shown
returns-clause-shown c = lawful_is_shown
