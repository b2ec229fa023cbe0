use Rattle.store_model.proofs.Stable.{tests_tell as tests_do_tell}
use Rattle.store_model.proofs.theorem.tests_tell.Goals as goal

pub returns : goal.returns
returns c = tests_do_tell
