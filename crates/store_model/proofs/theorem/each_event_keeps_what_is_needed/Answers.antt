use Rattle.store_model.proofs.Lawful.{step_keeps}
use Rattle.store_model.proofs.theorem.each_event_keeps_what_is_needed.Goals as goal

pub returns : goal.returns
returns c = step_keeps
