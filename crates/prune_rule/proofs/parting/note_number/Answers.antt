use Rattle.std.proofs.Common.{◌∙◌}
use Rattle.prune_rule.proofs.SetLemmas.{number_noted}
use Rattle.prune_rule.proofs.parting.note_number.Goals as goal

pub returns : goal.returns
returns c = λ n. c.in_ok-insert.ensures.updates.0 n ∙ number_noted c.args.number n _
