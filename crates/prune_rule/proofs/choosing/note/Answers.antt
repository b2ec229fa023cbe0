use Rattle.std.proofs.Common.{◌∙◌}
use Rattle.prune_rule.proofs.BuryLemmas.{insert_as}
use Rattle.prune_rule.proofs.choosing.note.Goals as goal

pub returns : goal.returns
returns c = c.in_ok-insert.ensures.keys ∙ insert_as c.args.noted.now.keys c.args.number
