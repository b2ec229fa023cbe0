use Rattle.std.proofs.Common.{◌∙◌}
use Rattle.prune_rule.proofs.SetLemmas.{piece_noted}
use Rattle.prune_rule.proofs.piece_keys.note_name.Goals as goal

pub returns : goal.returns
returns c = λ name. c.in_ok-insert.ensures.updates.0 (name.client, name.serial) ∙ piece_noted c.args.piece name _
