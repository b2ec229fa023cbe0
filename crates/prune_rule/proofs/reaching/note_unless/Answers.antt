use Rattle.std.proofs.Common.{sym, ◌∙◌}
use Rattle.prune_rule.proofs.SetLemmas.{kept_already, key_noted_unless}
use Rattle.prune_rule.proofs.reaching.note_unless.Goals as goal

pub returns-then-contains : goal.returns-then-contains
returns-then-contains c = kept_already c.args.keys.now c.args.kept.now c.args.key (sym c.contains.ensures ∙ c.if-contains.true)

pub returns : goal.returns
returns c = key_noted_unless c.args.keys.now c.insert.new.self c.args.kept.now c.args.key (sym c.contains.ensures ∙ c.if-contains.false) c.in_ok-insert.ensures.updates.0
