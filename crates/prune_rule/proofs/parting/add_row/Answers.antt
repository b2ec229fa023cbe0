use Rattle.std.proofs.Common.{refl, sym, ◌∙◌}
use Rattle.prune_rule.proofs.SetLemmas.{parts_kept, parts_dead}
use Rattle.prune_rule.proofs.parting.add_row.Goals as goal

pub returns-then-is_kept : goal.returns-then-is_kept
returns-then-is_kept c = parts_kept c.args.buried.now c.args.held.now c.args.row c.args.rows.now _ (sym c.is_kept.ensures ∙ c.if-is_kept.true) c.in_ok-push.ensures.ok refl

pub returns : goal.returns
returns c = parts_dead c.args.buried.now c.args.held.now c.args.row c.args.rows.now _ (sym c.is_kept.ensures ∙ c.if-is_kept.false) refl c.in_ok-push-2.ensures.ok
