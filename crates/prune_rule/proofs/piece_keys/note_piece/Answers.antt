use Rattle.std.proofs.Common.{sym, ◌∙◌}
use Rattle.key_kind.specs.declared.key.Key.{Key}
use Rattle.prune_rule.specs.DeadKeys.{has_piece, piece_name}
use Rattle.prune_rule.proofs.SetLemmas.{piece_added, piece_passed}
use Rattle.prune_rule.proofs.piece_keys.note_piece.Goals as goal

pub returns-then-contains : goal.returns-then-contains
returns-then-contains c = piece_added c.args.keys.now c.insert.new.self c.args.key (λ (k : Key). has_piece c.args.names.now (piece_name k)) (sym c.contains.ensures ∙ c.if-contains.true) c.in_ok-insert.ensures.updates.0

pub returns : goal.returns
returns c = piece_passed c.args.keys.now c.args.key (λ (k : Key). has_piece c.args.names.now (piece_name k)) (sym c.contains.ensures ∙ c.if-contains.false)
