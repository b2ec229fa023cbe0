use Rattle.std.proofs.Common.{◌≡◌, ◌||◌, ◌&&◌, [], ap, sym, ◌∙◌, rules}
use Rattle.std.specs.List.{list_any}
use Rattle.key_kind.specs.declared.key.Key.{Key}
use Rattle.key_kind.specs.Keys.{same_key}
use Rattle.prune_rule.specs.DeadKeys.{has_key, has_piece, piece_name}
use Rattle.prune_rule.proofs.SetLemmas.{pieces_next, pieces_end}
use Rattle.prune_rule.proofs.piece_keys.note_pieces.Goals as goal

pub loop-key-preserved : goal.loop-key-preserved
loop-key-preserved c = λ other.
    pieces_next c.loop-key.keys c.note_piece.new.keys (λ (k : Key). has_piece c.in_ok-names.names (piece_name k)) c.loop-key.rest.items c.pop.new.self.items c.in-Some.key c.in-Some.ensures.items c.in_ok-note_piece.ensures other ∙ c.loop-key.invariant other

pub returns : goal.returns
returns c =
    let none : c.loop-key.rest.items ≡ [] = search rules in
    λ other.
    sym (pieces_end c.loop-key.keys (λ (k : Key). has_piece c.in_ok-names.names (piece_name k)) c.loop-key.rest.items other none) ∙ (c.loop-key.invariant other
    ∙ ap (λ b. has_key c.args.keys.now other || (list_any (λ k. same_key k other) c.args.listed && b)) (c.in_ok-names.ensures (piece_name other)))
