use Rattle.std.proofs.Common.{◌≡◌, ◌||◌, ◌&&◌, length}
use Rattle.std.specs.List.{list_any}
use Rattle.key_kind.specs.declared.key.Key.{Key}
use Rattle.key_kind.specs.Keys.{same_key}
use Rattle.prune_rule.specs.DeadKeys.{has_key, has_piece, piece_name}
use Rattle.prune_rule.proofs.piece_keys.note_pieces.Given as goal

-- the keys so far, and those that are left
abbrev pub invariant-loop-key : goal.invariant-loop-key
invariant-loop-key l = (other : Key) → (has_key l.keys other || (list_any (λ k. same_key k other) l.rest.items && has_piece l.names (piece_name other)))
    ≡ (has_key l.initial.keys other || (list_any (λ k. same_key k other) l.fn.listed && has_piece l.names (piece_name other)))

abbrev pub decreases-loop-key : goal.decreases-loop-key
decreases-loop-key l = length l.rest.items
