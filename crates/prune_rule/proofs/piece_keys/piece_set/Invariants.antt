use Rattle.std.proofs.Common.{◌≡◌, drop}
use Rattle.std.specs.List.{list_any}
use Rattle.bucket_core.specs.declared.event.PieceName.{PieceName}
use Rattle.store_model.specs.Library.{same_piece}
use Rattle.prune_rule.specs.DeadKeys.{has_piece}
use Rattle.prune_rule.proofs.piece_keys.piece_set.Given as goal

-- the pieces from the place on
abbrev pub invariant-loop-place : goal.invariant-loop-place
invariant-loop-place l = (name : PieceName) → has_piece l.set name ≡ list_any (same_piece name) (drop l.place l.pieces)
