use Rattle.std.proofs.Common.{◌≡◌, ◌||◌, ◌&&◌, not, length}
use Rattle.std.specs.List.{list_any}
use Rattle.key_kind.specs.declared.key.Key.{Key}
use Rattle.key_kind.specs.Keys.{same_key}
use Rattle.prune_rule.specs.DeadKeys.{has_key, reached_keys}
use Rattle.prune_rule.proofs.SetLemmas.{noting}
use Rattle.prune_rule.proofs.reaching.note_reached.Given as goal

-- the keys so far, and those that are left
abbrev pub invariant-loop-slot : goal.invariant-loop-slot
invariant-loop-slot l = (other : Key) → noting l.keys l.kept l.rest.items other ≡ (has_key l.fn.keys other || (list_any (λ k. same_key k other) (reached_keys l.fn.key l.fn.index) && not (has_key l.kept other)))

abbrev pub decreases-loop-slot : goal.decreases-loop-slot
decreases-loop-slot l = length l.rest.items
