use Rattle.std.proofs.Common.{◌≡◌, take}
use Rattle.base_types.proofs.items.Items.copy.Given as goal

-- the items so far were copied
abbrev pub invariant-loop-item : goal.invariant-loop-item
invariant-loop-item g l = l.copy ≡ take l.item-index l.item-items
