use Rattle.std.proofs.Common.{◌≡◌, map, take, drop}
use Rattle.std.specs.List.{flat_map}
use Rattle.index_tree.specs.IndexText.{slot_text}
use Rattle.index_tree.specs.SlotTexts.{moved}
use Rattle.index_tree.proofs.slot_text.SlotText.rewritten.Given as goal

-- the slots so far were moved, and the others are left
abbrev pub invariant-loop : goal.invariant-loop
invariant-loop l = record {
  done : l.bytes.items ≡ flat_map slot_text (map (moved l.fn.from l.fn.to) (take l.counter l.fn.self));
  left : l.rest ≡ flat_map slot_text (drop l.counter l.fn.self);
}
