use Rattle.std.proofs.Common.{◌≡◌, take, drop}
use Rattle.std.specs.List.{flat_map}
use Rattle.index_tree.specs.IndexText.{slot_text}
use Rattle.index_tree.proofs.slot_text.SlotText.to_slots.Given as goal

-- the slots so far were read, and the others are left
abbrev pub invariant-loop : goal.invariant-loop
invariant-loop l = record {
  done : l.slots ≡ take l.counter l.fn.self;
  left : l.rest ≡ flat_map slot_text (drop l.counter l.fn.self);
}
