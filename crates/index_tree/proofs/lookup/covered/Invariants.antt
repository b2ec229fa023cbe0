use Rattle.std.proofs.Common.{◌≡◌, take, drop, filter}
use Rattle.std.specs.List.{flat_map}
use Rattle.index_tree.specs.IndexText.{slot_text}
use Rattle.index_tree.specs.Covering.{covers}
use Rattle.index_tree.proofs.lookup.covered.Given as goal

-- the slots so far were tested, and the others are left
abbrev pub invariant-loop : goal.invariant-loop
invariant-loop l = record {
  done : l.found ≡ filter (covers l.range l.columns.items) (take l.counter l.slots);
  left : l.rest ≡ flat_map slot_text (drop l.counter l.slots);
}
