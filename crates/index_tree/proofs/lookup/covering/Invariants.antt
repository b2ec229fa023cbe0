use Rattle.std.proofs.Common.{◌≡◌, take}
use Rattle.index_tree.specs.Covering.{covers, places_where}
use Rattle.index_tree.proofs.lookup.covering.Given as goal

-- the slots so far were tested
abbrev pub invariant-loop-place : goal.invariant-loop-place
invariant-loop-place l = l.places ≡ places_where (covers l.range l.columns.items) (take l.place l.index.slots)
