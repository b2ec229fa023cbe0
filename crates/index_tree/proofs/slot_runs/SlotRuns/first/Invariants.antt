use Rattle.std.proofs.Common.{◌≡◌, drop}
use Rattle.index_tree.specs.SlotTexts.{all_slots}
use Rattle.index_tree.proofs.slot_runs.SlotRuns.first.Given as goal

-- the runs so far had no slots
abbrev pub invariant-loop-run : goal.invariant-loop-run
invariant-loop-run l = all_slots (drop l.run-index l.runs) ≡ l.self
