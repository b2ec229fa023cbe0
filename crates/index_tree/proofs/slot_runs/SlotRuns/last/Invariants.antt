use Rattle.std.proofs.Common.{◌≡◌, length}
use Rattle.index_tree.specs.SlotTexts.{all_slots}
use Rattle.index_tree.proofs.slot_runs.SlotRuns.last.Given as goal

-- the runs behind those that are left had no slots
abbrev pub invariant-loop-run : goal.invariant-loop-run
invariant-loop-run l = all_slots l.runs ≡ l.self

abbrev pub decreases-loop-run : goal.decreases-loop-run
decreases-loop-run l = length l.runs
