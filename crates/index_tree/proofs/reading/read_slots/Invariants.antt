use Rattle.index_tree.proofs.IndexLoops.{SlotsSoFar}
use Rattle.index_tree.proofs.reading.read_slots.Given as goal

-- the slots so far were read, and what is left gives what the whole gives
abbrev pub invariant-loop : goal.invariant-loop
invariant-loop l = SlotsSoFar l.total l.columns l.count l.counter l.bytes l.rest l.reach l.slots
