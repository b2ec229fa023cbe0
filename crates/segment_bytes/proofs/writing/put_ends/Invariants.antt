use Rattle.segment_bytes.proofs.Writes.{EndsSoFar}
use Rattle.segment_bytes.proofs.writing.put_ends.Given as goal

-- the ends so far were written
abbrev pub invariant-loop-place : goal.invariant-loop-place
invariant-loop-place l = EndsSoFar l.texts l.place l.end l.fn.out.items l.out.items
