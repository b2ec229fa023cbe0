use Rattle.std.proofs.Common.{List, ℕ, take}
use Rattle.byte_fields.proofs.Written.{Written}
use Rattle.segment_bytes.proofs.writing.put_texts.Given as goal

-- the texts so far were written
abbrev pub invariant-loop-place : goal.invariant-loop-place
invariant-loop-place l = Written (λ (t : List ℕ). t) (take l.place l.texts) l.fn.out.items l.out.items
