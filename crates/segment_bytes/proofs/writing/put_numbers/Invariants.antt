use Rattle.std.proofs.Common.{take}
use Rattle.byte_fields.specs.Reading.{signed_text}
use Rattle.byte_fields.proofs.Written.{Written}
use Rattle.segment_bytes.proofs.writing.put_numbers.Given as goal

-- the numbers so far were written
abbrev pub invariant-loop-number : goal.invariant-loop-number
invariant-loop-number l = Written signed_text (take l.number-index l.numbers) l.fn.out.items l.out.items
