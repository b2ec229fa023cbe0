use Rattle.std.proofs.Common.{take}
use Rattle.segment_bytes.specs.CellTexts.{flag_text}
use Rattle.byte_fields.proofs.Written.{Written}
use Rattle.segment_bytes.proofs.writing.put_flags.Given as goal

-- the flags so far were written
abbrev pub invariant-loop-flag : goal.invariant-loop-flag
invariant-loop-flag l = Written flag_text (take l.flag-index l.flags) l.fn.out.items l.out.items
