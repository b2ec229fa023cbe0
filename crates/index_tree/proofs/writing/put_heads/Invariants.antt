use Rattle.std.proofs.Common.{take}
use Rattle.byte_fields.proofs.Written.{Written}
use Rattle.segment_bytes.specs.Heads.{head_text}
use Rattle.index_tree.proofs.writing.put_heads.Given as goal

-- the columns so far were written
abbrev pub invariant-loop-name : goal.invariant-loop-name
invariant-loop-name l = Written head_text (take l.name-index l.columns) l.fn.out.items l.out.items
