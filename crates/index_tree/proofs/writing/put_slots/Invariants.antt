use Rattle.std.proofs.Common.{take}
use Rattle.byte_fields.proofs.Written.{Written}
use Rattle.index_tree.specs.IndexText.{slot_text}
use Rattle.index_tree.proofs.writing.put_slots.Given as goal

-- the slots so far were written
abbrev pub invariant-loop-slot : goal.invariant-loop-slot
invariant-loop-slot l = Written slot_text (take l.slot-index l.slots) l.fn.out.items l.out.items
