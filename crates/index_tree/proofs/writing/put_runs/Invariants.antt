use Rattle.std.proofs.Common.{take}
use Rattle.std.specs.List.{flat_map}
use Rattle.byte_fields.proofs.Written.{Written}
use Rattle.index_tree.specs.IndexText.{slot_text}
use Rattle.index_tree.proofs.writing.put_runs.Given as goal

-- the runs so far were written
abbrev pub invariant-loop-run : goal.invariant-loop-run
invariant-loop-run l = Written (flat_map slot_text) (take l.run-index l.runs) l.fn.out.items l.out.items
