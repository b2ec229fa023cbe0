use Rattle.std.proofs.Common.{take}
use Rattle.std.specs.List.{AllByRecursion}
use Rattle.byte_fields.proofs.Written.{Written}
use Rattle.store_model.specs.ChainText.{mark_text}
use Rattle.version_chain.specs.Entries.{FitsMark}
use Rattle.version_chain.proofs.elements.put_marks.Given as goal

-- the marks so far were written, and their numbers fit
abbrev pub invariant-loop-mark : goal.invariant-loop-mark
invariant-loop-mark l = record {
  text : Written mark_text (take l.mark-index l.marks) l.fn.out.items l.out.items;
  fits : AllByRecursion FitsMark (take l.mark-index l.marks);
}
