use Rattle.std.proofs.Common.{◌≡◌, drop, map}
use Rattle.std.specs.Prelude.{fold}
use Rattle.store_model.specs.PlainWalks.{holds_after_mark}
use Rattle.version_chain.specs.States.{hold_of}
use Rattle.version_chain.proofs.collecting.after_marks.Given as goal

-- what is left makes of the holds so far what all marks make of the first ones
abbrev pub invariant-loop-mark : goal.invariant-loop-mark
invariant-loop-mark l = fold holds_after_mark (map hold_of l.holds) (drop l.mark-index l.marks) ≡ fold holds_after_mark (map hold_of l.fn.before) l.marks
