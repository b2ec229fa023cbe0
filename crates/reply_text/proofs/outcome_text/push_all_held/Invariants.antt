use Rattle.std.proofs.Common.{◌≡◌, ◌++◌, take}
use Rattle.std.specs.List.{flat_map}
use Rattle.reply_text.specs.Replies.{held_text}
use Rattle.reply_text.proofs.outcome_text.push_all_held.Given as goal

-- the symbols so far stand in the line
abbrev pub invariant-loop-one : goal.invariant-loop-one
invariant-loop-one l = l.line.items ≡ l.fn.line.items ++ flat_map held_text (take l.one-index l.held)
