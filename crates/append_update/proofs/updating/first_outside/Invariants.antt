use Rattle.std.proofs.Common.{◌≡◌, ◌+◌, drop}
use Rattle.reply_model.specs.CommitAnswers.{outside}
use Rattle.append_update.proofs.updating.first_outside.Given as goal

-- of the rows that are left the first outside is that of all
abbrev pub invariant-loop-row : goal.invariant-loop-row
invariant-loop-row l = outside (l.row + 1) l.range (drop l.row l.frame.rows) ≡ outside 1 l.range l.frame.rows
