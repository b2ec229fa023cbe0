use Rattle.std.proofs.Common.{◌≡◌, drop}
use Rattle.reply_model.specs.CommitAnswers.{ascending}
use Rattle.prune_rule.proofs.choosing.sorted.Given as goal

-- the numbers from the place on, in order
abbrev pub invariant-loop-place : goal.invariant-loop-place
invariant-loop-place l = l.noted.keys ≡ ascending (drop l.place l.numbers)
