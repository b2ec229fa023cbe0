use Rattle.std.proofs.Common.{◌≡◌, ◌++◌, length}
use Rattle.prune_rule.proofs.choosing.listed.Given as goal

-- the numbers so far, and behind them those that are left
abbrev pub invariant-loop-number : goal.invariant-loop-number
invariant-loop-number l = l.numbers ++ l.rest.keys ≡ l.fn.noted.keys

abbrev pub decreases-loop-number : goal.decreases-loop-number
decreases-loop-number l = length l.rest.keys
