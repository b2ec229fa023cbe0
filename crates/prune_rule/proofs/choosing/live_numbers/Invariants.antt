use Rattle.std.proofs.Common.{◌≡◌, ◌++◌, drop}
use Rattle.prune_rule.specs.Burials.{live_among}
use Rattle.prune_rule.proofs.choosing.live_numbers.Given as goal

-- the numbers so far, and behind them those of the other rows
abbrev pub invariant-loop-row : goal.invariant-loop-row
invariant-loop-row l = l.numbers ++ live_among l.state.tombs (drop l.row-index l.row-items) ≡ live_among l.state.tombs l.state.links
