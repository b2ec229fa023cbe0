use Rattle.std.proofs.Common.{◌≡◌, ◌++◌, drop}
use Rattle.version_chain.specs.Tips.{live_among}
use Rattle.version_chain.proofs.tip.live_numbers.Given as goal

-- the numbers so far, and behind them those of the other rows
abbrev pub invariant-loop-row : goal.invariant-loop-row
invariant-loop-row l = l.numbers ++ live_among l.tombs (drop l.row-index l.links) ≡ live_among l.tombs l.links
