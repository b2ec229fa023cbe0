use Rattle.std.proofs.Common.{◌≡◌, ◌+◌, ◌++◌, map, take}
use Rattle.frame_core.proofs.text_parts.raised.Given as goal

-- the first ends stand, and behind them those so far, raised
abbrev pub invariant-loop-end : goal.invariant-loop-end
invariant-loop-end l = l.ends.items ≡ l.first ++ map (λ end. end + l.by) (take l.end-index l.more)
