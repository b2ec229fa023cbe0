use Rattle.std.proofs.Common.{◌≡◌, ◌-◌, map, take}
use Rattle.frame_core.proofs.text_parts.lowered.Given as goal

-- the ends so far were lowered
abbrev pub invariant-loop-end : goal.invariant-loop-end
invariant-loop-end l = l.lower.items ≡ map (λ end. end - l.by) (take l.end-index l.ends)
