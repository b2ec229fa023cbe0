use Rattle.std.proofs.Common.{◌≡◌, ◌++◌, map, length}
use Rattle.script_lang.specs.Lines.{between}
use Rattle.script_lang.proofs.lines.parts_between.Given as goal

-- the parts so far and those that are left are all of them
abbrev pub invariant-loop-parts : goal.invariant-loop-parts
invariant-loop-parts l = map (λ part. part.now) l.parts.items ++ between l.separator l.rest ≡ between l.separator l.bytes

abbrev pub decreases-loop-parts : goal.decreases-loop-parts
decreases-loop-parts l = length l.rest
