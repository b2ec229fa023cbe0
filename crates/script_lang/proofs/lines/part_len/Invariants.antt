use Rattle.std.proofs.Common.{◌≡◌, ◌+◌, drop, length}
use Rattle.script_lang.specs.Lines.{part_at}
use Rattle.script_lang.proofs.lines.part_len.Given as goal

-- the part's bytes so far and those that are left are all of them
abbrev pub invariant-loop-place : goal.invariant-loop-place
invariant-loop-place l = l.place + length (part_at l.separator (drop l.place l.bytes)) ≡ length (part_at l.separator l.bytes)
