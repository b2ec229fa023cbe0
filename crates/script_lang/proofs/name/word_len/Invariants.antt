use Rattle.std.proofs.Common.{◌≡◌, ◌+◌, drop, length}
use Rattle.script_lang.specs.Fronts.{word_of}
use Rattle.script_lang.proofs.name.word_len.Given as goal

-- the word's bytes so far and those that are left are all of them
abbrev pub invariant-loop-place : goal.invariant-loop-place
invariant-loop-place l = l.place + length (word_of (drop l.place l.bytes)) ≡ length (word_of l.bytes)
