use Rattle.std.proofs.Common.{◌≡◌, ◌+◌, drop, length}
use Rattle.std.specs.Prelude.{fold}
use Rattle.script_lang.specs.Fronts.{with_digit, value_of, digits_of}
use Rattle.script_lang.proofs.number.count_all.Given as goal

-- what is left of the digits makes of the value so far what all of them make of 0
abbrev pub invariant-loop-place : goal.invariant-loop-place
invariant-loop-place l = record {
  value : fold with_digit l.value (digits_of (drop l.place l.bytes)) ≡ value_of (digits_of l.bytes);
  count : l.place + length (digits_of (drop l.place l.bytes)) ≡ length (digits_of l.bytes);
}
