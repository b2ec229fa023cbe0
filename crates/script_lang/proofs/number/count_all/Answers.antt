use Rattle.std.proofs.Common.{◌≡◌, true, sym, ap, ◌∙◌, ◌^◌, ◌+◌, ◌-◌, get_or, drop, length, arith}
use Rattle.std.specs.Prelude.{fold}
use Rattle.std.specs.Char.{is_ascii_digit}
use Rattle.script_lang.specs.Fronts.{with_digit, digits_of}
use Rattle.script_lang.proofs.Digits.{digits_of-drop, above_at_tens, above_at_digit}
use Rattle.script_lang.proofs.number.count_all.Goals as goal

pub returns-in_default-clause-large : goal.returns-in_default-clause-large
returns-in_default-clause-large c =
    let digit : is_ascii_digit (get_or c.args.bytes.now c.loop-place.place 0) ≡ true = sym c.is_digit.ensures ∙ c.if-not-is_digit.false in
    λ none. above_at_tens (2 ^ 64) c.loop-place.value c.loop-place.place _ c.args.bytes.now c.loop-place-test.true digit c.loop-place.invariant.value c.in_default.ensures

pub returns-in_default-checked_add-clause-large : goal.returns-in_default-checked_add-clause-large
returns-in_default-checked_add-clause-large c =
    let digit : is_ascii_digit (get_or c.args.bytes.now c.loop-place.place 0) ≡ true = sym c.is_digit.ensures ∙ c.if-not-is_digit.false in
    let above = rw c.in-Some.ensures.1 at c.in_default-checked_add.ensures in
    λ none. above_at_digit (2 ^ 64) c.loop-place.value c.loop-place.place _ c.args.bytes.now c.loop-place-test.true digit c.loop-place.invariant.value above

pub loop-place-preserved : goal.loop-place-preserved
loop-place-preserved c =
    let digit : is_ascii_digit (get_or c.args.bytes.now c.loop-place.place 0) ≡ true = sym c.is_digit.ensures ∙ c.if-not-is_digit.false in
    let first = digits_of-drop c.args.bytes.now c.loop-place.place c.loop-place-test.true digit in
    record {
      value = ap (λ n. fold with_digit n (digits_of (drop (c.loop-place.place + 1) c.args.bytes.now))) (c.in-Some-checked_add.ensures.1 ∙ ap (λ tens. tens + (get_or c.args.bytes.now c.loop-place.place 0 - 48)) c.in-Some.ensures.1) ∙ sym (ap (λ ds. fold with_digit c.loop-place.value ds) first) ∙ c.loop-place.invariant.value;
      count = omega (arith, ap length first, c.loop-place.invariant.count);
    }
