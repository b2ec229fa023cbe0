use Rattle.std.proofs.Common.{◌≡◌, ◌<◌, true, sym, ap, ◌∙◌, get_or, length, arith}
use Rattle.std.specs.Prelude.{fold}
use Rattle.std.specs.Char.{is_ascii_digit}
use Rattle.script_lang.specs.Fronts.{with_digit}
use Rattle.script_lang.proofs.Digits.{pow_17, pow_18, one_digit_more, digits_of-drop}
use Rattle.script_lang.proofs.number.count_digits.Goals as goal

pub returns-then-not-is_digit-clause-small : goal.returns-then-not-is_digit-clause-small
returns-then-not-is_digit-clause-small c = omega (arith, pow_18 c.loop-place.place c.loop-place.invariant.few, c.loop-place.invariant.small)

pub returns-clause-small : goal.returns-clause-small
returns-clause-small c = omega (arith, pow_18 c.loop-place.place c.loop-place.invariant.few, c.loop-place.invariant.small)

pub overflow_mul-value : goal.overflow_mul-value
overflow_mul-value c = let below : c.loop-place.place < 18 = omega arith in omega (arith, pow_17 c.loop-place.place below, c.loop-place.invariant.small)

pub overflow_add-value : goal.overflow_add-value
overflow_add-value c =
    let below : c.loop-place.place < 18 = omega arith in
    omega (arith, pow_17 c.loop-place.place below, c.loop-place.invariant.small, c.type_inv.bytes c.loop-place.place)

pub loop-place-preserved : goal.loop-place-preserved
loop-place-preserved c =
    let digit : is_ascii_digit (get_or c.args.bytes.now c.loop-place.place 0) ≡ true = sym c.is_digit.ensures ∙ c.if-not-is_digit.false in
    let first = digits_of-drop c.args.bytes.now c.loop-place.place c.loop-place-test.true digit in
    record {
      value = sym (ap (λ ds. fold with_digit c.loop-place.value ds) first) ∙ c.loop-place.invariant.value;
      count = omega (arith, ap length first, c.loop-place.invariant.count);
      few = omega arith;
      small = one_digit_more c.loop-place.place c.loop-place.value (get_or c.args.bytes.now c.loop-place.place 0) c.loop-place.invariant.small digit;
    }
