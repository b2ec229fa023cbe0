use Rattle.std.proofs.Common.{◌≡◌, ◌≤◌, ◌∙◌, Some, None, length, sym, ap, subst, arith}
use Rattle.script_lang.specs.Fronts.{where_true, digits_at}
use Rattle.frame_core.specs.Texts.{Text}
use Rattle.program_run.proofs.Digits.{whole-long, whole-none, whole-some}
use Rattle.program_run.proofs.words.digits_number.Goals as goal

pub returns-then-word-gt7 : goal.returns-then-word-gt7
returns-then-word-gt7 c = sym (whole-long c.args.word.now (omega (arith, c.if-word-gt7.true)))

pub returns-in_err-number : goal.returns-in_err-number
returns-in_err-number c =
    let few : length c.args.word.now ≤ 7 = omega (arith, c.if-word-gt7.false) in
    c.from_residual.ensures ∙ sym (whole-none c.args.word.now few (subst (λ (t : Text). None ≡ digits_at 18 t) c.as_bytes.ensures.value c.in_err-number.ensures.reads))

pub returns-then-is_empty : goal.returns-then-is_empty
returns-then-is_empty c =
    let few : length c.args.word.now ≤ 7 = omega (arith, c.if-word-gt7.false) in
    sym (whole-some c.args.word.now c.in_ok-number.number c.in_ok-number.rest.now few (subst (λ (t : Text). Some (c.in_ok-number.number, c.in_ok-number.rest.now) ≡ digits_at 18 t) c.as_bytes.ensures.value c.in_ok-number.ensures.reads)
    ∙ ap (λ b. where_true b c.in_ok-number.number) (sym c.if-is_empty.ensures))

pub returns-else-is_empty : goal.returns-else-is_empty
returns-else-is_empty c =
    let few : length c.args.word.now ≤ 7 = omega (arith, c.if-word-gt7.false) in
    sym (whole-some c.args.word.now c.in_ok-number.number c.in_ok-number.rest.now few (subst (λ (t : Text). Some (c.in_ok-number.number, c.in_ok-number.rest.now) ≡ digits_at 18 t) c.as_bytes.ensures.value c.in_ok-number.ensures.reads)
    ∙ ap (λ b. where_true b c.in_ok-number.number) (sym c.if-is_empty.ensures))
