use Rattle.std.proofs.Common.{◌≡◌, ◌-◌, ℕ, length, sym, ap, ◌∙◌, rules, SFits, w64, arith}
use Rattle.std.proofs.lemmas.Int.{to_z-of_z}
use Rattle.script_lang.specs.Fronts.{whole_number_at, field_at, line_at}
use Rattle.script_lang.proofs.RowSteps.{row_on, row_bad, row_end, from_place-start}
use Rattle.script_lang.proofs.rows.read_row.Goals as goal

pub loop-place-init : goal.loop-place-init
loop-place-init c =
    let all : length c.args.columns.now - 0 ≡ length c.args.columns.now = omega arith in
    rw all (from_place-start c.args.columns.now (line_at whole_number_at (length c.args.columns.now) c.args.bytes.now))

pub returns-in_default : goal.returns-in_default
returns-in_default c =
    row_bad whole_number_at (length c.args.columns.now) c.loop-place.place c.loop-place.columns c.loop-place.rest.now _ c.loop-place-test.true
    (ap (λ (stop : ℕ). field_at whole_number_at stop c.loop-place.rest.now) (sym c.stop_of.ensures) ∙ sym c.in_default.ensures) c.loop-place.invariant

pub loop-place-preserved : goal.loop-place-preserved
loop-place-preserved c =
    let fits : SFits w64 c.in-Some.number = search rules in
    let len : length c.args.columns.now ≡ length c.loop-place.columns = omega arith in
    rw (c.in_ok-push.ensures.ok, to_z-of_z w64 c.in-Some.number fits)
    (row_on whole_number_at (length c.args.columns.now) c.loop-place.place c.loop-place.columns _ c.loop-place.rest.now c.in-Some.after.now c.in-Some.number _ c.loop-place-test.true len
    (ap (λ (stop : ℕ). field_at whole_number_at stop c.loop-place.rest.now) (sym c.stop_of.ensures) ∙ sym c.in-Some.ensures) c.loop-place.invariant)

pub returns : goal.returns
returns c =
    let len : length c.args.columns.now ≡ length c.loop-place.columns = omega arith in
    row_end whole_number_at (length c.args.columns.now) c.loop-place.place c.loop-place.columns c.loop-place.rest.now _ c.loop-place-test.false len c.loop-place.invariant
