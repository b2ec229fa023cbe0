use Rattle.std.proofs.Common.{ℕ, sym, ap, ◌∙◌}
use Rattle.script_lang.specs.Fronts.{field_at}
use Rattle.script_lang.specs.PlainFiles.{column_name_at}
use Rattle.script_lang.proofs.LineSteps.{line_on, line_bad, line_end}
use Rattle.script_lang.proofs.header.read_names.Goals as goal

pub returns-in_default : goal.returns-in_default
returns-in_default c =
    line_bad column_name_at c.args.count c.loop-place.place c.loop-place.rest.now c.loop-place.names _ c.loop-place-test.true
    (ap (λ (stop : ℕ). field_at column_name_at stop c.loop-place.rest.now) (sym c.stop_of.ensures) ∙ sym c.in_default.ensures.reads) c.loop-place.invariant

pub loop-place-preserved : goal.loop-place-preserved
loop-place-preserved c =
    rw (c.in_ok-push.ensures.ok, c.in_ok-name_of.ensures.name)
    (line_on column_name_at c.args.count c.loop-place.place c.loop-place.rest.now c.in-Some.after.now c.loop-place.names c.in-Some.name.now _ c.loop-place-test.true
    (ap (λ (stop : ℕ). field_at column_name_at stop c.loop-place.rest.now) (sym c.stop_of.ensures) ∙ sym c.in-Some.ensures.reads) c.loop-place.invariant)

pub returns : goal.returns
returns c = line_end column_name_at c.args.count c.loop-place.place c.loop-place.rest.now c.loop-place.names _ c.loop-place-test.false c.loop-place.invariant
