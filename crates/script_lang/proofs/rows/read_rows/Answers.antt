use Rattle.std.proofs.Common.{◌≡◌, length, sym, arith}
use Rattle.std.proofs.lemmas.Result.{err_from_is_err_and}
use Rattle.script_lang.specs.Fronts.{whole_number_at, line_at}
use Rattle.script_lang.proofs.RowSteps.{rows_on, rows_err, rows_end, rows_cut}
use Rattle.script_lang.proofs.rows.read_rows.Goals as goal

pub returns-then-is_empty : goal.returns-then-is_empty
returns-then-is_empty c = rows_end (line_at whole_number_at (length c.args.columns.now)) _ c.loop.columns c.loop.rest.now _ (sym c.if-is_empty.ensures) c.loop.invariant

pub returns-in_err-rest : goal.returns-in_err-rest
returns-in_err-rest c =
    let len : length c.loop.columns ≡ length c.args.columns.now = omega arith in
    let p = err_from_is_err_and c.from_residual.result c.from_residual.ensures.1 in
    rw (p.1, p.2)
    (rows_err c.in_err-rest.field-0.0 (line_at whole_number_at (length c.args.columns.now)) (length c.args.bytes.now) c.loop.counter c.loop.columns c.loop.rest.now _ c.loop-test.true (sym c.if-is_empty.ensures)
    (rw len at c.in_err-rest.ensures) c.loop.invariant)

pub loop-preserved : goal.loop-preserved
loop-preserved c =
    let len : length c.loop.columns ≡ length c.args.columns.now = omega arith in
    rows_on (line_at whole_number_at (length c.args.columns.now)) (length c.args.bytes.now) c.loop.counter c.loop.columns c.read_row.new.columns c.loop.rest.now c.in_ok-rest.rest.now _ c.loop-test.true
    (sym c.if-is_empty.ensures) (rw len at c.in_ok-rest.ensures) c.loop.invariant

pub returns-then-is_empty-2 : goal.returns-then-is_empty-2
returns-then-is_empty-2 c = rows_end (line_at whole_number_at (length c.args.columns.now)) _ c.loop.columns c.loop.rest.now _ (sym c.if-is_empty-2.ensures) c.loop.invariant

pub returns-else-is_empty-2 : goal.returns-else-is_empty-2
returns-else-is_empty-2 c = rows_cut (line_at whole_number_at (length c.args.columns.now)) (length c.args.bytes.now) c.loop.counter c.loop.columns c.loop.rest.now _ c.loop-test.false (sym c.if-is_empty-2.ensures) c.loop.invariant
