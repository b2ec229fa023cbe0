use Rattle.std.proofs.Common.{◌≡◌, arith, ap, sym, ◌∙◌, None, Some, Ok, List, Option, length, ◌-◌}
use Rattle.std.specs.Prelude.{option_map, slice_get}
use Rattle.std.proofs.lemmas.Result.{err_from_is_err_and}
use Rattle.byte_fields.specs.Reading.{◌>>=◌}
use Rattle.key_kind.specs.Names.{Name}
use Rattle.store_model.specs.declared.snapshot.SnapRow.{SnapRow}
use Rattle.store_model.specs.ChainText.{snap_rows_at}
use Rattle.version_chain.specs.Reads.{snap_row_at}
use Rattle.version_chain.proofs.Steps.{so_far_more, so_far_fails, so_far_ends, row_step, rows_step, stops_as, last_symbol, last_symbol-push}
use Rattle.version_chain.proofs.snapshots.read_rows.Goals as goal

-- the row before is the last one so far
before : (rows items : List SnapRow) (found : Option SnapRow) → items ≡ rows → found ≡ slice_get items (length items - 1) → option_map (λ (row : SnapRow). row.symbol) found ≡ last_symbol rows
before rows items found same is = ap (option_map (λ (row : SnapRow). row.symbol)) (is ∙ ap (λ (xs : List SnapRow). slice_get xs (length xs - 1)) same)

pub returns-in_err-row : goal.returns-in_err-row
returns-in_err-row c =
    let p = err_from_is_err_and c.from_residual.result c.from_residual.ensures.1 in
    let last = before c.loop.rows c.items.result.now _ c.items.ensures c.last.ensures.value in
    rw (p.1, p.2) (stops_as c.in_err-row.field-0.0 (snap_row_at _ c.loop.rest.now) (snap_rows_at None c.args.count c.args.bytes.now)
    (λ left e. rows_step None c.args.count c.args.bytes.now
    ∙ so_far_fails row_step None c.args.count c.args.bytes.now c.loop.counter c.loop.rows (last_symbol c.loop.rows) c.loop.rest.now left c.loop-test.true
    (ap (λ r. r >>= λ x. Ok ((x.0, Some x.0.symbol), x.1)) (ap (λ (o : Option Name). snap_row_at o c.loop.rest.now) (sym last) ∙ e)) c.loop.invariant) c.in_err-row.ensures)

pub loop-preserved : goal.loop-preserved
loop-preserved c =
    let last = before c.loop.rows c.items.result.now _ c.items.ensures c.last.ensures.value in
    rw (c.in_ok-push.ensures.ok, last_symbol-push c.loop.rows c.in_ok-row.row) (so_far_more row_step None c.args.count c.args.bytes.now c.loop.counter c.loop.rows (last_symbol c.loop.rows) c.loop.rest.now
    c.in_ok-row.row (Some c.in_ok-row.row.symbol) c.in_ok-row.after.now c.loop-test.true
    (ap (λ r. r >>= λ x. Ok ((x.0, Some x.0.symbol), x.1)) (ap (λ (o : Option Name). snap_row_at o c.loop.rest.now) (sym last) ∙ c.in_ok-row.ensures)) c.loop.invariant)

pub returns : goal.returns
returns c = rows_step None c.args.count c.args.bytes.now ∙ so_far_ends row_step None c.args.count c.args.bytes.now c.loop.counter c.loop.rows (last_symbol c.loop.rows) c.loop.rest.now (omega (arith, c.loop-test.false)) c.loop.invariant
