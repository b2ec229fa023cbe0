use Rattle.std.proofs.Common.{ap, sym, ◌∙◌}
use Rattle.std.specs.Prelude.{Some}
use Rattle.frame_core.specs.Frames.{cell_of}
use Rattle.expr_clause.specs.Exprs.{value, among_value}
use Rattle.expr_clause.specs.Cells.{answered}
use Rattle.expr_clause.proofs.Values.{value_unary, value_binary, value_binary_none, value_among}
use Rattle.expr_clause.proofs.evaluating.+eval_row.Goals as goal

pub returns-in-Ok : goal.returns-in-Ok
returns-in-Ok g t c =
    let columns = g.R.RowCells.columns c.args.row.now in
    let row = g.R.RowCells.cells c.args.row.now in
    let part = ap (value columns row) (sym c.get.ensures) ∙ sym c.eval_row.ensures ∙ ap answered c.in-Ok.is in
    c.unary.ensures ∙ sym (ap (value columns row) c.in-Unary.is ∙ value_unary columns row c.in-Unary.op c.in-Unary.arg (Some (cell_of c.in-Ok.x)) part)

pub returns-in-Ok-eval_row-2 : goal.returns-in-Ok-eval_row-2
returns-in-Ok-eval_row-2 g t c =
    let columns = g.R.RowCells.columns c.args.row.now in
    let row = g.R.RowCells.cells c.args.row.now in
    let left = ap (value columns row) (sym c.get-in-Binary.ensures) ∙ sym c.eval_row-in-Binary.ensures ∙ ap answered c.in-Ok-eval_row.is in
    let right = ap (value columns row) (sym c.get-in-Ok-eval_row.ensures) ∙ sym c.eval_row-in-Ok-eval_row.ensures ∙ ap answered c.in-Ok-eval_row-2.is in
    c.binary.ensures ∙ sym (ap (value columns row) c.in-Binary.is ∙ value_binary columns row c.in-Binary.op c.in-Binary.left c.in-Binary.right (Some (cell_of c.in-Ok-eval_row.x)) (Some (cell_of c.in-Ok-eval_row-2.y)) left right)

pub returns-in-Err-eval_row : goal.returns-in-Err-eval_row
returns-in-Err-eval_row g t c =
    let columns = g.R.RowCells.columns c.args.row.now in
    let row = g.R.RowCells.cells c.args.row.now in
    let left = ap (value columns row) (sym c.get-in-Binary.ensures) ∙ sym c.eval_row-in-Binary.ensures ∙ ap answered c.in-Err-eval_row.is in
    sym (ap (value columns row) c.in-Binary.is ∙ value_binary_none columns row c.in-Binary.op c.in-Binary.left c.in-Binary.right left)

pub returns-in-Ok-eval_row-3 : goal.returns-in-Ok-eval_row-3
returns-in-Ok-eval_row-3 g t c =
    let columns = g.R.RowCells.columns c.args.row.now in
    let row = g.R.RowCells.cells c.args.row.now in
    let part = ap (value columns row) (sym c.get-in-Among.ensures) ∙ sym c.eval_row-in-Among.ensures ∙ ap answered c.in-Ok-eval_row-3.is in
    c.among.ensures ∙ ap (λ list. among_value list c.in-Among.negated (cell_of c.in-Ok-eval_row-3.x)) c.items.ensures ∙ sym (ap (value columns row) c.in-Among.is ∙ value_among columns row c.in-Among.arg c.in-Among.list c.in-Among.negated (Some (cell_of c.in-Ok-eval_row-3.x)) part)
