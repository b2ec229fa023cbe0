use Rattle.std.proofs.Common.{ap, sym, ◌∙◌, map}
use Rattle.frame_core.specs.Frames.{cell_of}
use Rattle.expr_clause.specs.Cells.{answered}
use Rattle.expr_clause.specs.Exprs.{columns_of}
use Rattle.row_clauses.specs.Lying.{cells_at, lying, operand}
use Rattle.row_clauses.proofs.PlanLaws.{spot_cells}
use Rattle.row_clauses.proofs.row.value_on.Goals as goal

pub returns-in-Ok : goal.returns-in-Ok
returns-in-Ok c = λ columns layout spots.
    let cells = cells_at c.args.frame.now c.args.row c.args.made.now in
    let all = ap (map cell_of) c.deref.ensures.value ∙ c.in_ok-find_operands.ensures ∙ ap (map (operand cells)) spots ∙ spot_cells cells columns layout (columns_of c.args.expr.now) in
    sym (ap answered c.in-Ok.is) ∙ c.eval_cells.ensures columns (lying cells layout) all

pub returns-in-Err : goal.returns-in-Err
returns-in-Err c = λ columns layout spots.
    let cells = cells_at c.args.frame.now c.args.row c.args.made.now in
    let all = ap (map cell_of) c.deref.ensures.value ∙ c.in_ok-find_operands.ensures ∙ ap (map (operand cells)) spots ∙ spot_cells cells columns layout (columns_of c.args.expr.now) in
    sym (ap answered c.in-Err.is) ∙ c.eval_cells.ensures columns (lying cells layout) all
