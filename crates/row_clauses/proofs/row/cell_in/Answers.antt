use Rattle.std.proofs.Common.{◌∙◌, ap, length, arith}
use Rattle.frame_core.specs.Schemas.{Schema}
use Rattle.row_clauses.proofs.RowCells.{made_at}
use Rattle.row_clauses.proofs.row.cell_in.Goals as goal

pub returns : goal.returns
returns c =
    c.made_cell.ensures
    ∙ made_at c.args.frame.now c.args.row c.args.made.now c.args.place c.len-width.result c.schema.ensures.frame c.requires
    (c.len-width.ensures ∙ ap (λ (s : Schema). length s.columns) c.schema.ensures.schema) (omega (arith, c.if-place-width.false))
