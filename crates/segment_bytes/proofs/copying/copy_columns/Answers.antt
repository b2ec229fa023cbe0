use Rattle.std.proofs.Common.{◌∙◌, ◌<◌, length, map, arith}
use Rattle.frame_core.specs.Schemas.{Head}
use Rattle.frame_core.specs.Columns.{column_type, column_cells, columns_from, cells_of}
use Rattle.segment_bytes.proofs.Copies.{copied_more, kind_at, cells_at_column, columns_all}
use Rattle.segment_bytes.proofs.copying.copy_columns.Goals as goal

pub loop-col-preserved : goal.loop-col-preserved
loop-col-preserved c =
    let f = c.args.view.now in
    let within : c.loop-col.col < length f.schema.columns = omega (arith, c.loop-col-test.true, c.cols-col-end.ensures) in
    record {
      types = copied_more column_type c.loop-col.columns c.push.new.self c.in_ok-copy_column.field-0 (map (λ (h : Head). h.1) f.schema.columns) c.column.result.0 c.loop-col.col c.loop-col.invariant.types (kind_at f c.loop-col.col c.column.result.0 c.column.ensures.kind) c.in_ok-push.ensures.ok c.in_ok-copy_column.ensures.kind;
      cells = copied_more column_cells c.loop-col.columns c.push.new.self c.in_ok-copy_column.field-0 (columns_from 0 (length f.schema.columns) f.rows) (cells_of c.loop-col.col f.rows) c.loop-col.col c.loop-col.invariant.cells (cells_at_column f c.loop-col.col within) c.in_ok-push.ensures.ok (c.in_ok-copy_column.ensures.cells ∙ c.column.ensures.cells);
    }

pub returns-clause-cells : goal.returns-clause-cells
returns-clause-cells c = columns_all c.args.view.now c.loop-col.col _ (omega (arith, c.loop-col-test.false, c.cols-col-end.ensures)) c.loop-col.invariant.cells
