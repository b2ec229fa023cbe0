use Rattle.std.proofs.Common.{◌≤◌, ◌≡◌, ◌++◌, ◌∙◌, Bool, map, length, subst, ap, arith}
use Rattle.frame_core.specs.Frames.{cell_of}
use Rattle.frame_core.specs.Schemas.{Schema}
use Rattle.reply_text.specs.Commas.{further_fields}
use Rattle.reply_text.specs.FrameText.{cell_text}
use Rattle.reply_text.proofs.Commas.{further-more, further-all, cell-field, row-width}
use Rattle.reply_text.proofs.frame_lines.push_cells.Goals as goal

pub loop-column-preserved : goal.loop-column-preserved
loop-column-preserved c = λ r is.
    further-more c.timed-timed.result c.args.line.now.items c.loop-column.line.items c.push_comma.new.line.items c.push_cell.new.line.items
    (map cell_text r.cells) c.loop-column.column (cell_text (cell_of c.cell.result))
    (cell-field c.args.frame.now c.args.row c.loop-column.column r (cell_of c.cell.result) is c.cell.ensures)
    (c.loop-column.invariant r is) c.in_ok-push_comma.ensures c.in_ok-push_cell.ensures

pub returns : goal.returns
returns c = λ r is.
    let full : length (map cell_text r.cells) ≤ c.loop-column.column =
    omega (arith, row-width c.args.frame.now c.args.row r c.schema.ensures.frame is, c.len-column-end.ensures, ap (λ (s : Schema). length s.columns) c.schema-2.ensures.schema, c.loop-column-test.false) in
    subst (λ (b : Bool). c.loop-column.line.items ≡ c.args.line.now.items ++ further_fields b (map cell_text r.cells)) (c.timed-timed.ensures ∙ ap (λ (s : Schema). s.timed) c.schema.ensures.schema)
    (further-all c.timed-timed.result c.args.line.now.items c.loop-column.line.items (map cell_text r.cells) c.loop-column.column full (c.loop-column.invariant r is))
