use Rattle.std.proofs.Common.{map}
use Rattle.std.specs.Fmt.{signed_decimal}
use Rattle.std.proofs.lemmas.Result.{on_ok_weaker}
use Rattle.reply_text.specs.FrameText.{cell_text}
use Rattle.reply_text.proofs.Commas.{record-made}
use Rattle.reply_text.proofs.frame_lines.push_row.Goals as goal

pub returns : goal.returns
returns c = λ r is. on_ok_weaker c.push_end.result (λ made.
    record-made c.args.frame.now.schema.timed c.args.line.now.items c.push_stamp.new.line.items c.push_cells.new.line.items c.push_end.new.line.items (signed_decimal r.stamp) (map cell_text r.cells)
    (c.in_ok-push_stamp.ensures r is) (c.in_ok-push_cells.ensures r is) made) c.push_end.ensures
