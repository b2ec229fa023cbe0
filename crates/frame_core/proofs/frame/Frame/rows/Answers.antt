use Rattle.std.proofs.Common.{◌∙◌, ap, sym, length, map}
use Rattle.frame_core.specs.Frames.{Frame}
use Rattle.frame_core.specs.Columns.{column_cells}
use Rattle.frame_core.proofs.Rows.{length-rows_from}
use Rattle.frame_core.proofs.WholeFrames.{IsFrame-whole}
use Rattle.frame_core.proofs.frame.Frame.rows.Goals as goal

pub returns-clause-rows : goal.returns-clause-rows
returns-clause-rows c = c.len.ensures ∙ sym (length-rows_from c.self.inside.stamps (map column_cells c.self.inside.columns)) ∙ ap (λ (f : Frame). length f.rows) c.self.view_is

pub returns-clause-frame : goal.returns-clause-frame
returns-clause-frame c = IsFrame-whole _ _ _ _ c.self.view_is c.self.invariant
