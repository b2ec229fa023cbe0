use Rattle.std.proofs.Common.{◌∙◌, ap, sym, map}
use Rattle.frame_core.specs.Frames.{Frame, stamps_of}
use Rattle.frame_core.specs.Columns.{column_cells}
use Rattle.frame_core.proofs.Rows.{stamps-rows_from}
use Rattle.frame_core.proofs.frame.Frame.stamps.Goals as goal

pub returns : goal.returns
returns c = c.items.ensures ∙ sym (stamps-rows_from c.self.inside.stamps (map column_cells c.self.inside.columns)) ∙ ap (λ (f : Frame). stamps_of f.rows) c.self.view_is
