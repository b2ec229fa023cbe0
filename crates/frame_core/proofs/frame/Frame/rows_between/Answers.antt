use Rattle.std.proofs.Common.{refl, sym, ◌∙◌, not, map, ap}
use Rattle.frame_core.specs.Ranges.{is_below, is_above}
use Rattle.frame_core.specs.Frames.{Frame, stamps_of}
use Rattle.frame_core.specs.Columns.{column_cells}
use Rattle.frame_core.proofs.Rows.{stamps-rows_from}
use Rattle.frame_core.proofs.Counts.{count_of_stamps}
use Rattle.frame_core.proofs.frame.Frame.rows_between.Goals as goal

pub returns : goal.returns
returns c =
    let stamps = c.items-stamps.ensures ∙ sym (stamps-rows_from c.self.inside.stamps (map column_cells c.self.inside.columns)) ∙ ap (λ (f : Frame). stamps_of f.rows) c.self.view_is in
    let below = c.count_below.ensures.count ∙ count_of_stamps (is_below c.args.range) c.args.self.now.rows c.items-stamps.result.now stamps in
    let up_to = c.count_up_to.ensures ∙ count_of_stamps (λ t. not (is_above c.args.range t)) c.args.self.now.rows c.items-stamps.result.now stamps in
    rw (below, up_to) refl
