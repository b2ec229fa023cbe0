use Rattle.std.proofs.Common.{◌∙◌, ap}
use Rattle.std.specs.List.{position_from}
use Rattle.frame_core.specs.Texts.{same_text}
use Rattle.frame_core.specs.Frames.{Frame}
use Rattle.frame_core.specs.Selecting.{place_of}
use Rattle.segment_bytes.specs.Sheets.{Series}
use Rattle.frame_read.proofs.SearchLemmas.{place-sheet}
use Rattle.frame_read.proofs.tile_view.TileView.place.Goals as goal

pub returns : goal.returns
returns c =
    c.place_among.ensures
    ∙ ap (position_from (λ (column : Series). same_text c.args.name.now column.0.0) 0) (c.items.ensures ∙ c.self.invariant)
    ∙ place-sheet c.self.inside.segment c.args.name.now
    ∙ ap (λ (f : Frame). place_of c.args.name.now f.schema.columns) c.self.view_is
