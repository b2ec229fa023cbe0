-- What a read with clauses gives.
--     GivesQuery          it is what the query gives of the frame that the tiles are of
use Rattle.std.specs.Prelude.{List, Option, Result}
use Rattle.frame_core.specs.declared.refusal.Refusal.{Refusal}
use Rattle.frame_core.specs.Texts.{Text}
use Rattle.frame_core.specs.Frames.{Frame, IsFrame}
use Rattle.frame_core.specs.Refusals.{Answers}
use Rattle.expr_clause.specs.declared.clause.Clause.{Clause}
use Rattle.expr_clause.specs.Asking.{query}
use Rattle.frame_read.specs.declared.tiles.Tiles.{Tiles}
use Rattle.frame_read.specs.Wholes.{AreTilesOf}

-- whatever frame the tiles have what is asked of, the answer is that of the whole query, or want of memory
abbrev pub GivesQuery : Tiles → List Clause → Result Frame Refusal → Type 0
GivesQuery tiles list result = (f : Frame) (columns : Option (List Text)) → IsFrame f → AreTilesOf f tiles.range columns tiles → Answers result (query f tiles.range columns list)
