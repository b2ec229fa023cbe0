-- The pieces of an append and of an update.
--     fresh               a piece of new rows, if there are any
--     appended, replaced  the base's slots with a frame behind them, and with a frame in place of the rows in a range
--     AreEdges, left_rows      what is left of the row blocks that a range cuts; how many rows those are
--     Replaces            the index of a frame, where a range divides its slots, and the edges
use Rattle.std.specs.Prelude.{◌≡◌, ℕ, List, [], ◌∷◌, ◌++◌, take, drop, slice_range, length, Option, Some, None}
use Rattle.frame_core.specs.Ranges.{Range}
use Rattle.frame_core.specs.Frames.{Row, Frame, rows_below, rows_above}
use Rattle.index_tree.specs.declared.index.Slot.{Slot}
use Rattle.index_tree.specs.declared.index.Index.{Index}
use Rattle.append_update.specs.declared.cuts.Cuts.{Cuts}
use Rattle.append_update.specs.declared.pieces.Edges.{Edges}
use Rattle.frame_write.specs.declared.pieces.Piece.{Piece}
use Rattle.frame_write.specs.declared.pieces.Piece.TheVariants as pieces
use Rattle.append_update.specs.Bases.{IsIndexOf, Divides, rows_of_slots}

-- a piece of these rows, if there are any
abbrev pub fresh : Option Frame → List Piece
fresh None = []
fresh (Some frame) = pieces.Fresh frame ∷ []

-- all slots of the base, and behind them the frame
abbrev pub appended : List Slot → Frame → List Piece
appended slots frame = pieces.Shared slots ∷ pieces.Fresh frame ∷ []

-- the slots below the range and what is left of the block cut there, the frame, what is left of the block cut at the end, and the slots above the range
abbrev pub replaced : List Slot → Cuts → Edges → Frame → List Piece
replaced slots cuts edges frame =
    pieces.Shared (take cuts.below slots) ∷ fresh edges.below ++ (pieces.Fresh frame ∷ fresh edges.above ++ (pieces.Shared (drop cuts.reached slots) ∷ []))

-- a frame of these rows of the base, or none where there are no rows
abbrev pub IsLeft : Frame → List Row → Option Frame → Type 0
IsLeft base rows None = rows ≡ []
IsLeft base rows (Some frame) = frame ≡ record base { rows = rows }

-- the rows below the range in the row block that begins below it and does not end there, and those above it in the one that ends above it and does not begin there
pub record AreEdges (base : Frame) (range : Range) (slots : List Slot) (cuts : Cuts) (edges : Edges) : Type 0 where
  pub below : IsLeft base (rows_below range (rows_of_slots base (slice_range slots cuts.below cuts.begun))) edges.below
  pub above : IsLeft base (rows_above range (rows_of_slots base (slice_range slots cuts.ended cuts.reached))) edges.above

-- how many rows are left
abbrev pub left_rows : Option Frame → ℕ
left_rows None = 0
left_rows (Some frame) = length frame.rows

-- the index is the frame's, and the range cuts its slots so
pub record Replaces (base : Frame) (range : Range) (index : Index) (cuts : Cuts) (edges : Edges) : Type 0 where
  pub index_of : IsIndexOf base index
  pub divides : Divides range index.slots cuts
  pub are : AreEdges base range index.slots cuts edges
