-- A frame that is too large.
--     IsTooLarge      it is refused for its size, at a place
--     TellsMany       a flag that tells whether all texts have too many bytes
--     IsJudged        it is refused so, or is not too large
use Rattle.std.specs.Prelude.{◌≡◌, ◌↔◌, ◌<◌, ◌+◌, ℕ, Bool, Some, None, Result, Ok, Err, IsTrue}
use Rattle.frame_core.specs.declared.refusal.Extent.{Extent}
use Rattle.frame_core.specs.declared.refusal.Refused.{Refused}
use Rattle.frame_core.specs.Ranges.{Range}
use Rattle.frame_core.specs.Frames.{Frame}
use Rattle.frame_core.specs.Limits.{frame_too_large, refuse_large}
use Rattle.append_update.specs.declared.pieces.Edges.{Edges}
use Rattle.append_update.specs.Sizes.{text_total, kept_rows}

-- the frame is too large, at this place
pub record IsTooLarge (place : ℕ) (frame : Frame) (refused : Refused) : Type 0 where
  pub place_is : refused.place ≡ place
  pub what : Extent × ℕ
  pub large : frame_too_large frame ≡ Some what
  pub why_is : refuse_large what ≡ refused.why

-- the texts of a base's rows outside a range and of a frame have too many bytes where the flag is set
abbrev pub TellsMany : Frame → Range → Frame → Bool → Type 0
TellsMany base range frame many = IsTrue many ↔ (67108864 < text_total (kept_rows (Some range) base.rows) + text_total frame.rows)

-- the frame is not too large, or is refused at this place
abbrev pub IsJudged : ℕ → Frame → Result Edges Refused → Type 0
IsJudged place frame (Ok edges) = frame_too_large frame ≡ None
IsJudged place frame (Err refused) = IsTooLarge place frame refused
