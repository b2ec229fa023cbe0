-- How large a frame may be.
--     too_large, frame_too_large      the first limit that is exceeded, with its number
--     IsStorable                      timed and within the limits: what is written, staged and stands in a change
--     concat                          the rows of both frames, or the first refusal
use Rattle.std.specs.Prelude.{◌≡◌, ℕ, ◌*◌, max, true, if◌then◌else◌, List, ◌++◌, map, length, Option, Some, None, Result, Ok, Err, sum_by, fold, nat_lt}
use Rattle.frame_core.specs.declared.cell.Cell.{Cell}
use Rattle.frame_core.specs.declared.cell.Cell.TheVariants as cells
use Rattle.frame_core.specs.declared.refusal.Extent.{Extent}
use Rattle.frame_core.specs.declared.refusal.Extent.TheVariants as extents
use Rattle.frame_core.specs.declared.refusal.Refusal.{Refusal}
use Rattle.frame_core.specs.declared.refusal.Refusal.TheVariants as refusals
use Rattle.frame_core.specs.Schemas.{schemas_differ}
use Rattle.frame_core.specs.Frames.{Row, Frame, IsFrame}

-- how many bytes of text a cell has
abbrev pub text_bytes : Cell → ℕ
text_bytes (cells.Text t) = length t
text_bytes _ = 0

-- the bytes of text of these cells, and of the longest text among them
abbrev pub all_text_bytes : List Cell → ℕ
all_text_bytes = sum_by text_bytes

-- the bytes of the longest text among these cells
abbrev pub longest_text : List Cell → ℕ
longest_text cs = fold max 0 (map text_bytes cs)

-- the first limit that so many rows and columns, or these texts, exceed, with its number
abbrev pub too_large : ℕ → ℕ → ℕ → ℕ → Option (Extent × ℕ)
too_large rows columns one_text all_texts =
    if nat_lt 2000000 rows then Some (extents.Rows, 2000000)
    else if nat_lt 4096 columns then Some (extents.Columns, 4096)
    else if nat_lt 8000000 (rows * columns) then Some (extents.Cells, 8000000)
    else if nat_lt 65535 one_text then Some (extents.OneText, 65535)
    else if nat_lt 67108864 all_texts then Some (extents.TextBytes, 67108864)
    else None

-- the first limit that a frame exceeds
abbrev pub frame_too_large : Frame → Option (Extent × ℕ)
frame_too_large f =
    too_large (length f.rows) (length f.schema.columns)
    (fold max 0 (map (λ (r : Row). longest_text r.cells) f.rows)) (sum_by (λ (r : Row). all_text_bytes r.cells) f.rows)

-- timed and within the limits
pub record IsStorable (frame : Frame) : Type 0 where
  pub is_frame : IsFrame frame
  pub timed : frame.schema.timed ≡ true
  pub within : frame_too_large frame ≡ None

-- the refusal of an exceeded limit
abbrev pub refuse_large : Extent × ℕ → Refusal
refuse_large x = refusals.TooLarge x.0 x.1

-- the frame, unless a limit is exceeded
abbrev pub if_within_limits : Frame → Result Frame Refusal
if_within_limits f = elim (frame_too_large f) [ Some x ↦ Err (refuse_large x) | None ↦ Ok f ]

-- the rows of both frames: refused where the schemas differ, or where a limit is exceeded
abbrev pub concat : Frame → Frame → Result Frame Refusal
concat a b = elim (schemas_differ a.schema b.schema) [
  | Some column ↦ Err (refusals.SchemaDiffers column)
  | None ↦ if_within_limits (record a { rows = a.rows ++ b.rows })
]
