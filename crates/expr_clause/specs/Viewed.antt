-- A row of a viewed segment.
--     row_cells           the cells of the row at a place
use Rattle.std.specs.Prelude.{ℕ, List, [], slice_get, option_map, unwrap_or}
use Rattle.frame_core.specs.declared.cell.Cell.{Cell}
use Rattle.frame_core.specs.Frames.{Row, Frame}

-- the cells of the row at a place, counted from 0
abbrev pub row_cells : Frame → ℕ → List Cell
row_cells f row = unwrap_or (option_map (λ (r : Row). r.cells) (slice_get f.rows row)) []
