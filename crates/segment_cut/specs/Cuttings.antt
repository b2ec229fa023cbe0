-- How large tiles are cut.
--     Cutting, IsCutting      how many rows and columns a tile has at most; the limits of both
use Rattle.std.specs.Prelude.{ℕ, ◌≤◌}

-- the rows and columns of a full tile
pub record Cutting : Type 0 where
  pub rows : ℕ
  pub cols : ℕ

-- a tile has 1 to 100,000 rows and 1 to 127 columns
pub record IsCutting (cutting : Cutting) : Type 0 where
  pub some_rows : 1 ≤ cutting.rows
  pub most_rows : cutting.rows ≤ 100000
  pub some_cols : 1 ≤ cutting.cols
  pub most_cols : cutting.cols ≤ 127
