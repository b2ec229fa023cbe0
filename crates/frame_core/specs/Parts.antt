-- Parts of a frame.
--     has_column          the part has the column
use Rattle.std.specs.Prelude.{ℕ, ◌+◌, Bool, ◌&&◌, nat_le, nat_lt}
use Rattle.frame_core.specs.declared.part.Part.{Part}

-- the part has the column, counted from 0
abbrev pub has_column : Part → ℕ → Bool
has_column part column = nat_le part.first_col column && nat_lt column (part.first_col + part.cols)
