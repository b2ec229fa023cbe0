use Rattle.std.proofs.Common.{◌≡◌, ◌+◌, [], length, map, reverse, take, drop}
use Rattle.frame_core.specs.RawFrames.{bad_column, typed_cells}
use Rattle.frame_core.proofs.making.bad_column.Given as goal

-- the columns that are left make of the names so far what all make of none
abbrev pub invariant-loop-place : goal.invariant-loop-place
invariant-loop-place l = bad_column (l.place + 1) (length l.raw.stamps) (reverse (take l.place l.raw.names)) (drop l.place l.raw.names) (drop l.place (map typed_cells l.raw.columns)) ≡ bad_column 1 (length l.raw.stamps) [] l.raw.names (map typed_cells l.raw.columns)
