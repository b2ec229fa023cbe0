use Rattle.std.proofs.Common.{◌≡◌, map, take}
use Rattle.frame_read.specs.Versions.{row_counted}
use Rattle.frame_read.proofs.versions.rows_of.Given as goal

-- the rows of the links so far
abbrev pub invariant-loop-row : goal.invariant-loop-row
invariant-loop-row l = l.rows ≡ map (row_counted l.tombs l.holds) (take l.row-index l.links)
