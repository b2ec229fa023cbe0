use Rattle.std.proofs.Common.{◌≡◌, ◌+◌, drop}
use Rattle.frame_core.specs.Schemas.{differs_from}
use Rattle.append_update.proofs.judging.differing_column.Given as goal

-- the columns that are left differ where all do
abbrev pub invariant-loop-place : goal.invariant-loop-place
invariant-loop-place l = differs_from (l.place + 1) (drop l.place l.first) (drop l.place l.other) ≡ differs_from 1 l.first l.other
