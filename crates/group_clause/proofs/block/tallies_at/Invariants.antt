use Rattle.std.proofs.Common.{◌≡◌, map, take}
use Rattle.std.specs.Prelude.{slice_index_or}
use Rattle.group_clause.specs.Partials.{no_tally}
use Rattle.group_clause.proofs.block.tallies_at.Given as goal

-- the tallies of the columns so far
abbrev pub invariant-loop-column : goal.invariant-loop-column
invariant-loop-column l = l.tallies.items ≡ map (λ c. slice_index_or c.items l.number no_tally) (take l.column-index l.columns)
