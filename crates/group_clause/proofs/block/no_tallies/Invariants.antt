use Rattle.std.proofs.Common.{◌≡◌, length}
use Rattle.std.specs.List.{AllByRecursion}
use Rattle.group_clause.specs.Partials.{no_tally}
use Rattle.group_clause.proofs.block.no_tallies.Given as goal

-- so many so far
abbrev pub invariant-loop : goal.invariant-loop
invariant-loop l = record {
  length : length l.tallies.items ≡ l.counter;
  none : AllByRecursion (λ t. t ≡ no_tally) l.tallies.items;
}
