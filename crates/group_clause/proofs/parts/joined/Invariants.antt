use Rattle.std.proofs.Common.{◌≡◌, ◌^◌, ◌+◌, ◌++◌, length}
use Rattle.std.specs.List.{AllByRecursion}
use Rattle.group_clause.specs.Tallies.{join_lists}
use Rattle.group_clause.specs.Partials.{join_tallies}
use Rattle.group_clause.specs.Keeping.{IsTally}
use Rattle.group_clause.proofs.parts.joined.Given as goal

-- the tallies so far, and what is left of both
abbrev pub invariant-loop-tally : goal.invariant-loop-tally
invariant-loop-tally l = record {
  so_far : l.joined.items ++ join_lists join_tallies l.mine.items l.more.items ≡ join_lists join_tallies l.fn.mine.items l.fn.more.items;
  mine : AllByRecursion (IsTally (2 ^ 62)) l.mine.items;
  more : AllByRecursion (IsTally (2 ^ 62)) l.more.items;
}

abbrev pub decreases-loop-tally : goal.decreases-loop-tally
decreases-loop-tally l = length l.mine.items + length l.more.items
