use Rattle.std.proofs.Common.{◌≡◌, ◌+◌, ◌++◌, length}
use Rattle.group_clause.specs.Tallies.{merge}
use Rattle.group_clause.specs.Partials.{tallies}
use Rattle.group_clause.specs.Keeping.{IsPart}
use Rattle.group_clause.proofs.parts.merged.Given as goal

-- the groups so far, and what is left of both
abbrev pub invariant-loop-more : goal.invariant-loop-more
invariant-loop-more l = record {
  so_far : l.merged.items ++ merge tallies l.mine.items l.more.items ≡ merge tallies l.fn.mine.items l.fn.more.items;
  mine : IsPart l.mine.items;
  more : IsPart l.more.items;
}

abbrev pub decreases-loop-more : goal.decreases-loop-more
decreases-loop-more l = length l.mine.items + length l.more.items
