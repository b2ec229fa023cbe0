use Rattle.std.proofs.Common.{◌≡◌, ◌++◌, not, length}
use Rattle.std.specs.Prelude.{filter, reverse}
use Rattle.prune_rule.specs.DeadKeys.{keeps_in}
use Rattle.prune_rule.proofs.parting.part_rows.Given as goal

-- the rows so far, and behind them those that are left
abbrev pub invariant-loop-row : goal.invariant-loop-row
invariant-loop-row l = record {
  kept : l.rows.kept ++ filter (keeps_in l.buried l.held) (reverse l.rest.items) ≡ filter (keeps_in l.buried l.held) (reverse l.fn.links);
  dead : l.rows.dead ++ filter (λ row. not (keeps_in l.buried l.held row)) (reverse l.rest.items) ≡ filter (λ row. not (keeps_in l.buried l.held row)) (reverse l.fn.links);
}

abbrev pub decreases-loop-row : goal.decreases-loop-row
decreases-loop-row l = length l.rest.items
