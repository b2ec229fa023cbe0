use Rattle.std.proofs.Common.{◌≡◌, ◌++◌, map, drop}
use Rattle.group_clause.specs.Blocks.{numbered_groups}
use Rattle.group_clause.proofs.block.groups_by_number.Given as goal

-- the groups so far, and those of the other keys
abbrev pub invariant-loop-number : goal.invariant-loop-number
invariant-loop-number l = l.groups.items ++ numbered_groups l.number (drop l.number l.keys) (map (λ c. c.items) l.columns) ≡ numbered_groups 0 l.keys (map (λ c. c.items) l.columns)
