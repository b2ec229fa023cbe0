use Rattle.std.proofs.Common.{rules}
use Rattle.group_clause.proofs.PartLemmas.{taken_alone}
use Rattle.group_clause.proofs.parts.next_tally.Goals as goal

pub returns-in-Some-None-clause-next : goal.returns-in-Some-None-clause-next
returns-in-Some-None-clause-next c =
    taken_alone _ _ _ _ _ c.in-Some-None.ensures.items (search rules) (search rules)
