use Rattle.std.proofs.Common.{rules, sym, subst}
use Rattle.group_clause.specs.Keeping.{IsKeeping}
use Rattle.group_clause.proofs.KeepingLemmas.{keeping_merged}
use Rattle.group_clause.proofs.partial.Partial.merge.Goals as goal

pub invariant_of-self-2 : goal.invariant_of-self-2
invariant_of-self-2 c =
    subst (IsKeeping _) (sym (search rules)) (keeping_merged _ _ c.self.inside.groups.items c.other.inside.groups.items c.self.invariant c.other.invariant (search (rules, c.requires)))
