use Rattle.std.proofs.Common.{sym, ◌∙◌}
use Rattle.group_clause.proofs.PartLemmas.{less_taken, greater_taken, equal_taken}
use Rattle.group_clause.proofs.parts.next_group.Goals as goal

pub returns-in-Less-clause-next : goal.returns-in-Less-clause-next
returns-in-Less-clause-next c =
    less_taken _ _ _ _ c.requires.mine c.requires.more (sym c.first_order.ensures ∙ c.in-Less.is) c.pop_front.ensures.items c.pop_front.ensures.rest

pub returns-in-Greater-clause-next : goal.returns-in-Greater-clause-next
returns-in-Greater-clause-next c =
    greater_taken _ _ _ _ c.requires.mine c.requires.more (sym c.first_order.ensures ∙ c.in-Greater.is) c.pop_front-in-Greater.ensures.items c.pop_front-in-Greater.ensures.rest

pub returns-in_ok-group-in-Equal-clause-next : goal.returns-in_ok-group-in-Equal-clause-next
returns-in_ok-group-in-Equal-clause-next c =
    equal_taken _ _ _ _ _ _ _ c.requires.mine c.requires.more (sym c.first_order.ensures ∙ c.in-Equal.is) c.pop_front-in-Equal.ensures.items c.pop_front-in-Equal.ensures.rest
    c.pop_front-in-Equal-2.ensures.items c.pop_front-in-Equal-2.ensures.rest c.in_ok-group-in-Equal.ensures
