use Rattle.group_clause.proofs.RowLemmas.{aggs_of}
use Rattle.group_clause.proofs.MadeRows.{Made}
use Rattle.group_clause.proofs.rows.push_groups.Given as goal

-- the rows of the groups so far
abbrev pub invariant-loop-place : goal.invariant-loop-place
invariant-loop-place l = Made l.fn.maker.schema (aggs_of l.outs) l.groups l.place l.maker
