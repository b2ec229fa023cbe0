use Rattle.std.proofs.Common.{◌≡◌, ◌++◌, map, take}
use Rattle.expr_clause.specs.declared.clause.Out.{Out}
use Rattle.expr_clause.proofs.naming.add_outs.Given as goal

-- the columns of the outputs so far were added
abbrev pub invariant-loop-out : goal.invariant-loop-out
invariant-loop-out l = l.names ≡ l.initial.names ++ map (λ (o : Out). o.of) (take l.out-index l.outs)
