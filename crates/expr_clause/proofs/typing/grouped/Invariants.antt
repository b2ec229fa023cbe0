use Rattle.std.proofs.Common.{◌≡◌, false, drop}
use Rattle.expr_clause.specs.Typing.{group_columns, with_outs}
use Rattle.expr_clause.proofs.typing.grouped.Given as goal

-- the outputs that are left make of the columns so far what all make
abbrev pub invariant-loop-out : goal.invariant-loop-out
invariant-loop-out l = (l.given.timed ≡ false) × (with_outs l.columns l.given.columns (drop l.out-index l.outs) ≡ group_columns l.columns l.key l.outs)
