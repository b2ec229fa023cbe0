use Rattle.std.proofs.Common.{◌≡◌, ◌++◌, take}
use Rattle.expr_clause.proofs.typing.add_columns.Given as goal

-- the columns so far were added
abbrev pub invariant-loop-name : goal.invariant-loop-name
invariant-loop-name l = l.given ≡ record l.initial.given { columns = l.initial.given.columns ++ take l.name-index l.columns }
