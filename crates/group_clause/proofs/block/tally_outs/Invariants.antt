use Rattle.std.proofs.Common.{take, length}
use Rattle.std.specs.List.{AllZip}
use Rattle.group_clause.specs.Blocks.{TalliedBy, column_of}
use Rattle.group_clause.proofs.block.tally_outs.Given as goal

-- the columns so far are tallied
abbrev pub invariant-loop-out : goal.invariant-loop-out
invariant-loop-out l =
    AllZip (λ o c. TalliedBy (length l.numbering.keys.keys) l.numbering.numbers.items (column_of l.rows.schema.columns l.rows.rows o.of) c.items) (take l.out-index l.outs) l.columns.items
