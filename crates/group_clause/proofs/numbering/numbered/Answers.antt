use Rattle.std.proofs.Common.{rules, subst, sym, ◌≡◌, ◌+◌, ◌++◌, ◌∷◌, [], take}
use Rattle.frame_core.specs.Columns.{column_cells}
use Rattle.frame_core.specs.Frames.{cell_of}
use Rattle.group_clause.specs.Blocks.{IsNumbering}
use Rattle.group_clause.proofs.DistinctKeys.{numbering_more}
use Rattle.group_clause.proofs.numbering.numbered.Goals as goal

pub loop-row-preserved : goal.loop-row-preserved
loop-row-preserved c =
    let pushed : c.push.new.self.items ≡ c.loop-row.numbers.items ++ c.in_ok-number.number ∷ [] = search rules in
    subst (λ l. IsNumbering l c.insert_full.new.self.keys (take (c.loop-row.row + 1) (column_cells c.args.column.now))) (sym pushed)
    (numbering_more c.loop-row.numbers.items c.loop-row.keys.keys c.insert_full.new.self.keys (column_cells c.args.column.now) c.loop-row.row c.in_ok-number.number (cell_of c.cell-cell.result)
    c.loop-row.invariant c.cell-cell.ensures c.in_ok-number.ensures.keys c.in_ok-number.ensures.stored c.insert_full.ensures.unique)
