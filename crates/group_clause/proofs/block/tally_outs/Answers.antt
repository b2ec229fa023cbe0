use Rattle.std.proofs.Common.{rules, subst, sym, ◌≡◌, ◌+◌, ◌++◌, ◌∷◌, [], length, take}
use Rattle.frame_core.specs.Columns.{column_cells}
use Rattle.expr_clause.specs.declared.clause.Out.{Out}
use Rattle.std.specs.List.{AllZip}
use Rattle.group_clause.specs.Blocks.{TalliedBy, column_of}
use Rattle.group_clause.proofs.BlockLemmas.{zip_more}
use Rattle.group_clause.proofs.block.tally_outs.Goals as goal

pub loop-out-preserved : goal.loop-out-preserved
loop-out-preserved c =
    let numbers = c.args.numbering.now.numbers.items in
    let count = length c.args.numbering.now.keys.keys in
    let heads = c.args.rows.now.schema.columns in
    let pushed : c.push.new.self.items ≡ c.loop-out.columns.items ++ c.in_ok-tally_column.field-0 ∷ [] = search rules in
    let tallied : TalliedBy count numbers (column_of heads c.args.rows.now.rows c.out-item.result.of) c.in_ok-tally_column.field-0.items =
    subst (λ l. TalliedBy count numbers l c.in_ok-tally_column.field-0.items) c.column_named-column.ensures.cells (subst (λ n. TalliedBy n numbers (column_cells c.column_named-column.result.now) c.in_ok-tally_column.field-0.items) c.len-count.ensures.len (search (rules, c.in_ok-tally_column.ensures))) in
    subst (λ l. AllZip (λ (o : Out) v. TalliedBy count numbers (column_of heads c.args.rows.now.rows o.of) v.items) (take (c.loop-out.out-index + 1) c.args.outs.now) l) (sym pushed)
    (zip_more (λ (o : Out) v. TalliedBy count numbers (column_of heads c.args.rows.now.rows o.of) v.items) c.args.outs.now c.loop-out.columns.items c.loop-out.out-index c.out-item.result c.in_ok-tally_column.field-0
    c.loop-out-test.true c.out-item.is c.loop-out.invariant tallied)
