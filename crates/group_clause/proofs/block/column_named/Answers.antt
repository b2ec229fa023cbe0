use Rattle.std.proofs.Common.{rules, subst, sym, ◌∙◌, ◌≡◌, Some}
use Rattle.std.specs.List.{AllByRecursion}
use Rattle.frame_core.specs.Frames.{IsCell}
use Rattle.frame_core.specs.Selecting.{place_of}
use Rattle.expr_clause.proofs.ViewLemmas.{place_within}
use Rattle.group_clause.proofs.BlockLemmas.{named_cells, named_fit}
use Rattle.group_clause.proofs.block.column_named.Goals as goal

pub column-requires : goal.column-requires
column-requires c =
    let found : place_of c.args.name.now c.args.rows.now.schema.columns ≡ Some c.in-Some.place = search rules in
    place_within c.args.name.now c.args.rows.now.schema.columns c.in-Some.place found

pub returns-clause-cells : goal.returns-clause-cells
returns-clause-cells c =
    let found : place_of c.args.name.now c.args.rows.now.schema.columns ≡ Some c.in-Some.place = search rules in
    c.column.ensures.cells
    ∙ named_cells c.args.rows.now.schema.columns c.args.name.now c.in-Some.place c.args.rows.now.rows found (place_within c.args.name.now c.args.rows.now.schema.columns c.in-Some.place found) c.schema.ensures.frame.fitting

pub returns-clause-fits : goal.returns-clause-fits
returns-clause-fits c =
    let found : place_of c.args.name.now c.args.rows.now.schema.columns ≡ Some c.in-Some.place = search rules in
    let within = place_within c.args.name.now c.args.rows.now.schema.columns c.in-Some.place found in
    subst (AllByRecursion IsCell) (sym (c.column.ensures.cells ∙ named_cells c.args.rows.now.schema.columns c.args.name.now c.in-Some.place c.args.rows.now.rows found within c.schema.ensures.frame.fitting))
    (named_fit c.args.rows.now.schema.columns c.args.name.now c.in-Some.place c.args.rows.now.rows found within c.schema.ensures.frame.fitting)
