use Rattle.std.proofs.Common.{rules, subst, sym, ap, ◌∙◌, ◌≡◌, true, [], ◌∷◌, length}
use Rattle.frame_core.specs.Schemas.{Schema}
use Rattle.group_clause.proofs.RowLemmas.{aggs_of}
use Rattle.group_clause.proofs.MadeRows.{AddsOuts, row_full}
use Rattle.group_clause.proofs.rows.push_group.Goals as goal

pub end_row-requires-clause-full : goal.end_row-requires-clause-full
end_row-requires-clause-full c =
    let done : c.in_ok-push_outs.field-0 ≡ true = search rules in
    let begun : c.cell.new.self.begun ≡ c.args.group.now.0 ∷ [] = search (rules, c.in_ok-cell.ensures.ok, c.requires.whole) in
    let same : c.push_outs.new.maker.schema ≡ c.args.maker.now.schema = search (rules, c.in_ok-cell.ensures.ok) in
    let added : AddsOuts (aggs_of c.args.outs.now) c.args.group.now.1 c.cell.new.self c.push_outs.new.maker true =
    subst (λ ts. AddsOuts (aggs_of c.args.outs.now) ts c.cell.new.self c.push_outs.new.maker true) (search rules)
    (subst (AddsOuts (aggs_of c.args.outs.now) c.deref.result.now c.cell.new.self c.push_outs.new.maker) done c.in_ok-push_outs.ensures.cells) in
    row_full c.args.maker.now.schema.columns (aggs_of c.args.outs.now) c.args.group.now c.cell.new.self c.push_outs.new.maker c.requires.fits begun added ∙ ap (λ (s : Schema). length s.columns) (sym same)
