use Rattle.std.proofs.Common.{◌≡◌, ◌∙◌, ap, sym}
use Rattle.std.specs.Prelude.{Some, map}
use Rattle.expr_clause.specs.Asking.{line_of}
use Rattle.expr_clause.specs.Typing.{schema_after}
use Rattle.group_clause.specs.Partials.{merge_partials, partial_of}
use Rattle.row_clauses.proofs.GroupLaws.{group_new, partial_holds, finished}
use Rattle.row_clauses.proofs.grouping.run_group.Goals as goal

pub finish-requires-clause-distinct : goal.finish-requires-clause-distinct
finish-requires-clause-distinct c =
    let fits : schema_after c.args.clause.now c.args.frame.now.schema ≡ Some c.in-Some.schema = ap (schema_after c.args.clause.now) (sym c.schema.ensures.schema) ∙ sym c.in_ok-schema.ensures ∙ c.in-Some.is in
    group_new c.args.frame.now.schema c.in-Some.schema c.args.key.now c.args.outs.now (ap (λ x. schema_after x c.args.frame.now.schema) (sym c.requires.is) ∙ fits)

pub finish-requires-clause-fits : goal.finish-requires-clause-fits
finish-requires-clause-fits c =
    let fits : schema_after c.args.clause.now c.args.frame.now.schema ≡ Some c.in-Some.schema = ap (schema_after c.args.clause.now) (sym c.schema.ensures.schema) ∙ sym c.in_ok-schema.ensures ∙ c.in-Some.is in
    partial_holds c.args.frame.now c.args.clause.now c.args.key.now c.args.outs.now c.in-Some.schema c.requires.is fits c.schema.ensures.frame _
    (c.in_ok-add_tile.ensures ∙ ap (λ p. merge_partials p (partial_of (map (line_of c.args.frame.now.schema.columns c.args.key.now c.args.outs.now) c.args.frame.now.rows))) c.make-partial.ensures)

pub returns : goal.returns
returns c =
    let fits : schema_after c.args.clause.now c.args.frame.now.schema ≡ Some c.in-Some.schema = ap (schema_after c.args.clause.now) (sym c.schema.ensures.schema) ∙ sym c.in_ok-schema.ensures ∙ c.in-Some.is in
    finished c.args.frame.now c.args.clause.now c.args.key.now c.args.outs.now c.in-Some.schema c.requires.is fits c.schema.ensures.frame c.args.number _ c.finish.result
    (c.in_ok-add_tile.ensures ∙ ap (λ p. merge_partials p (partial_of (map (line_of c.args.frame.now.schema.columns c.args.key.now c.args.outs.now) c.args.frame.now.rows))) c.make-partial.ensures) c.finish.ensures
