use Rattle.std.proofs.Common.{ap, ap₂, sym, ◌∙◌}
use Rattle.expr_clause.specs.Exprs.{expr_type, level_type, binary_type, among_type}
use Rattle.expr_clause.proofs.Levels.{at_binary, at_among}
use Rattle.expr_clause.proofs.kinds.+type_of_expr.Goals as goal

pub returns-in-Binary : goal.returns-in-Binary
returns-in-Binary t c =
    let columns = c.args.columns.now in
    let left = c.type_of_expr-left.ensures ∙ ap (expr_type columns) c.get-in-Binary.ensures in
    let right = c.type_of_expr-right.ensures ∙ ap (expr_type columns) c.get-in-Binary-2.ensures in
    c.binary_kind.ensures ∙ ap₂ (binary_type c.in-Binary.op) left right
    ∙ sym (ap (expr_type columns) c.in-Binary.is ∙ at_binary (level_type columns) c.in-Binary.op c.in-Binary.left c.in-Binary.right)

pub returns-in-Among : goal.returns-in-Among
returns-in-Among t c =
    let columns = c.args.columns.now in
    let arg = c.type_of_expr-in-Among.ensures ∙ ap (expr_type columns) c.get-in-Among.ensures in
    c.among_kind.ensures ∙ ap₂ among_type arg c.items.ensures
    ∙ sym (ap (expr_type columns) c.in-Among.is ∙ at_among (level_type columns) c.in-Among.arg c.in-Among.list c.in-Among.negated)
