use Rattle.std.proofs.Common.{◌≡◌, ◌++◌, map, drop, ap, sym, ◌∙◌, subst, rules}
use Rattle.std.specs.Prelude.{Some, OnOk}
use Rattle.frame_core.specs.Frames.{cell_of}
use Rattle.expr_clause.specs.Exprs.{columns_of, level_columns, value, among_value}
use Rattle.expr_clause.specs.Cells.{answered}
use Rattle.expr_clause.proofs.Levels.{at_int, at_flag, at_text, at_moment, at_col}
use Rattle.expr_clause.proofs.Values.{value_unary, value_binary, value_binary_none, value_among}
use Rattle.expr_clause.proofs.NamedCells.{whenever, named, none_named, one_named, unary_named, binary_named, among_named}
use Rattle.expr_clause.proofs.operands.+value_from.Goals as goal

pub returns-in-Int : goal.returns-in-Int
returns-in-Int t c = λ columns row more given. (search (rules, at_int), none_named columns row _ more c.args.expr.now given (ap columns_of c.in-Int.is ∙ at_int level_columns _))

pub returns-in-Flag : goal.returns-in-Flag
returns-in-Flag t c = λ columns row more given. (search (rules, at_flag), none_named columns row _ more c.args.expr.now given (ap columns_of c.in-Flag.is ∙ at_flag level_columns _))

pub returns-in-Text : goal.returns-in-Text
returns-in-Text t c = λ columns row more given. (search (rules, at_text), none_named columns row _ more c.args.expr.now given (ap columns_of c.in-Text.is ∙ at_text level_columns _))

pub returns-in-Moment : goal.returns-in-Moment
returns-in-Moment t c = λ columns row more given. (search (rules, at_moment), none_named columns row _ more c.args.expr.now given (ap columns_of c.in-Moment.is ∙ at_moment level_columns _))

pub returns-in-Col : goal.returns-in-Col
returns-in-Col t c = λ columns row more given.
    let next = c.taken.ensures _ more (one_named columns row _ more c.args.expr.now given c.in-Col.field-0 (ap columns_of c.in-Col.is ∙ at_col level_columns c.in-Col.field-0)) in
    (ap Some next.0 ∙ sym (ap (value columns row) c.in-Col.is ∙ at_col _ c.in-Col.field-0), next.1)

pub returns-in-Ok : goal.returns-in-Ok
returns-in-Ok t c = λ columns row more given.
    let arg = unary_named columns row _ more c.args.expr.now given c.in-Unary.op c.in-Unary.arg c.in-Unary.is ∙ ap (λ e. named columns row e ++ more) (sym c.get.ensures) in
    let part = c.value_from.ensures columns row more arg in
    let there = ap (value columns row) (sym c.get.ensures) ∙ sym part.0 ∙ ap answered c.in-Ok.is in (
      c.unary.ensures ∙ sym (ap (value columns row) c.in-Unary.is ∙ value_unary columns row c.in-Unary.op c.in-Unary.arg (Some (cell_of c.in-Ok.x)) there),
      whenever c.unary.result (subst (λ r. OnOk r (map cell_of (drop c.value_from.new.next c.args.cells.now) ≡ more)) c.in-Ok.is part.1),
    )

pub returns-in-Err : goal.returns-in-Err
returns-in-Err t c = λ columns row more given.
    let arg = unary_named columns row _ more c.args.expr.now given c.in-Unary.op c.in-Unary.arg c.in-Unary.is ∙ ap (λ e. named columns row e ++ more) (sym c.get.ensures) in
    let there = ap (value columns row) (sym c.get.ensures) ∙ sym (c.value_from.ensures columns row more arg).0 ∙ ap answered c.in-Err.is in
    (sym (ap (value columns row) c.in-Unary.is ∙ value_unary columns row c.in-Unary.op c.in-Unary.arg _ there), tt)

pub returns-in-Ok-value_from-2 : goal.returns-in-Ok-value_from-2
returns-in-Ok-value_from-2 t c = λ columns row more given.
    let first = binary_named columns row _ more c.args.expr.now given c.in-Binary.op c.in-Binary.left c.in-Binary.right c.in-Binary.is ∙ ap (λ e. named columns row e ++ (named columns row c.in-Binary.right ++ more)) (sym c.get-in-Binary.ensures) in
    let left = c.value_from-in-Binary.ensures columns row (named columns row c.in-Binary.right ++ more) first in
    let then = subst (λ r. OnOk r (map cell_of (drop c.value_from-in-Binary.new.next c.args.cells.now) ≡ named columns row c.in-Binary.right ++ more)) c.in-Ok-value_from.is left.1 in
    let right = c.value_from-in-Ok-value_from.ensures columns row more (then ∙ ap (λ e. named columns row e ++ more) (sym c.get-in-Ok-value_from.ensures)) in
    let a = ap (value columns row) (sym c.get-in-Binary.ensures) ∙ sym left.0 ∙ ap answered c.in-Ok-value_from.is in
    let b = ap (value columns row) (sym c.get-in-Ok-value_from.ensures) ∙ sym right.0 ∙ ap answered c.in-Ok-value_from-2.is in (
      c.binary.ensures ∙ sym (ap (value columns row) c.in-Binary.is ∙ value_binary columns row c.in-Binary.op c.in-Binary.left c.in-Binary.right (Some (cell_of c.in-Ok-value_from.x)) (Some (cell_of c.in-Ok-value_from-2.y)) a b),
      whenever c.binary.result (subst (λ r. OnOk r (map cell_of (drop c.value_from-in-Ok-value_from.new.next c.args.cells.now) ≡ more)) c.in-Ok-value_from-2.is right.1),
    )

pub returns-in-Err-value_from-2 : goal.returns-in-Err-value_from-2
returns-in-Err-value_from-2 t c = λ columns row more given.
    let first = binary_named columns row _ more c.args.expr.now given c.in-Binary.op c.in-Binary.left c.in-Binary.right c.in-Binary.is ∙ ap (λ e. named columns row e ++ (named columns row c.in-Binary.right ++ more)) (sym c.get-in-Binary.ensures) in
    let left = c.value_from-in-Binary.ensures columns row (named columns row c.in-Binary.right ++ more) first in
    let then = subst (λ r. OnOk r (map cell_of (drop c.value_from-in-Binary.new.next c.args.cells.now) ≡ named columns row c.in-Binary.right ++ more)) c.in-Ok-value_from.is left.1 in
    let right = c.value_from-in-Ok-value_from.ensures columns row more (then ∙ ap (λ e. named columns row e ++ more) (sym c.get-in-Ok-value_from.ensures)) in
    let a = ap (value columns row) (sym c.get-in-Binary.ensures) ∙ sym left.0 ∙ ap answered c.in-Ok-value_from.is in
    let b = ap (value columns row) (sym c.get-in-Ok-value_from.ensures) ∙ sym right.0 ∙ ap answered c.in-Err-value_from-2.is in
    (sym (ap (value columns row) c.in-Binary.is ∙ value_binary columns row c.in-Binary.op c.in-Binary.left c.in-Binary.right (Some (cell_of c.in-Ok-value_from.x)) _ a b), tt)

pub returns-in-Err-value_from : goal.returns-in-Err-value_from
returns-in-Err-value_from t c = λ columns row more given.
    let first = binary_named columns row _ more c.args.expr.now given c.in-Binary.op c.in-Binary.left c.in-Binary.right c.in-Binary.is ∙ ap (λ e. named columns row e ++ (named columns row c.in-Binary.right ++ more)) (sym c.get-in-Binary.ensures) in
    let left = ap (value columns row) (sym c.get-in-Binary.ensures) ∙ sym (c.value_from-in-Binary.ensures columns row (named columns row c.in-Binary.right ++ more) first).0 ∙ ap answered c.in-Err-value_from.is in
    (sym (ap (value columns row) c.in-Binary.is ∙ value_binary_none columns row c.in-Binary.op c.in-Binary.left c.in-Binary.right left), tt)

pub returns-in-Ok-value_from-3 : goal.returns-in-Ok-value_from-3
returns-in-Ok-value_from-3 t c = λ columns row more given.
    let arg = among_named columns row _ more c.args.expr.now given c.in-Among.arg c.in-Among.list c.in-Among.negated c.in-Among.is ∙ ap (λ e. named columns row e ++ more) (sym c.get-in-Among.ensures) in
    let part = c.value_from-in-Among.ensures columns row more arg in
    let there = ap (value columns row) (sym c.get-in-Among.ensures) ∙ sym part.0 ∙ ap answered c.in-Ok-value_from-3.is in (
      c.among.ensures ∙ ap (λ list. among_value list c.in-Among.negated (cell_of c.in-Ok-value_from-3.x)) c.items.ensures
          ∙ sym (ap (value columns row) c.in-Among.is ∙ value_among columns row c.in-Among.arg c.in-Among.list c.in-Among.negated (Some (cell_of c.in-Ok-value_from-3.x)) there),
      whenever c.among.result (subst (λ r. OnOk r (map cell_of (drop c.value_from-in-Among.new.next c.args.cells.now) ≡ more)) c.in-Ok-value_from-3.is part.1),
    )

pub returns-in-Err-value_from-3 : goal.returns-in-Err-value_from-3
returns-in-Err-value_from-3 t c = λ columns row more given.
    let arg = among_named columns row _ more c.args.expr.now given c.in-Among.arg c.in-Among.list c.in-Among.negated c.in-Among.is ∙ ap (λ e. named columns row e ++ more) (sym c.get-in-Among.ensures) in
    let there = ap (value columns row) (sym c.get-in-Among.ensures) ∙ sym (c.value_from-in-Among.ensures columns row more arg).0 ∙ ap answered c.in-Err-value_from-3.is in
    (sym (ap (value columns row) c.in-Among.is ∙ value_among columns row c.in-Among.arg c.in-Among.list c.in-Among.negated _ there), tt)
