-- The value of an expression, from the values of its parts.
use Rattle.std.proofs.Common.{◌≡◌, refl, ap, ap₂, ◌∙◌}
use Rattle.std.specs.Prelude.{Bool, List, Option, None, option_and_then}
use Rattle.frame_core.specs.declared.cell.Cell.{Cell}
use Rattle.frame_core.specs.Schemas.{Head}
use Rattle.expr_clause.specs.declared.expr.Literal.{Literal}
use Rattle.expr_clause.specs.declared.expr.UnOp.{UnOp}
use Rattle.expr_clause.specs.declared.expr.BinOp.{BinOp}
use Rattle.expr_clause.specs.declared.expr.Expr.{Expr}
use Rattle.expr_clause.specs.declared.expr.Expr.TheVariants as exprs
use Rattle.expr_clause.specs.Exprs.{value, level_value, unary_value, binary_value, among_value}
use Rattle.expr_clause.proofs.Levels.{at_unary, at_binary, at_among}

module _ (columns : List Head) (row : List Cell) where
  pub value_unary : (op : UnOp) (a : Expr) (x : Option Cell) → value columns row a ≡ x → value columns row (exprs.Unary op a) ≡ option_and_then (unary_value op) x
  value_unary op a x e = at_unary (level_value columns row) op a ∙ ap (option_and_then (unary_value op)) e

  pub value_binary : (op : BinOp) (a b : Expr) (x y : Option Cell) → value columns row a ≡ x → value columns row b ≡ y → value columns row (exprs.Binary op a b) ≡ option_and_then (λ u. option_and_then (binary_value op u) y) x
  value_binary op a b x y e d = at_binary (level_value columns row) op a b ∙ ap₂ (λ u w. option_and_then (λ v. option_and_then (binary_value op v) w) u) e d

  pub value_binary_none : (op : BinOp) (a b : Expr) → value columns row a ≡ None → value columns row (exprs.Binary op a b) ≡ None
  value_binary_none op a b e = value_binary op a b None (value columns row b) e refl

  pub value_among : (a : Expr) (list : List Literal) (negated : Bool) (x : Option Cell) → value columns row a ≡ x → value columns row (exprs.Among a list negated) ≡ option_and_then (among_value list negated) x
  value_among a list negated x e = at_among (level_value columns row) a list negated ∙ ap (option_and_then (among_value list negated)) e
