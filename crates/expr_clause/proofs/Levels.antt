-- A function on expressions, at each operator.
use Rattle.std.proofs.Common.{◌≡◌, refl}
use Rattle.std.specs.Prelude.{ℕ, ℤ, Bool, List}
use Rattle.expr_clause.specs.declared.expr.Literal.{Literal}
use Rattle.expr_clause.specs.declared.expr.UnOp.{UnOp}
use Rattle.expr_clause.specs.declared.expr.BinOp.{BinOp}
use Rattle.expr_clause.specs.declared.expr.Expr.{Expr}
use Rattle.expr_clause.specs.declared.expr.Expr.TheVariants as exprs
use Rattle.expr_clause.specs.declared.expr.Expr.TheOpen.{Expr-F}
use Rattle.expr_clause.specs.Exprs.{by_levels}

module _ {A : Type 0} (f : Expr-F A → A) where
  pub at_int : (n : ℤ) → by_levels f (exprs.Int n) ≡ f (Expr-F.Int n)
  unfolding by_levels
  at_int n = refl

  pub at_flag : (b : Bool) → by_levels f (exprs.Flag b) ≡ f (Expr-F.Flag b)
  unfolding by_levels
  at_flag b = refl

  pub at_text : (t : List ℕ) → by_levels f (exprs.Text t) ≡ f (Expr-F.Text t)
  unfolding by_levels
  at_text t = refl

  pub at_moment : (t : ℤ) → by_levels f (exprs.Moment t) ≡ f (Expr-F.Moment t)
  unfolding by_levels
  at_moment t = refl

  pub at_col : (name : List ℕ) → by_levels f (exprs.Col name) ≡ f (Expr-F.Col name)
  unfolding by_levels
  at_col name = refl

  pub at_unary : (op : UnOp) (a : Expr) → by_levels f (exprs.Unary op a) ≡ f (Expr-F.Unary op (by_levels f a))
  unfolding by_levels Rattle.expr_clause.specs.declared.expr.Expr.TheBlock.hidden-the_row-Expr-0 denote.Hole.Carrier.hidden
  at_unary op a = refl

  pub at_binary : (op : BinOp) (a b : Expr) → by_levels f (exprs.Binary op a b) ≡ f (Expr-F.Binary op (by_levels f a) (by_levels f b))
  unfolding by_levels Rattle.expr_clause.specs.declared.expr.Expr.TheBlock.hidden-the_row-Expr-0 denote.Hole.Carrier.hidden
  at_binary op a b = refl

  pub at_among : (a : Expr) (list : List Literal) (negated : Bool) → by_levels f (exprs.Among a list negated) ≡ f (Expr-F.Among (by_levels f a) list negated)
  unfolding by_levels Rattle.expr_clause.specs.declared.expr.Expr.TheBlock.hidden-the_row-Expr-0 denote.Hole.Carrier.hidden
  at_among a list negated = refl
