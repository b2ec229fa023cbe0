-- The cells of the columns that an expression names, part by part.
use Rattle.std.proofs.Common.{◌≡◌, refl, sym, ap, ◌∙◌, subst}
use Rattle.std.specs.Prelude.{List, [], ◌∷◌, ◌++◌, map, Result, Ok, Err, OnOk}
use Rattle.frame_core.specs.declared.cell.Cell.{Cell}
use Rattle.frame_core.specs.Texts.{Text}
use Rattle.frame_core.specs.Schemas.{Head}
use Rattle.expr_clause.specs.declared.expr.Literal.{Literal}
use Rattle.expr_clause.specs.declared.expr.UnOp.{UnOp}
use Rattle.expr_clause.specs.declared.expr.BinOp.{BinOp}
use Rattle.expr_clause.specs.declared.expr.Expr.{Expr}
use Rattle.expr_clause.specs.declared.expr.Expr.TheVariants as exprs
use Rattle.expr_clause.specs.Exprs.{level_columns, columns_of, cell_named}
use Rattle.std.specs.Prelude.{Bool}
use Rattle.expr_clause.proofs.Levels.{at_unary, at_binary, at_among}

-- what holds in any case holds after a success
pub whenever : {A E : Type 0} (r : Result A E) {P : Type 0} → P → OnOk r P
whenever (Ok a) p = p
whenever (Err e) p = tt

module _ (columns : List Head) (row : List Cell) where
  -- the cells of the columns that an expression names
  abbrev pub named : Expr → List Cell
  named e = map (cell_named columns row) (columns_of e)

  map_both : (left right : List Text) (more : List Cell) → map (cell_named columns row) (left ++ right) ++ more ≡ map (cell_named columns row) left ++ (map (cell_named columns row) right ++ more)
  map_both [] right more = refl
  map_both (n ∷ left) right more = ap (λ cs. cell_named columns row n ∷ cs) (map_both left right more)

  module _ (before more : List Cell) (e : Expr) (given : before ≡ named e ++ more) where
    -- an expression that names no column takes no cell
    pub none_named : columns_of e ≡ [] → before ≡ more
    none_named none = given ∙ ap (λ names. map (cell_named columns row) names ++ more) none

    pub one_named : (name : Text) → columns_of e ≡ name ∷ [] → before ≡ cell_named columns row name ∷ more
    one_named name one = given ∙ ap (λ names. map (cell_named columns row) names ++ more) one

    pub unary_named : (op : UnOp) (a : Expr) → e ≡ exprs.Unary op a → before ≡ named a ++ more
    unary_named op a is = given ∙ ap (λ names. map (cell_named columns row) names ++ more) (ap columns_of is ∙ at_unary level_columns op a)

    pub among_named : (a : Expr) (list : List Literal) (negated : Bool) → e ≡ exprs.Among a list negated → before ≡ named a ++ more
    among_named a list negated is = given ∙ ap (λ names. map (cell_named columns row) names ++ more) (ap columns_of is ∙ at_among level_columns a list negated)

    pub binary_named : (op : BinOp) (a b : Expr) → e ≡ exprs.Binary op a b → before ≡ named a ++ (named b ++ more)
    binary_named op a b is =
        given ∙ ap (λ names. map (cell_named columns row) names ++ more) (ap columns_of is ∙ at_binary level_columns op a b)
        ∙ map_both (columns_of a) (columns_of b) more
