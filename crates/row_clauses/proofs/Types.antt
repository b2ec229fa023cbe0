-- The value of an expression is of its type.
use Rattle.std.proofs.Common.{◌≡◌, ℕ, zero, suc, refl, subst}
use Rattle.std.specs.Prelude.{ℤ, ◌+ℤ◌, ◌-ℤ◌, ◌*ℤ◌, neg_ℤ, nat_abs, pos, Bool, true, false, cond, ⊤, List, [], ◌∷◌, slice_get, Option, Some, None, option_map, option_and_then, unwrap_or}
use Rattle.frame_core.specs.declared.cell.ColType.{ColType}
use Rattle.frame_core.specs.declared.cell.ColType.TheVariants as types
use Rattle.frame_core.specs.declared.cell.Cell.{Cell}
use Rattle.frame_core.specs.declared.cell.Cell.TheVariants as cells
use Rattle.frame_core.specs.Texts.{Text}
use Rattle.frame_core.specs.Schemas.{Head}
use Rattle.frame_core.specs.Frames.{type_of}
use Rattle.frame_core.specs.Selecting.{place_of}
use Rattle.expr_clause.specs.declared.expr.UnOp.{UnOp}
use Rattle.expr_clause.specs.declared.expr.UnOp.TheVariants as unary
use Rattle.expr_clause.specs.declared.expr.BinOp.{BinOp}
use Rattle.expr_clause.specs.declared.expr.BinOp.TheVariants as binary
use Rattle.expr_clause.specs.declared.expr.Expr as exprs
use Rattle.expr_clause.specs.declared.expr.Expr.{Expr, end_of-Expr, more_of-Expr}
use Rattle.expr_clause.specs.Cells.{fits_i64, if_whole, no_cell, number}
use Rattle.expr_clause.specs.Exprs.{by_levels, both_have, has_type, of_type, type_named, cell_named, unary_type, unary_value, binary_type, binary_value, among_type, among_value, expr_type, value}
use Rattle.row_clauses.specs.Lying.{AreTyped}

-- where there is a type and a value, the value is of the type
abbrev Fits : Option ColType → Option Cell → Type 0
Fits None v = ⊤
Fits (Some kind) None = ⊤
Fits (Some kind) (Some c) = type_of c ≡ kind

nothing : (t : Option ColType) → Fits t None
nothing None = tt
nothing (Some kind) = tt

-- ---- operators

whole_fits : (b : Bool) (z : ℤ) → Fits (of_type b types.Int) (if_whole z)
whole_fits false z = tt
whole_fits true z = by (fits_i64 z)
  where
    by : (c : Bool) → Fits (Some types.Int) (cond c (Some (cells.Int z)) None)
    by true = refl
    by false = tt

flag_fits : (b f : Bool) → Fits (of_type b types.Flag) (Some (cells.Flag f))
flag_fits false f = tt
flag_fits true f = refl

unary_fits : (op : UnOp) (t : Option ColType) (x : Cell) → Fits (unary_type op t) (unary_value op x)
unary_fits unary.Neg t x = whole_fits (has_type types.Int t) (neg_ℤ (number x))
unary_fits unary.Abs t x = whole_fits (has_type types.Int t) (pos (nat_abs (number x)))
unary_fits unary.Not t x = flag_fits _ _

binary_fits : (op : BinOp) (t u : Option ColType) (x y : Cell) → Fits (binary_type op t u) (binary_value op x y)
binary_fits binary.Add t u x y = whole_fits (both_have types.Int t u) (number x +ℤ number y)
binary_fits binary.Sub t u x y = whole_fits (both_have types.Int t u) (number x -ℤ number y)
binary_fits binary.Mul t u x y = whole_fits (both_have types.Int t u) (number x *ℤ number y)
binary_fits binary.Lt t u x y = flag_fits _ _
binary_fits binary.Le t u x y = flag_fits _ _
binary_fits binary.Gt t u x y = flag_fits _ _
binary_fits binary.Ge t u x y = flag_fits _ _
binary_fits binary.Eq t u x y = flag_fits _ _
binary_fits binary.Ne t u x y = flag_fits _ _
binary_fits binary.And t u x y = flag_fits _ _
binary_fits binary.Xor t u x y = flag_fits _ _
binary_fits binary.Or t u x y = flag_fits _ _

-- ---- columns

-- the cell at a place is of the type there
at_fits : (columns : List Head) (row : List Cell) (k : ℕ) → AreTyped columns row → Fits (option_map (λ (h : Head). h.1) (slice_get columns k)) (Some (unwrap_or (slice_get row k) no_cell))
at_fits [] row k all = tt
at_fits (h ∷ hs) [] k all = absurd all
at_fits (h ∷ hs) (c ∷ cs) zero all = all.0
at_fits (h ∷ hs) (c ∷ cs) (suc k) all = at_fits hs cs k all.1

column_fits : (columns : List Head) (row : List Cell) (name : Text) → AreTyped columns row → Fits (type_named columns name) (Some (cell_named columns row name))
column_fits columns row name all = by (place_of name columns)
  where
    by : (o : Option ℕ) → Fits (option_map (λ (h : Head). h.1) (option_and_then (slice_get columns) o)) (Some (unwrap_or (option_and_then (slice_get row) o) no_cell))
    by None = tt
    by (Some k) = at_fits columns row k all

pub column_is : (columns : List Head) (row : List Cell) (name : Text) (kind : ColType) → AreTyped columns row → type_named columns name ≡ Some kind → type_of (cell_named columns row name) ≡ kind
column_is columns row name kind all typed = subst (λ t. Fits t (Some (cell_named columns row name))) typed (column_fits columns row name all)

-- ---- expressions

fits : (columns : List Head) (row : List Cell) (e : Expr) → AreTyped columns row → Fits (expr_type columns e) (value columns row e)
unfolding by_levels
fits columns row (exprs.Int n) all = refl
fits columns row (exprs.Flag b) all = refl
fits columns row (exprs.Text t) all = refl
fits columns row (exprs.Moment t) all = refl
fits columns row (exprs.Col name) all = column_fits columns row name all
fits columns row (exprs.Unary' op s (more_of-Expr a end_of-Expr)) all = by (value columns row a)
  where
    by : (v : Option Cell) → Fits (unary_type op (expr_type columns a)) (option_and_then (unary_value op) v)
    by None = nothing (unary_type op (expr_type columns a))
    by (Some x) = unary_fits op (expr_type columns a) x
fits columns row (exprs.Binary' op s (more_of-Expr a end_of-Expr) t (more_of-Expr b end_of-Expr)) all = by (value columns row a) (value columns row b)
  where
    by : (v w : Option Cell) → Fits (binary_type op (expr_type columns a) (expr_type columns b)) (option_and_then (λ x. option_and_then (binary_value op x) w) v)
    by None w = nothing (binary_type op (expr_type columns a) (expr_type columns b))
    by (Some x) None = nothing (binary_type op (expr_type columns a) (expr_type columns b))
    by (Some x) (Some y) = binary_fits op (expr_type columns a) (expr_type columns b) x y
fits columns row (exprs.Among' s (more_of-Expr a end_of-Expr) list negated) all = by (value columns row a)
  where
    by : (v : Option Cell) → Fits (among_type (expr_type columns a) list) (option_and_then (among_value list negated) v)
    by None = nothing (among_type (expr_type columns a) list)
    by (Some x) = flag_fits _ _

pub value_fits : (columns : List Head) (row : List Cell) (e : Expr) (kind : ColType) (c : Cell) → AreTyped columns row → expr_type columns e ≡ Some kind → value columns row e ≡ Some c → type_of c ≡ kind
value_fits columns row e kind c all typed valued = subst (λ v. Fits (Some kind) v) valued (subst (λ t. Fits t (value columns row e)) typed (fits columns row e all))
