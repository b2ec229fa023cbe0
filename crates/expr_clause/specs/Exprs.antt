-- Expressions over the columns of a row.
--     by_levels               a function on expressions, from what it gives on one level
--     columns_of              the names of columns in an expression, from left to right
--     expr_type               the type of an expression over these columns, if it has one
--     value                   its value on a row; None where an arithmetic result is outside i64
use Rattle.std.specs.Prelude.{◌+ℤ◌, ◌-ℤ◌, ◌*ℤ◌, neg_ℤ, nat_abs, pos, Bool, true, false, not, ◌&&◌, ◌||◌, if◌then◌else◌, List, [], ◌∷◌, ◌++◌, slice_get, unwrap_or, option_map, option_and_then, Option, Some, None}
use Rattle.std.specs.List.{list_any, list_all}
use Rattle.std.specs.Ordering.{is_lt, is_le, is_gt, is_ge, is_eq, is_ne}
use Rattle.frame_core.specs.declared.cell.ColType.{ColType}
use Rattle.frame_core.specs.declared.cell.ColType.TheVariants as types
use Rattle.frame_core.specs.declared.cell.Cell.{Cell}
use Rattle.frame_core.specs.declared.cell.Cell.TheVariants as cells
use Rattle.frame_core.specs.Texts.{Text}
use Rattle.frame_core.specs.Schemas.{Head, same_type}
use Rattle.frame_core.specs.Selecting.{place_of}
use Rattle.expr_clause.specs.declared.expr.Literal.{Literal}
use Rattle.expr_clause.specs.declared.expr.Literal.TheVariants as literals
use Rattle.expr_clause.specs.declared.expr.UnOp.{UnOp}
use Rattle.expr_clause.specs.declared.expr.UnOp.TheVariants as unary
use Rattle.expr_clause.specs.declared.expr.BinOp.{BinOp}
use Rattle.expr_clause.specs.declared.expr.BinOp.TheVariants as binary
use Rattle.expr_clause.specs.declared.expr.Expr as exprs
use Rattle.expr_clause.specs.declared.expr.Expr.{Expr, end_of-Expr, more_of-Expr}
use Rattle.expr_clause.specs.declared.expr.Expr.TheOpen.{Expr-F}
use Rattle.expr_clause.specs.Cells.{same_cell, is_true, no_cell, calculate, calculate_one, compare, combine}

-- a function on expressions is given by what one level gives, of what its parts give
unfoldable pub by_levels : {A : Type 0} → (Expr-F A → A) → Expr → A
by_levels level (exprs.Int n) = level (Expr-F.Int n)
by_levels level (exprs.Flag b) = level (Expr-F.Flag b)
by_levels level (exprs.Text t) = level (Expr-F.Text t)
by_levels level (exprs.Moment t) = level (Expr-F.Moment t)
by_levels level (exprs.Col name) = level (Expr-F.Col name)
by_levels level (exprs.Unary' op s (more_of-Expr a end_of-Expr)) = level (Expr-F.Unary op (by_levels level a))
by_levels level (exprs.Binary' op s (more_of-Expr a end_of-Expr) t (more_of-Expr b end_of-Expr)) = level (Expr-F.Binary op (by_levels level a) (by_levels level b))
by_levels level (exprs.Among' s (more_of-Expr a end_of-Expr) list negated) = level (Expr-F.Among (by_levels level a) list negated)

abbrev pub level_columns : Expr-F (List Text) → List Text
level_columns (Expr-F.Col name) = name ∷ []
level_columns (Expr-F.Unary op arg) = arg
level_columns (Expr-F.Binary op left right) = left ++ right
level_columns (Expr-F.Among arg list negated) = arg
level_columns _ = []

-- the names of columns, from left to right
abbrev pub columns_of : Expr → List Text
columns_of = by_levels level_columns

-- ---- types

-- the operand is of this type
abbrev pub has_type : ColType → Option ColType → Bool
has_type kind None = false
has_type kind (Some t) = same_type kind t

-- both operands are of this type
abbrev pub both_have : ColType → Option ColType → Option ColType → Bool
both_have kind left right = has_type kind left && has_type kind right

-- both have one type
abbrev pub agree : Option ColType → Option ColType → Bool
agree None right = false
agree (Some kind) right = has_type kind right

-- this type, where the operands fit
abbrev pub of_type : Bool → ColType → Option ColType
of_type fits kind = if fits then Some kind else None

abbrev pub literal_type : Literal → ColType
literal_type (literals.Int n) = types.Int
literal_type (literals.Flag b) = types.Flag
literal_type (literals.Text t) = types.Text
literal_type (literals.Moment t) = types.Stamp

abbrev pub unary_type : UnOp → Option ColType → Option ColType
unary_type unary.Not arg = of_type (has_type types.Flag arg) types.Flag
unary_type _ arg = of_type (has_type types.Int arg) types.Int

abbrev pub arithmetic_type : Option ColType → Option ColType → Option ColType
arithmetic_type left right = of_type (both_have types.Int left right) types.Int

abbrev pub order_type : Option ColType → Option ColType → Option ColType
order_type left right = of_type (both_have types.Int left right || both_have types.Stamp left right) types.Flag

abbrev pub equality_type : Option ColType → Option ColType → Option ColType
equality_type left right = of_type (agree left right) types.Flag

abbrev pub flags_type : Option ColType → Option ColType → Option ColType
flags_type left right = of_type (both_have types.Flag left right) types.Flag

abbrev pub binary_type : BinOp → Option ColType → Option ColType → Option ColType
binary_type binary.Add = arithmetic_type
binary_type binary.Sub = arithmetic_type
binary_type binary.Mul = arithmetic_type
binary_type binary.Lt = order_type
binary_type binary.Le = order_type
binary_type binary.Gt = order_type
binary_type binary.Ge = order_type
binary_type binary.Eq = equality_type
binary_type binary.Ne = equality_type
binary_type binary.And = flags_type
binary_type binary.Xor = flags_type
binary_type binary.Or = flags_type

abbrev pub among_type : Option ColType → List Literal → Option ColType
among_type arg list = of_type (agree arg arg && list_all (λ l. has_type (literal_type l) arg) list) types.Flag

-- the type of the column of this name
abbrev pub type_named : List Head → Text → Option ColType
type_named columns name = option_map (λ (c : Head). c.1) (option_and_then (slice_get columns) (place_of name columns))

abbrev pub level_type : List Head → Expr-F (Option ColType) → Option ColType
level_type columns (Expr-F.Int n) = Some types.Int
level_type columns (Expr-F.Flag b) = Some types.Flag
level_type columns (Expr-F.Text t) = Some types.Text
level_type columns (Expr-F.Moment t) = Some types.Stamp
level_type columns (Expr-F.Col name) = type_named columns name
level_type columns (Expr-F.Unary op arg) = unary_type op arg
level_type columns (Expr-F.Binary op left right) = binary_type op left right
level_type columns (Expr-F.Among arg list negated) = among_type arg list

-- the type of an expression over these columns, if it has one
abbrev pub expr_type : List Head → Expr → Option ColType
expr_type columns = by_levels (level_type columns)

-- ---- values

abbrev pub literal_cell : Literal → Cell
literal_cell (literals.Int n) = cells.Int n
literal_cell (literals.Flag b) = cells.Flag b
literal_cell (literals.Text t) = cells.Text t
literal_cell (literals.Moment t) = cells.Stamp t

-- the cell of a row in the column of this name
abbrev pub cell_named : List Head → List Cell → Text → Cell
cell_named columns row name = unwrap_or (option_and_then (slice_get row) (place_of name columns)) no_cell

abbrev pub unary_value : UnOp → Cell → Option Cell
unary_value unary.Neg arg = calculate_one neg_ℤ arg
unary_value unary.Abs arg = calculate_one (λ n. pos (nat_abs n)) arg
unary_value unary.Not arg = Some (cells.Flag (not (is_true arg)))

abbrev pub exclusive : Bool → Bool → Bool
exclusive true b = not b
exclusive false b = b

abbrev pub binary_value : BinOp → Cell → Cell → Option Cell
binary_value binary.Add = calculate ◌+ℤ◌
binary_value binary.Sub = calculate ◌-ℤ◌
binary_value binary.Mul = calculate ◌*ℤ◌
binary_value binary.Lt = compare is_lt
binary_value binary.Le = compare is_le
binary_value binary.Gt = compare is_gt
binary_value binary.Ge = compare is_ge
binary_value binary.Eq = compare is_eq
binary_value binary.Ne = compare is_ne
binary_value binary.And = combine ◌&&◌
binary_value binary.Xor = combine exclusive
binary_value binary.Or = combine ◌||◌

-- whether the cell is one of the literals, or, negated, none of them
abbrev pub among_value : List Literal → Bool → Cell → Option Cell
among_value list negated arg = Some (cells.Flag (exclusive negated (list_any (λ l. same_cell arg (literal_cell l)) list)))

-- both sides are computed; there is no value where an arithmetic result is outside i64
abbrev pub level_value : List Head → List Cell → Expr-F (Option Cell) → Option Cell
level_value columns row (Expr-F.Int n) = Some (cells.Int n)
level_value columns row (Expr-F.Flag b) = Some (cells.Flag b)
level_value columns row (Expr-F.Text t) = Some (cells.Text t)
level_value columns row (Expr-F.Moment t) = Some (cells.Stamp t)
level_value columns row (Expr-F.Col name) = Some (cell_named columns row name)
level_value columns row (Expr-F.Unary op arg) = option_and_then (unary_value op) arg
level_value columns row (Expr-F.Binary op left right) = option_and_then (λ a. option_and_then (binary_value op a) right) left
level_value columns row (Expr-F.Among arg list negated) = option_and_then (among_value list negated) arg

-- the value of an expression on a row of these columns; None where an arithmetic result is outside i64
abbrev pub value : List Head → List Cell → Expr → Option Cell
value columns row = by_levels (level_value columns row)
