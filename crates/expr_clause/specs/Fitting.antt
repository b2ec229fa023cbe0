-- The limits on the clauses of a read.
--     nodes, depth            how many operands and operators an expression has, and how deep they stand
--     small_lists             each list has as many literals as are allowed
--     left_of                 what is left of a limit
--     is_small                an expression within the limits
--     fits                    clauses within the limits
use Rattle.std.specs.Prelude.{ℕ, ◌+◌, ◌-◌, max, Bool, true, ◌&&◌, if◌then◌else◌, List, length, nat_le, Option, Some, None}
use Rattle.std.specs.List.{list_all}
use Rattle.expr_clause.specs.declared.expr.Expr.{Expr}
use Rattle.expr_clause.specs.declared.expr.Expr.TheOpen.{Expr-F}
use Rattle.expr_clause.specs.declared.clause.Clause.{Clause}
use Rattle.expr_clause.specs.declared.clause.Clause.TheVariants as clauses
use Rattle.expr_clause.specs.Exprs.{by_levels}

abbrev pub level_nodes : Expr-F ℕ → ℕ
level_nodes (Expr-F.Unary op arg) = 1 + arg
level_nodes (Expr-F.Binary op left right) = 1 + (left + right)
level_nodes (Expr-F.Among arg list negated) = 1 + arg
level_nodes _ = 1

abbrev pub level_depth : Expr-F ℕ → ℕ
level_depth (Expr-F.Unary op arg) = 1 + arg
level_depth (Expr-F.Binary op left right) = 1 + max left right
level_depth (Expr-F.Among arg list negated) = 1 + arg
level_depth _ = 1

abbrev pub level_lists : Expr-F Bool → Bool
level_lists (Expr-F.Unary op arg) = arg
level_lists (Expr-F.Binary op left right) = left && right
level_lists (Expr-F.Among arg list negated) = arg && (nat_le 1 (length list) && nat_le (length list) 64)
level_lists _ = true

-- how many operands and operators an expression has; a list of literals is part of its operator
abbrev pub nodes : Expr → ℕ
nodes = by_levels level_nodes

-- an operand has the depth 1, and an operator one more than its deepest operand
abbrev pub depth : Expr → ℕ
depth = by_levels level_depth

-- each list has 1 to 64 literals
abbrev pub small_lists : Expr → Bool
small_lists = by_levels level_lists

-- how many of so many are left where n are taken, if there are as many
abbrev pub left_of : ℕ → ℕ → Option ℕ
left_of most n = if nat_le n most then Some (most - n) else None

-- within the limits on nodes, depth and literals
abbrev pub is_small : Expr → Bool
is_small e = nat_le (nodes e) 256 && (nat_le (depth e) 32 && small_lists e)

abbrev pub is_small_clause : Clause → Bool
is_small_clause (clauses.Filter e) = is_small e
is_small_clause (clauses.Apply name e) = is_small e
is_small_clause _ = true

-- at most 16 clauses, each expression within its limits
abbrev pub fits : List Clause → Bool
fits list = nat_le (length list) 16 && list_all is_small_clause list
