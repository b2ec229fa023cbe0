use Rattle.std.proofs.Common.{◌≡◌, Some, drop}
use Rattle.std.specs.List.{list_all}
use Rattle.expr_clause.specs.Exprs.{has_type, literal_type}
use Rattle.expr_clause.proofs.kinds.are_of.Given as goal

-- the literals that are left answer for all
abbrev pub invariant-loop-literal : goal.invariant-loop-literal
invariant-loop-literal l = list_all (λ x. has_type (literal_type x) (Some l.kind)) (drop l.literal-index l.list) ≡ list_all (λ x. has_type (literal_type x) (Some l.kind)) l.list
