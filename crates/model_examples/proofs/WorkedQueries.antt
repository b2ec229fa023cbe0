-- Queries over small frames, computed: what the definitions say where a reader may doubt it. Those of worked frames stand in `expr_clause`.
use Rattle.std.specs.Prelude.{◌≡◌, ℕ, ◌^◌, ◌-◌, ℤ, pos, neg_ℤ, true, false, List, [], ◌∷◌, Some, None, Result, Ok, Err, refl}
use Rattle.frame_core.specs.declared.cell.ColType.TheVariants as types
use Rattle.frame_core.specs.declared.cell.Cell.{Cell}
use Rattle.frame_core.specs.declared.cell.Cell.TheVariants as cells
use Rattle.frame_core.specs.declared.refusal.Refusal.{Refusal}
use Rattle.frame_core.specs.declared.refusal.Refusal.TheVariants as refusals
use Rattle.frame_core.specs.Texts.{Text}
use Rattle.frame_core.specs.Ranges.{Range}
use Rattle.frame_core.specs.Schemas.{Head}
use Rattle.frame_core.specs.Frames.{Row, Frame}
use Rattle.expr_clause.specs.declared.expr.Literal.TheVariants as literals
use Rattle.expr_clause.specs.declared.expr.UnOp.TheVariants as unary
use Rattle.expr_clause.specs.declared.expr.BinOp.{BinOp}
use Rattle.expr_clause.specs.declared.expr.BinOp.TheVariants as binary
use Rattle.expr_clause.specs.declared.expr.Expr.{Expr}
use Rattle.expr_clause.specs.declared.expr.Expr.TheVariants as exprs
use Rattle.expr_clause.specs.declared.clause.Agg.{Agg}
use Rattle.expr_clause.specs.declared.clause.Agg.TheVariants as aggs
use Rattle.expr_clause.specs.declared.clause.Out.{Out}
use Rattle.expr_clause.specs.declared.clause.Clause.{Clause}
use Rattle.expr_clause.specs.declared.clause.Clause.TheVariants as clauses
use Rattle.expr_clause.specs.Exprs.{by_levels}
use Rattle.expr_clause.specs.Fitting.{fits}
use Rattle.expr_clause.specs.Asking.{query}

-- ---- a frame of each type: a number, a flag, a text, a moment

-- the columns a, f, s, t, and names that are not there
abbrev pub a : Text
a = 97 ∷ []

abbrev pub f : Text
f = 102 ∷ []

abbrev pub s : Text
s = 115 ∷ []

abbrev pub t : Text
t = 116 ∷ []

abbrev pub x : Text
x = 120 ∷ []

abbrev pub y : Text
y = 121 ∷ []

abbrev kinds : List Head
kinds = (a, types.Int) ∷ (f, types.Flag) ∷ (s, types.Text) ∷ (t, types.Stamp) ∷ []

abbrev least : ℤ
least = neg_ℤ (pos (2 ^ 63))

abbrev row : ℕ → List Cell → Row
row at cs = record { stamp = pos at; cells = cs }

-- texts are `b`, `ab` and `b`; the least number stands in the third row
abbrev mixed : Frame
mixed = record {
  schema = record { timed = true; columns = kinds };
  rows = row 1 (cells.Int (pos 7) ∷ cells.Flag true ∷ cells.Text (98 ∷ []) ∷ cells.Stamp (pos 30) ∷ [])
      ∷ row 2 (cells.Int (pos 5) ∷ cells.Flag false ∷ cells.Text (97 ∷ 98 ∷ []) ∷ cells.Stamp (pos 10) ∷ [])
      ∷ row 3 (cells.Int least ∷ cells.Flag true ∷ cells.Text (98 ∷ []) ∷ cells.Stamp (pos 20) ∷ []) ∷ [];
}

abbrev everything : Range
everything = record { from = None; to = None }

abbrev from_on : ℕ → Range
from_on n = record { from = Some (pos n); to = None }

abbrev asks : Range → List Clause → Result Frame Refusal
asks range list = query mixed range None list

abbrev pub col : Text → Expr
col = exprs.Col

abbrev pub both : BinOp → Expr → Expr → Expr
both = exprs.Binary

abbrev pub out : Text → Agg → Text → Out
out name agg of = record { name = name; agg = agg; «of» = of }

-- ---- overflow

-- the negation and the size of the least number are outside i64
negation_overflows : asks everything (clauses.Apply x (exprs.Unary unary.Neg (col a)) ∷ []) ≡ Err (refusals.Overflow 1 3)
unfolding by_levels Rattle.expr_clause.specs.declared.expr.Expr.TheBlock.hidden-the_row-Expr-0 denote.Hole.Carrier.hidden
negation_overflows = refl

size_overflows : asks everything (clauses.Apply x (exprs.Unary unary.Abs (col a)) ∷ []) ≡ Err (refusals.Overflow 1 3)
unfolding by_levels Rattle.expr_clause.specs.declared.expr.Expr.TheBlock.hidden-the_row-Expr-0 denote.Hole.Carrier.hidden
size_overflows = refl

-- rows are numbered in the frame that enters the run: in the range, and not in the version
rows_are_numbered_in_the_range : asks (from_on 2) (clauses.Apply x (exprs.Unary unary.Neg (col a)) ∷ []) ≡ Err (refusals.Overflow 1 2)
unfolding by_levels Rattle.expr_clause.specs.declared.expr.Expr.TheBlock.hidden-the_row-Expr-0 denote.Hole.Carrier.hidden
rows_are_numbered_in_the_range = refl

-- a range as a clause ends a row, and leaves the rows behind it their numbers
a_range_as_a_clause_numbers_nothing : asks everything (clauses.DateRange (from_on 2) ∷ clauses.Apply x (exprs.Unary unary.Neg (col a)) ∷ []) ≡ Err (refusals.Overflow 2 3)
unfolding by_levels Rattle.expr_clause.specs.declared.expr.Expr.TheBlock.hidden-the_row-Expr-0 denote.Hole.Carrier.hidden
a_range_as_a_clause_numbers_nothing = refl

-- both sides are computed, also where the first one decides
both_sides_are_computed : asks everything (clauses.Filter (both binary.And (exprs.Flag false) (both binary.Gt (exprs.Unary unary.Abs (col a)) (exprs.Int (pos 0)))) ∷ []) ≡ Err (refusals.Overflow 1 3)
unfolding by_levels Rattle.expr_clause.specs.declared.expr.Expr.TheBlock.hidden-the_row-Expr-0 denote.Hole.Carrier.hidden
both_sides_are_computed = refl

-- behind a group rows are the group's, and clauses go on being numbered
rows_behind_a_group_are_its_own : asks everything (clauses.Group a (out x aggs.Count s ∷ []) ∷ clauses.Apply y (exprs.Unary unary.Neg (col a)) ∷ []) ≡ Err (refusals.Overflow 2 1)
unfolding by_levels Rattle.expr_clause.specs.declared.expr.Expr.TheBlock.hidden-the_row-Expr-0 denote.Hole.Carrier.hidden
rows_behind_a_group_are_its_own = refl

-- a row that overflows refuses before any group is made of the others
rows_come_before_groups : asks everything (clauses.Apply x (both binary.Sub (col a) (exprs.Int (pos 8))) ∷ clauses.Group f (out y aggs.Sum x ∷ []) ∷ []) ≡ Err (refusals.Overflow 1 3)
unfolding by_levels Rattle.expr_clause.specs.declared.expr.Expr.TheBlock.hidden-the_row-Expr-0 denote.Hole.Carrier.hidden
rows_come_before_groups = refl

-- ---- groups

-- false before true; a moment's least and greatest; the number of texts
groups_of_flags : asks everything (clauses.Group f (out x aggs.Min t ∷ out y aggs.Max t ∷ out s aggs.Count s ∷ []) ∷ []) ≡ Ok (record {
  schema = record { timed = false; columns = (f, types.Flag) ∷ (x, types.Stamp) ∷ (y, types.Stamp) ∷ (s, types.Int) ∷ [] };
  rows = row 0 (cells.Flag false ∷ cells.Stamp (pos 10) ∷ cells.Stamp (pos 10) ∷ cells.Int (pos 1) ∷ [])
      ∷ row 0 (cells.Flag true ∷ cells.Stamp (pos 20) ∷ cells.Stamp (pos 30) ∷ cells.Int (pos 2) ∷ []) ∷ [];
})
groups_of_flags = refl

-- texts by bytes: `ab` before `b`
groups_of_texts : asks everything (clauses.Group s (out x aggs.Sum a ∷ []) ∷ []) ≡ Ok (record {
  schema = record { timed = false; columns = (s, types.Text) ∷ (x, types.Int) ∷ [] };
  rows = row 0 (cells.Text (97 ∷ 98 ∷ []) ∷ cells.Int (pos 5) ∷ []) ∷ row 0 (cells.Text (98 ∷ []) ∷ cells.Int (neg_ℤ (pos (2 ^ 63 - 7))) ∷ []) ∷ [];
})
groups_of_texts = refl

-- a group over no rows has no rows, and the group's columns
a_group_over_no_rows : asks (from_on 9) (clauses.Group t (out x aggs.Sum a ∷ []) ∷ [])
    ≡ Ok (record { schema = record { timed = false; columns = (t, types.Stamp) ∷ (x, types.Int) ∷ [] }; rows = [] })
a_group_over_no_rows = refl

-- the least of texts, and the sum of moments, have no type
no_least_text : asks everything (clauses.Group a (out x aggs.Min s ∷ []) ∷ []) ≡ Err (refusals.TypeMismatch 1)
no_least_text = refl

no_sum_of_moments : asks everything (clauses.Group a (out x aggs.Sum t ∷ []) ∷ []) ≡ Err (refusals.TypeMismatch 1)
no_sum_of_moments = refl

-- ---- columns

-- a computed column stands in the place of the one of its name, with its own type, and is computed of the old one
a_column_in_its_place : asks (record { from = None; to = Some (pos 1) }) (clauses.Apply a (both binary.Gt (col a) (exprs.Int (pos 6))) ∷ clauses.Filter (col a) ∷ []) ≡ Ok (record {
  schema = record { timed = true; columns = (a, types.Flag) ∷ (f, types.Flag) ∷ (s, types.Text) ∷ (t, types.Stamp) ∷ [] };
  rows = row 1 (cells.Flag true ∷ cells.Flag true ∷ cells.Text (98 ∷ []) ∷ cells.Stamp (pos 30) ∷ []) ∷ [];
})
unfolding by_levels Rattle.expr_clause.specs.declared.expr.Expr.TheBlock.hidden-the_row-Expr-0 denote.Hole.Carrier.hidden
a_column_in_its_place = refl

-- clauses have the asked columns alone
a_column_that_is_not_asked : query mixed everything (Some (a ∷ [])) (clauses.Filter (col f) ∷ []) ≡ Err (refusals.NoSuchColumn 1 1)
unfolding by_levels Rattle.expr_clause.specs.declared.expr.Expr.TheBlock.hidden-the_row-Expr-0 denote.Hole.Carrier.hidden
a_column_that_is_not_asked = refl

-- ---- the order of refusals

-- an absent column comes before a type within a clause, wherever it stands; each reference has a number
columns_come_before_types : asks everything (clauses.Filter (both binary.And (both binary.Add (col s) (col a)) (col x)) ∷ []) ≡ Err (refusals.NoSuchColumn 1 3)
unfolding by_levels Rattle.expr_clause.specs.declared.expr.Expr.TheBlock.hidden-the_row-Expr-0 denote.Hole.Carrier.hidden
columns_come_before_types = refl

-- an earlier clause comes first, whatever is wrong with a later one
clauses_come_in_order : asks everything (clauses.Filter (col a) ∷ clauses.Filter (col x) ∷ []) ≡ Err (refusals.TypeMismatch 1)
unfolding by_levels Rattle.expr_clause.specs.declared.expr.Expr.TheBlock.hidden-the_row-Expr-0 denote.Hole.Carrier.hidden
clauses_come_in_order = refl

-- all clauses are tested before any row overflows
types_come_before_rows : asks everything (clauses.Apply x (exprs.Unary unary.Abs (col a)) ∷ clauses.Group f [] ∷ clauses.DateRange everything ∷ []) ≡ Err (refusals.NotTimeIndexed 3)
unfolding by_levels Rattle.expr_clause.specs.declared.expr.Expr.TheBlock.hidden-the_row-Expr-0 denote.Hole.Carrier.hidden
types_come_before_rows = refl

-- a literal of another type in a list, and a moment against a number, are refused
a_list_of_mixed_types : asks everything (clauses.Filter (exprs.Among (col a) (literals.Int (pos 7) ∷ literals.Moment (pos 7) ∷ []) false) ∷ []) ≡ Err (refusals.TypeMismatch 1)
unfolding by_levels Rattle.expr_clause.specs.declared.expr.Expr.TheBlock.hidden-the_row-Expr-0 denote.Hole.Carrier.hidden
a_list_of_mixed_types = refl

a_moment_is_no_number : asks everything (clauses.Filter (both binary.Eq (col t) (col a)) ∷ []) ≡ Err (refusals.TypeMismatch 1)
unfolding by_levels Rattle.expr_clause.specs.declared.expr.Expr.TheBlock.hidden-the_row-Expr-0 denote.Hole.Carrier.hidden
a_moment_is_no_number = refl

-- ---- limits

-- a list without literals has a type and a value, and is outside the limits all the same
abbrev in_none : List Clause
in_none = clauses.Filter (exprs.Among (col a) [] false) ∷ []

a_list_of_none_is_outside_the_limits : fits in_none ≡ false
unfolding by_levels Rattle.expr_clause.specs.declared.expr.Expr.TheBlock.hidden-the_row-Expr-0 denote.Hole.Carrier.hidden
a_list_of_none_is_outside_the_limits = refl

nothing_is_in_a_list_of_none : asks everything in_none ≡ Ok (record { schema = record { timed = true; columns = kinds }; rows = [] })
unfolding by_levels Rattle.expr_clause.specs.declared.expr.Expr.TheBlock.hidden-the_row-Expr-0 denote.Hole.Carrier.hidden
nothing_is_in_a_list_of_none = refl
