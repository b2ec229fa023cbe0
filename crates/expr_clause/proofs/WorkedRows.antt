-- Queries over small frames, and what they give.
use Rattle.std.specs.Prelude.{◌≡◌, ℕ, ◌-◌, ◌^◌, ℤ, pos, false, true, List, [], ◌∷◌, ◌++◌, map, Some, None, Result, Ok, Err, refl, codes}
use Rattle.frame_core.specs.declared.cell.ColType.TheVariants as types
use Rattle.frame_core.specs.declared.cell.Cell.{Cell}
use Rattle.frame_core.specs.declared.cell.Cell.TheVariants as cells
use Rattle.frame_core.specs.declared.refusal.Refusal.{Refusal}
use Rattle.frame_core.specs.declared.refusal.Refusal.TheVariants as refusals
use Rattle.frame_core.specs.Texts.{Text}
use Rattle.frame_core.specs.Ranges.{Range}
use Rattle.frame_core.specs.Schemas.{Head}
use Rattle.frame_core.specs.Frames.{Row, Frame}
use Rattle.expr_clause.specs.declared.expr.Literal.TheVariants as literals
use Rattle.expr_clause.specs.declared.expr.UnOp.TheVariants as unary
use Rattle.expr_clause.specs.declared.expr.BinOp.{BinOp}
use Rattle.expr_clause.specs.declared.expr.BinOp.TheVariants as binary
use Rattle.expr_clause.specs.declared.expr.Expr.{Expr}
use Rattle.expr_clause.specs.declared.expr.Expr.TheVariants as exprs
use Rattle.expr_clause.specs.declared.clause.Agg.{Agg}
use Rattle.expr_clause.specs.declared.clause.Agg.TheVariants as aggs
use Rattle.expr_clause.specs.declared.clause.Out.{Out}
use Rattle.expr_clause.specs.declared.clause.Clause.{Clause}
use Rattle.expr_clause.specs.declared.clause.Clause.TheVariants as clauses
use Rattle.expr_clause.specs.Exprs.{by_levels}
use Rattle.expr_clause.specs.Asking.{query}

abbrev everything : Range
everything = record { from = None; to = None }

abbrev name : List ℕ → Expr
name = exprs.Col

abbrev number : ℕ → Expr
number n = exprs.Int (pos n)

abbrev both : BinOp → Expr → Expr → Expr
both = exprs.Binary

abbrev all_of : Frame → List Clause → Result Frame Refusal
all_of f list = query f everything None list

abbrev biggest : ℤ
biggest = pos (2 ^ 63 - 1)

-- ---- the frame of most rows: a time, a price, a size

abbrev price : Text
price = codes "price"

abbrev size : Text
size = codes "size"

abbrev bid : Text
bid = codes "bid"

abbrev heads : List Text → List Head
heads names = map (λ n. (n, types.Int)) names

abbrev ints : List ℤ → List Cell
ints ns = map cells.Int ns

abbrev row : ℕ → List Cell → Row
row t cs = record { stamp = pos t; cells = cs }

abbrev trade : ℕ → ℕ → ℕ → Row
trade t p q = row t (ints (pos p ∷ pos q ∷ []))

abbrev t : Frame
t = record {
  schema = record { timed = true; columns = heads (price ∷ size ∷ []) };
  rows = trade 1 100 5 ∷ trade 2 101 7 ∷ trade 2 102 1 ∷ trade 4 99 3 ∷ trade 9 105 2 ∷ [];
}

-- ---- the least row, at its first failing clause

abbrev a : Text
a = codes "a"

abbrev b : Text
b = codes "b"

abbrev flat : ℕ → Row
flat n = row n (ints (pos 0 ∷ pos 0 ∷ []))

abbrev two_columns : Frame
two_columns = record {
  schema = record { timed = true; columns = heads (a ∷ b ∷ []) };
  rows = flat 1 ∷ flat 2 ∷ row 3 (ints (pos 0 ∷ biggest ∷ [])) ∷ flat 4 ∷ flat 5 ∷ flat 6 ∷ row 7 (ints (biggest ∷ pos 0 ∷ [])) ∷ flat 8 ∷ [];
}

overflow-least : all_of two_columns (clauses.Apply (codes "x") (both binary.Add (name a) (number 1)) ∷ clauses.Apply (codes "y") (both binary.Add (name b) (number 1)) ∷ []) ≡ Err (refusals.Overflow 2 3)
unfolding by_levels Rattle.expr_clause.specs.declared.expr.Expr.TheBlock.hidden-the_row-Expr-0 denote.Hole.Carrier.hidden
overflow-least = refl

-- an overflow in a row that an earlier clause refuses does not count
filtered-first : all_of two_columns (clauses.Filter (both binary.Eq (name b) (number 0)) ∷ clauses.Apply (codes "x") (both binary.Add (name a) (number 1)) ∷ []) ≡ Err (refusals.Overflow 2 7)
unfolding by_levels Rattle.expr_clause.specs.declared.expr.Expr.TheBlock.hidden-the_row-Expr-0 denote.Hole.Carrier.hidden
filtered-first = refl

-- ---- a group, and a sum that overflows in the least group

abbrev sym : Text
sym = codes "sym"

abbrev q : Text
q = codes "q"

abbrev sold : ℕ → List ℕ → ℤ → Row
sold t s n = row t (cells.Text s ∷ cells.Int n ∷ [])

abbrev sold_rows : List Row
sold_rows = sold 1 (codes "x") (pos (2 ^ 63 - 2)) ∷ sold 2 (codes "x") (pos 1) ∷ sold 3 (codes "y") (pos 5) ∷ []

abbrev sales : List Row → Frame
sales rows = record { schema = record { timed = true; columns = (sym, types.Text) ∷ (q, types.Int) ∷ [] }; rows = rows }

abbrev out : List ℕ → Agg → Text → Out
out name agg of = record { name = name; agg = agg; «of» = of }

abbrev totals : List Clause
totals = clauses.Group sym (out (codes "total") aggs.Sum q ∷ out (codes "n") aggs.Count q ∷ []) ∷ []

totals-rows : all_of (sales sold_rows) totals ≡ Ok (record {
  schema = record { timed = false; columns = (sym, types.Text) ∷ (codes "total", types.Int) ∷ (codes "n", types.Int) ∷ [] };
  rows = row 0 (cells.Text (codes "x") ∷ cells.Int biggest ∷ cells.Int (pos 2) ∷ []) ∷ row 0 (cells.Text (codes "y") ∷ cells.Int (pos 5) ∷ cells.Int (pos 1) ∷ []) ∷ [];
})
totals-rows = refl

totals-overflow : all_of (sales (sold_rows ++ (sold 4 (codes "x") (pos 1) ∷ []))) totals ≡ Err (refusals.GroupOverflow 1 1)
totals-overflow = refl

-- ---- refusals with clause and position

absent-asked : query t everything (Some (price ∷ bid ∷ [])) [] ≡ Err (refusals.NoSuchColumn 0 2)
absent-asked = refl

absent-filter : all_of t (clauses.Filter (both binary.And (both binary.Gt (name bid) (number 1)) (both binary.Lt (name price) (name (codes "ask")))) ∷ []) ≡ Err (refusals.NoSuchColumn 1 1)
unfolding by_levels Rattle.expr_clause.specs.declared.expr.Expr.TheBlock.hidden-the_row-Expr-0 denote.Hole.Carrier.hidden
absent-filter = refl

absent-third : all_of t (clauses.Filter (both binary.And (both binary.Gt (name size) (number 1)) (both binary.Lt (name price) (name (codes "ask")))) ∷ []) ≡ Err (refusals.NoSuchColumn 1 3)
unfolding by_levels Rattle.expr_clause.specs.declared.expr.Expr.TheBlock.hidden-the_row-Expr-0 denote.Hole.Carrier.hidden
absent-third = refl

filter-type : all_of t (clauses.Filter (name price) ∷ []) ≡ Err (refusals.TypeMismatch 1)
unfolding by_levels
filter-type = refl

-- texts and flags are equal or not, and have no order
text-order : all_of (sales sold_rows) (clauses.Filter (both binary.Lt (name sym) (exprs.Text (codes "y"))) ∷ []) ≡ Err (refusals.TypeMismatch 1)
unfolding by_levels Rattle.expr_clause.specs.declared.expr.Expr.TheBlock.hidden-the_row-Expr-0 denote.Hole.Carrier.hidden
text-order = refl

range-untimed : all_of t (clauses.Group price (out (codes "n") aggs.Count size ∷ []) ∷ clauses.DateRange (record { from = Some (pos 1); to = Some (pos 2) }) ∷ []) ≡ Err (refusals.NotTimeIndexed 2)
range-untimed = refl

-- an output that repeats the key
group-repeats : all_of t (clauses.Group price (out price aggs.Count size ∷ []) ∷ []) ≡ Err (refusals.TypeMismatch 1)
group-repeats = refl

-- the key is position 1, and the columns of the outputs follow
group-absent : all_of t (clauses.Group price (out (codes "o") aggs.Sum size ∷ out (codes "p") aggs.Sum bid ∷ []) ∷ []) ≡ Err (refusals.NoSuchColumn 1 3)
group-absent = refl

-- ---- a filter with a membership, and an apply

among-rows : all_of t (
    clauses.Filter (both binary.And (exprs.Among (name price) (literals.Int (pos 99) ∷ literals.Int (pos 101) ∷ []) false) (exprs.Unary unary.Not (both binary.Gt (name size) (number 5))))
    ∷ clauses.Apply (codes "n") (both binary.Sub (name price) (name size)) ∷ [])
    ≡ Ok (record { schema = record { timed = true; columns = heads (price ∷ size ∷ codes "n" ∷ []) }; rows = row 4 (ints (pos 99 ∷ pos 3 ∷ pos 96 ∷ [])) ∷ [] })
unfolding by_levels Rattle.expr_clause.specs.declared.expr.Expr.TheBlock.hidden-the_row-Expr-0 denote.Hole.Carrier.hidden
among-rows = refl
