-- Partial groups: what a group keeps of the lines that were added, in whichever order.
--     Tally                   the sum, the least, the greatest and the number of the cells of one output
--     Partial                 the number of lines, and for each key, ascending, a tally for each output
--     partial_of, merge_partials, finish_partial      of lines, of two parts, and its group
--     IsPartialOf             made of these lines by adding and merging
--     MergedInAnyOrder        partials merged in any order give the group of all lines
use Rattle.std.specs.Prelude.{◌≡◌, ℕ, ◌+◌, ℤ, pos, ◌+ℤ◌, Bool, true, List, ◌++◌, length, Option, Some, None, Result, IsPermutation}
use Rattle.frame_core.specs.declared.cell.Cell.{Cell}
use Rattle.frame_core.specs.declared.cell.Cell.TheVariants as cells
use Rattle.frame_core.specs.declared.refusal.Refusal.{Refusal}
use Rattle.expr_clause.specs.declared.clause.Agg.{Agg}
use Rattle.expr_clause.specs.declared.clause.Agg.TheVariants as aggs
use Rattle.expr_clause.specs.Cells.{cell_cmp, falling_cmp, number, if_whole}
use Rattle.expr_clause.specs.Groups.{Line, best_there, group}
use Rattle.group_clause.specs.Tallies.{Tallying, kept, merge, finish}

-- the sum of the numbers in cells, the least and the greatest of the cells, and how many there are
pub record Tally : Type 0 where
  pub sum : ℤ
  pub least : Option Cell
  pub greatest : Option Cell
  pub count : ℕ

-- the tally of no cell
abbrev pub no_tally : Tally
no_tally = record { sum = pos 0; least = None; greatest = None; count = 0 }

-- the tally of one cell
abbrev pub tally_of : Cell → Tally
tally_of c = record { sum = number c; least = Some c; greatest = Some c; count = 1 }

-- the tally of the cells of both
abbrev pub join_tallies : Tally → Tally → Tally
join_tallies a b = record {
  sum = a.sum +ℤ b.sum;
  least = best_there cell_cmp a.least b.least;
  greatest = best_there falling_cmp a.greatest b.greatest;
  count = a.count + b.count;
}

-- what an aggregator makes of a tally, if a sum is an i64
abbrev pub tally_makes : Agg → Tally → Option Cell
tally_makes aggs.Sum t = if_whole t.sum
tally_makes aggs.Count t = Some (cells.Int (pos t.count))
tally_makes aggs.Min t = t.least
tally_makes aggs.Max t = t.greatest

abbrev pub tallies : Tallying Tally
tallies = record { zero = no_tally; one = tally_of; join = join_tallies; made = tally_makes }

-- each aggregator can be told from a tally
abbrev pub any_agg : Agg → Bool
any_agg a = true

-- how many lines were added, and for each key, ascending, a tally for each output
pub record Partial : Type 0 where
  pub rows : ℕ
  pub groups : List (Cell × List Tally)

-- what is kept of these lines
abbrev pub partial_of : List Line → Partial
partial_of lines = record { rows = length lines; groups = kept tallies lines }

-- what is kept of the lines of both
abbrev pub merge_partials : Partial → Partial → Partial
merge_partials a b = record { rows = a.rows + b.rows; groups = merge tallies a.groups b.groups }

-- each key with its outputs, or the least group of which a sum overflows
abbrev pub finish_partial : ℕ → List Agg → Partial → Result (List Line) Refusal
finish_partial clause list p = finish tallies clause list p.groups

-- made of these lines by adding and merging
pub data IsPartialOf : List Line → Partial → Type 0 where
  added : (lines : List Line) → IsPartialOf lines (partial_of lines)
  merged : (xs ys : List Line) (p q : Partial) → IsPartialOf xs p → IsPartialOf ys q → IsPartialOf (xs ++ ys) (merge_partials p q)

-- the lines of two parts
abbrev pub PartialsMerge : Type 0
PartialsMerge = (xs ys : List Line) → partial_of (xs ++ ys) ≡ merge_partials (partial_of xs) (partial_of ys)

-- partials merged in any order give the group of all lines
abbrev pub MergedInAnyOrder : Type 0
MergedInAnyOrder = (all lines : List Line) (p : Partial) → IsPartialOf lines p → IsPermutation all lines →
    (clause : ℕ) (list : List Agg) → finish_partial clause list p ≡ group clause list all
