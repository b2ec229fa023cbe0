-- Groups: keyed lines, and what each key's lines come to.
--     Line                    a key, and a cell for each output
--     aggregate               what an aggregator makes of cells, if a sum is an i64
--     keys, cells_with        the distinct keys, ascending; the cells of a key's lines
--     group                   for each key its outputs, or the least group whose sum overflows
use Rattle.std.specs.Prelude.{ℕ, ◌+◌, ℤ, pos, ◌+ℤ◌, if◌then◌else◌, List, [], ◌∷◌, map, filter, filter_map, length, drop, slice_get, Option, Some, None, option_map, option_and_then, Result, Ok, Err}
use Rattle.std.specs.declared.cmp.Ordering.{Ordering}
use Rattle.std.specs.declared.cmp.Ordering.TheVariants.{Less, Equal, Greater}
use Rattle.std.specs.Ordering.{is_gt}
use Rattle.frame_core.specs.declared.cell.Cell.{Cell}
use Rattle.frame_core.specs.declared.cell.Cell.TheVariants as cells
use Rattle.frame_core.specs.declared.refusal.Refusal.{Refusal}
use Rattle.frame_core.specs.declared.refusal.Refusal.TheVariants as refusals
use Rattle.frame_core.specs.Selecting.{then_map}
use Rattle.expr_clause.specs.declared.clause.Agg.{Agg}
use Rattle.expr_clause.specs.declared.clause.Agg.TheVariants as aggs
use Rattle.expr_clause.specs.Cells.{cell_cmp, falling_cmp, same_cell, number, if_whole}

-- ---- aggregates

-- the sum of the numbers in these cells
abbrev pub sum_of : List Cell → ℤ
sum_of [] = pos 0
sum_of (c ∷ more) = number c +ℤ sum_of more

-- the first of two cells in an order
abbrev pub best : (Cell → Cell → Ordering) → Cell → Cell → Cell
best order a b = if is_gt (order a b) then b else a

-- the first of those that are there
abbrev pub best_there : (Cell → Cell → Ordering) → Option Cell → Option Cell → Option Cell
best_there order None b = b
best_there order (Some a) None = Some a
best_there order (Some a) (Some b) = Some (best order a b)

-- the first of these cells in an order, if there is one
abbrev pub best_of : (Cell → Cell → Ordering) → List Cell → Option Cell
best_of order [] = None
best_of order (c ∷ more) = best_there order (Some c) (best_of order more)

-- what an aggregator makes of the cells of a group, of which there is one at least; None where the sum is outside i64
abbrev pub aggregate : Agg → List Cell → Option Cell
aggregate aggs.Sum list = if_whole (sum_of list)
aggregate aggs.Count list = Some (cells.Int (pos (length list)))
aggregate aggs.Min list = best_of cell_cmp list
aggregate aggs.Max list = best_of falling_cmp list

-- ---- groups

-- a row as a group takes it: its key, and a cell for each output
abbrev pub Line : Type 0
Line = Cell × List Cell

-- a key at its place among ascending keys, once
abbrev pub insert_key : Cell → List Cell → List Cell
insert_key k [] = k ∷ []
insert_key k (m ∷ more) = elim (cell_cmp k m) [ Less ↦ k ∷ m ∷ more | Equal ↦ m ∷ more | Greater ↦ m ∷ insert_key k more ]

-- the distinct keys, ascending
abbrev pub keys : List Line → List Cell
keys [] = []
keys (line ∷ lines) = insert_key line.0 (keys lines)

-- the cells of the lines with this key
abbrev pub cells_with : Cell → List Line → List (List Cell)
cells_with k lines = map (λ line. line.1) (filter (λ line. same_cell k line.0) lines)

-- each aggregator over its column
abbrev pub outputs : List Agg → List (List Cell) → Option (List Cell)
outputs [] lines = Some []
outputs (a ∷ more) lines = option_and_then (λ c. option_map (λ cs. c ∷ cs) (outputs more (map (drop 1) lines))) (aggregate a (filter_map (λ cs. slice_get cs 0) lines))

-- each key with its outputs, or the least group, from n, of which a sum overflows
abbrev pub groups_from : ℕ → ℕ → List Agg → List Line → List Cell → Result (List Line) Refusal
groups_from clause n list lines [] = Ok []
groups_from clause n list lines (k ∷ ks) =
    elim (outputs list (cells_with k lines)) [
      | None ↦ Err (refusals.GroupOverflow clause n)
      | Some cs ↦ then_map (λ more. (k, cs) ∷ more) (groups_from clause (n + 1) list lines ks)
    ]

-- for each key, ascending, its outputs, or the least group of which a sum overflows
abbrev pub group : ℕ → List Agg → List Line → Result (List Line) Refusal
group clause list lines = groups_from clause 1 list lines (keys lines)
