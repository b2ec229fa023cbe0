-- Tallies by key: how a group is made part by part. A tally stands for the cells of one output in some lines.
--     Tallying                what a tally is: of one cell, of none, of two parts, and what an aggregator makes of it
--     kept                    for each key of the lines, ascending, its tallies
--     merge                   the tallies of two parts
--     finish                  each key with its outputs, or the least group whose sum overflows
--     IsSound                 what must hold of a tallying
--     PartsMerge, AnyOrder, GivesGroup      what then holds of parts, and of what is finished
use Rattle.std.specs.Prelude.{◌≡◌, ℕ, ◌+◌, Bool, true, List, [], ◌∷◌, ◌++◌, map, drop, IsPermutation, Option, Some, None, option_map, option_and_then, Result, Ok, Err}
use Rattle.std.specs.List.{list_all}
use Rattle.std.specs.declared.cmp.Ordering.{Ordering}
use Rattle.std.specs.declared.cmp.Ordering.TheVariants.{Less, Equal, Greater}
use Rattle.frame_core.specs.declared.cell.Cell.{Cell}
use Rattle.frame_core.specs.declared.refusal.Refusal.{Refusal}
use Rattle.frame_core.specs.declared.refusal.Refusal.TheVariants as refusals
use Rattle.frame_core.specs.Selecting.{then_map}
use Rattle.expr_clause.specs.declared.clause.Agg.{Agg}
use Rattle.expr_clause.specs.Cells.{cell_cmp}
use Rattle.expr_clause.specs.Groups.{Line, aggregate, group}

pub record Tallying (V : Type 0) : Type 0 where
  pub zero : V
  pub one : Cell → V
  pub join : V → V → V
  pub made : Agg → V → Option Cell

module _ {V : Type 0} (join : V → V → V) where
  -- g before h, joined with h, or after it
  abbrev pub placed : Ordering → Cell × V → Cell × V → List (Cell × V) → List (Cell × V) → List (Cell × V)
  placed Less g h more later = g ∷ h ∷ more
  placed Equal g h more later = (h.0, join g.1 h.1) ∷ more
  placed Greater g h more later = h ∷ later

  -- g at its place among ascending keys; two values of one key are joined, g's being the first
  abbrev pub insert_at : Cell × V → List (Cell × V) → List (Cell × V)
  insert_at g [] = g ∷ []
  insert_at g (h ∷ more) = placed (cell_cmp g.0 h.0) g h more (insert_at g more)

  -- what two parts hold, the first part's values standing first
  abbrev pub merge_by : List (Cell × V) → List (Cell × V) → List (Cell × V)
  merge_by [] b = b
  merge_by (g ∷ a) b = insert_at g (merge_by a b)

  -- place by place
  abbrev pub join_lists : List V → List V → List V
  join_lists [] ys = ys
  join_lists (x ∷ xs) [] = x ∷ xs
  join_lists (x ∷ xs) (y ∷ ys) = join x y ∷ join_lists xs ys

module _ {V : Type 0} (k : Tallying V) where
  -- the tallies of a line
  abbrev pub tallied : Line → Cell × List V
  tallied line = (line.0, map k.one line.1)

  -- for each key of the lines, ascending, its tallies
  abbrev pub kept : List Line → List (Cell × List V)
  kept [] = []
  kept (line ∷ lines) = insert_at (join_lists k.join) (tallied line) (kept lines)

  abbrev pub merge : List (Cell × List V) → List (Cell × List V) → List (Cell × List V)
  merge = merge_by (join_lists k.join)

  abbrev pub first_tally : List V → V
  first_tally [] = k.zero
  first_tally (v ∷ more) = v

  -- each aggregator over its tally
  abbrev pub made_all : List Agg → List V → Option (List Cell)
  made_all [] tallies = Some []
  made_all (a ∷ more) tallies = option_and_then (λ c. option_map (λ cs. c ∷ cs) (made_all more (drop 1 tallies))) (k.made a (first_tally tallies))

  abbrev pub finish_from : ℕ → ℕ → List Agg → List (Cell × List V) → Result (List Line) Refusal
  finish_from clause n list [] = Ok []
  finish_from clause n list (g ∷ more) =
      elim (made_all list g.1) [ None ↦ Err (refusals.GroupOverflow clause n) | Some cs ↦ then_map (λ rest. (g.0, cs) ∷ rest) (finish_from clause (n + 1) list more) ]

  -- each key with its outputs, or the least group of which a sum overflows
  abbrev pub finish : ℕ → List Agg → List (Cell × List V) → Result (List Line) Refusal
  finish clause = finish_from clause 1

  -- the tally of a column
  abbrev pub total : List Cell → V
  total [] = k.zero
  total (c ∷ more) = k.join (k.one c) (total more)

  -- what must hold of a tallying: it is joined in order, and gives what these aggregators make
  pub record IsSound (takes : Agg → Bool) : Type 0 where
    pub assoc : (x y z : V) → k.join (k.join x y) z ≡ k.join x (k.join y z)
    pub unit : (x : V) → k.join x k.zero ≡ x
    pub makes : (a : Agg) (list : List Cell) → takes a ≡ true → k.made a (total list) ≡ aggregate a list

  abbrev pub Commutes : Type 0
  Commutes = (x y : V) → k.join x y ≡ k.join y x

  -- lines in parts: the tallies of all are those of the parts, merged in order
  abbrev pub PartsMerge : Type 0
  PartsMerge = (xs ys : List Line) → kept (xs ++ ys) ≡ merge (kept xs) (kept ys)

  -- and in any order
  abbrev pub AnyOrder : Type 0
  AnyOrder = (xs ys : List Line) → IsPermutation xs ys → kept ys ≡ kept xs

  -- what is finished is the group of all lines
  abbrev pub GivesGroup : (Agg → Bool) → Type 0
  GivesGroup takes = (clause : ℕ) (list : List Agg) (lines : List Line) → list_all takes list ≡ true → finish clause list (kept lines) ≡ group clause list lines
