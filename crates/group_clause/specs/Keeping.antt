-- What a partial group keeps in memory.
--     order_of                the order in which the least or the greatest cell stands first
--     Rises                   keys that ascend, none twice
--     IsTally, AreTallies     a tally of so many lines at most; those of all groups
--     IsPart                  groups that are to be merged
--     IsKeeping               what each partial keeps
use Rattle.std.specs.Prelude.{◌≡◌, ℕ, ◌*◌, ◌^◌, ◌≤◌, pos, neg_ℤ, ◌≤ℤ◌, ⊤, List, [], ◌∷◌, map}
use Rattle.std.specs.List.{AllByRecursion}
use Rattle.std.specs.declared.cmp.Ordering.{Ordering}
use Rattle.std.specs.declared.cmp.Ordering.TheVariants.{Less}
use Rattle.frame_core.specs.declared.cell.Cell.{Cell}
use Rattle.expr_clause.specs.Cells.{cell_cmp, falling_cmp}
use Rattle.group_clause.specs.declared.tally.Extreme.{Extreme}
use Rattle.group_clause.specs.declared.tally.Extreme.TheVariants as extremes
use Rattle.group_clause.specs.Partials.{Tally}

-- the order in which the cell that is looked for stands first
abbrev pub order_of : Extreme → Cell → Cell → Ordering
order_of extremes.Least = cell_cmp
order_of extremes.Greatest = falling_cmp

-- each key stands before those behind it
abbrev pub Rises : List Cell → Type 0
Rises [] = ⊤
Rises (m ∷ ms) = AllByRecursion (λ x. cell_cmp m x ≡ Less) ms × Rises ms

-- the cells of at most so many lines: their sum has no more than as many numbers of 64 bits
pub record IsTally (rows : ℕ) (t : Tally) : Type 0 where
  pub few : t.count ≤ rows
  pub above : neg_ℤ (pos (2 ^ 63 * t.count)) ≤ℤ t.sum
  pub below : t.sum ≤ℤ pos (2 ^ 63 * t.count)

-- the tallies of each group are of at most so many lines
abbrev pub AreTallies : ℕ → List (Cell × List Tally) → Type 0
AreTallies rows groups = AllByRecursion (λ (g : Cell × List Tally). AllByRecursion (IsTally rows) g.1) groups

-- groups that are to be merged: their keys ascend, and none has more than 2^62 lines
pub record IsPart (groups : List (Cell × List Tally)) : Type 0 where
  pub rising : Rises (map (λ (g : Cell × List Tally). g.0) groups)
  pub tallies : AreTallies (2 ^ 62) groups

-- the keys ascend, and there are at most 2^62 lines
pub record IsKeeping (rows : ℕ) (groups : List (Cell × List Tally)) : Type 0 where
  pub few : rows ≤ 2 ^ 62
  pub rising : Rises (map (λ (g : Cell × List Tally). g.0) groups)
  pub tallies : AreTallies rows groups
