-- Two parts that are made one from the front.
--     first_cmp               which part has the lesser first key
--     TakesFirst              the first group of what two parts hold was taken out
--     TakesJoined             the first of the values of both was taken out
use Rattle.std.specs.Prelude.{◌≡◌, ◌+◌, ◌<◌, List, [], ◌∷◌, length, Option, MatchOption}
use Rattle.std.specs.declared.cmp.Ordering.{Ordering}
use Rattle.std.specs.declared.cmp.Ordering.TheVariants.{Less, Greater}
use Rattle.frame_core.specs.declared.cell.Cell.{Cell}
use Rattle.expr_clause.specs.Cells.{cell_cmp}
use Rattle.group_clause.specs.Tallies.{join_lists, merge}
use Rattle.group_clause.specs.Partials.{Tally, join_tallies, tallies}

abbrev pub Groups : Type 0
Groups = List (Cell × List Tally)

-- the order of the first keys; a part without groups comes last
abbrev pub first_cmp : Groups → Groups → Ordering
first_cmp [] b = Greater
first_cmp (g ∷ a) [] = Less
first_cmp (g ∷ a) (h ∷ b) = cell_cmp g.0 h.0

-- of what a and b hold, the first was taken, and c and d hold the others, which are fewer
abbrev pub TakesFirst : Groups → Groups → Option (Cell × List Tally) → Groups → Groups → Type 0
TakesFirst a b next c d = MatchOption next (merge tallies a b ≡ []) (λ g. (merge tallies a b ≡ g ∷ merge tallies c d) × (length c + length d < length a + length b))

-- the same of tallies, output by output
abbrev pub TakesJoined : List Tally → List Tally → Option Tally → List Tally → List Tally → Type 0
TakesJoined a b next c d = MatchOption next (join_lists join_tallies a b ≡ []) (λ t. (join_lists join_tallies a b ≡ t ∷ join_lists join_tallies c d) × (length c + length d < length a + length b))
