-- Rows that are made of groups.
--     TallyFits, TalliesFit   of a tally its aggregator makes a cell of this type; the same of each output
--     GroupFits               of a group the aggregators make a row of these columns
--     GivesRows               the rows of groups, or the first group of which a sum overflows
use Rattle.std.specs.Prelude.{◌≡◌, ℕ, ⊤, List, [], ◌∷◌, map, Option, Some, None, IfSome, Ok, Err}
use Rattle.frame_core.specs.declared.cell.ColType.{ColType}
use Rattle.frame_core.specs.declared.cell.ColType.TheVariants as types
use Rattle.frame_core.specs.declared.cell.Cell.{Cell}
use Rattle.frame_core.specs.declared.refusal.Refusal.TheVariants as refusals
use Rattle.frame_core.specs.Schemas.{Head}
use Rattle.frame_core.specs.Frames.{Row, type_of}
use Rattle.frame_core.specs.Selecting.{then_map}
use Rattle.expr_clause.specs.declared.clause.Agg.{Agg}
use Rattle.expr_clause.specs.declared.clause.Agg.TheVariants as aggs
use Rattle.expr_clause.specs.Asking.{group_row}
use Rattle.group_clause.specs.Tallies.{finish}
use Rattle.group_clause.specs.Partials.{Tally, tallies}

-- what the aggregator makes of a tally is of this type
abbrev pub TallyFits : ColType → Agg → Tally → Type 0
TallyFits kind aggs.Sum t = kind ≡ types.Int
TallyFits kind aggs.Count t = kind ≡ types.Int
TallyFits kind aggs.Min t = IfSome t.least (λ c. type_of c ≡ kind)
TallyFits kind aggs.Max t = IfSome t.greatest (λ c. type_of c ≡ kind)

-- each output's tally fits its column
abbrev pub TalliesFit : List Head → List Agg → List Tally → Type 0
TalliesFit [] [] [] = ⊤
TalliesFit (h ∷ heads) (a ∷ list) (t ∷ ts) = TallyFits h.1 a t × TalliesFit heads list ts
TalliesFit _ _ _ = ⊥

-- the key is of the first column's type, and the tallies fit the columns behind it
abbrev pub GroupFits : List Head → List Agg → Cell × List Tally → Type 0
GroupFits [] list g = ⊥
GroupFits (h ∷ heads) list g = (type_of g.0 ≡ h.1) × TalliesFit heads list g.1

-- these are the rows of the groups, or this group is the first of which a sum overflows
abbrev pub GivesRows : List Agg → List (Cell × List Tally) → List Row → Option ℕ → Type 0
GivesRows list groups rows None = (clause : ℕ) → then_map (map group_row) (finish tallies clause list groups) ≡ Ok rows
GivesRows list groups rows (Some n) = (clause : ℕ) → finish tallies clause list groups ≡ Err (refusals.GroupOverflow clause n)
