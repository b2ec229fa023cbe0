-- The end of a group: its lines as a frame.
--     group_frame             the group of lines as a frame, or the least group of which a sum overflows
--     LineFits                a line of which the aggregators make a row of these columns
--     HoldsLines              a partial of lines of which something holds
--     GivesGroupOf            an answer is the group of the lines that were added, in whichever order
use Rattle.std.specs.Prelude.{◌≡◌, ℕ, ⊤, List, [], ◌∷◌, map, Some, Result, IsPermutation}
use Rattle.std.specs.List.{AllByRecursion}
use Rattle.frame_core.specs.declared.cell.Cell.{Cell}
use Rattle.frame_core.specs.declared.refusal.Refusal.{Refusal}
use Rattle.frame_core.specs.Schemas.{Head, Schema}
use Rattle.frame_core.specs.Frames.{Frame, type_of}
use Rattle.frame_core.specs.Refusals.{Answers}
use Rattle.frame_core.specs.Selecting.{then_map}
use Rattle.expr_clause.specs.declared.clause.Agg.{Agg}
use Rattle.expr_clause.specs.Typing.{agg_type}
use Rattle.expr_clause.specs.Groups.{Line, group}
use Rattle.expr_clause.specs.Asking.{group_row}
use Rattle.group_clause.specs.Partials.{Partial, IsPartialOf}

-- the group of lines as a frame of this schema
abbrev pub group_frame : ℕ → Schema → List Agg → List Line → Result Frame Refusal
group_frame clause schema list lines = then_map (λ done. record { schema = schema; rows = map group_row done }) (group clause list lines)

-- of each output's cell its aggregator makes one of the type of its column
abbrev pub OutsFit : List Head → List Agg → List Cell → Type 0
OutsFit [] [] [] = ⊤
OutsFit (h ∷ heads) (a ∷ list) (c ∷ cs) = (agg_type a (type_of c) ≡ Some h.1) × OutsFit heads list cs
OutsFit _ _ _ = ⊥

-- the key is of the first column's type, and the outputs fit the columns behind it
abbrev pub LineFits : List Head → List Agg → Line → Type 0
LineFits [] list line = ⊥
LineFits (h ∷ heads) list line = (type_of line.0 ≡ h.1) × OutsFit heads list line.1

-- a partial of lines of which something holds
pub record HoldsLines (fits : Line → Type 0) (p : Partial) : Type 0 where
  pub lines : List Line
  pub is : IsPartialOf lines p
  pub fit : AllByRecursion fits lines

-- the group of the lines that were added, in whichever order, or want of memory
abbrev pub GivesGroupOf : ℕ → Schema → List Agg → Partial → Result Frame Refusal → Type 0
GivesGroupOf clause schema list p result = (all lines : List Line) → IsPartialOf lines p → IsPermutation all lines → Answers result (group_frame clause schema list all)
