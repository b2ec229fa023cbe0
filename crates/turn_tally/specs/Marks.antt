-- Words about marks.
-- mark_of: one mark. marks_by: those of one seat. made, marks: what a seat adds. total_of: the sum of all amounts.
use Rattle.std.specs.Prelude.{ℕ, Bool, List, [], ◌∷◌, Option, None, if◌then◌else◌, map, sum_by}
use Rattle.turn_cell.specs.Entries.{entries_by}
use Rattle.turn_tally.specs.declared.mark.Mark.{Mark}

-- the mark of the seat n
abbrev pub mark_of : ℕ → Option ℕ → ℕ → Mark
mark_of n row amount = record { by = n; row = row; amount = amount }

-- the marks of the seat n, in order
abbrev pub marks_by : ℕ → List Mark → List Mark
marks_by n log = entries_by (λ (e : Mark). e.by) n log

-- the mark that was made, if one was
abbrev pub made : Bool → ℕ → Option ℕ → ℕ → List Mark
made done n row amount = if done then mark_of n row amount ∷ [] else []

-- a mark without a row for each amount
abbrev pub marks : ℕ → List ℕ → List Mark
marks n amounts = map (mark_of n None) amounts

-- the sum of all amounts
abbrev pub total_of : List Mark → ℕ
total_of log = sum_by (λ (e : Mark). e.amount) log
