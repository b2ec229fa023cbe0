-- A run of slots has each row and each cell of its rows.
use Rattle.std.proofs.Common.{◌≡◌, ℕ, ◌+◌, ◌<◌, ◌≤◌, true, false, List, [], ◌∷◌, arith, inl, inr}
use Rattle.std.specs.List.{list_any}
use Rattle.std.proofs.lemmas.Bool.{cases_lt, le-leb, lt-ltb, and_from, or_left, or_right}
use Rattle.frame_core.specs.declared.part.Part.{Part}
use Rattle.segment_cut.specs.Tiles.{has_row, has_cell}
use Rattle.index_tree.specs.declared.index.Slot.{Slot}
use Rattle.index_tree.specs.IndexRules.{LeadOn}
use Rattle.frame_write.specs.Pieces.{begin_of, end_of, IsRun}

pub row_in : (part : Part) (row : ℕ) → part.first_row ≤ row → row < part.first_row + part.rows → has_row part row ≡ true
row_in part row low high = and_from _ _ (le-leb part.first_row row low) (lt-ltb row (part.first_row + part.rows) high)

pub cell_in : (part : Part) (row column : ℕ) → part.first_row ≤ row → row < part.first_row + part.rows → part.first_col ≤ column → column < part.first_col + part.cols → has_cell part row column ≡ true
cell_in part row column low high left right =
    and_from _ _ (and_from _ _ (row_in part row low high) (le-leb part.first_col column left)) (lt-ltb column (part.first_col + part.cols) right)

-- from a slot on, each cell of the rows up to the last; of the slot's own rows those from its first column on
cells_from : (last columns : ℕ) (s : Slot) (more : List Slot) → LeadOn last columns s more → (row column : ℕ) → s.part.first_row ≤ row → row < last → column < columns
    → (row < s.part.first_row + s.part.rows → s.part.first_col ≤ column) → list_any (λ (t : Slot). has_cell t.part row column) (s ∷ more) ≡ true
cells_from last columns s [] lead row column low high inside right =
    let here : row < s.part.first_row + s.part.rows = omega (arith, lead.0, high) in
    let left = right here in
    or_left (has_cell s.part row column) false (cell_in s.part row column low here left (omega (arith, lead.1, inside)))
cells_from last columns s (t ∷ more) lead row column low high inside right =
    let rest = cells_from last columns t more lead.1 row column in
    let later = or_right (has_cell s.part row column) (list_any (λ (u : Slot). has_cell u.part row column) (t ∷ more)) in
    elim (cases_lt row (s.part.first_row + s.part.rows)) [
      | inl here ↦ elim (cases_lt column (s.part.first_col + s.part.cols)) [
        | inl there ↦ or_left (has_cell s.part row column) (list_any (λ (u : Slot). has_cell u.part row column) (t ∷ more)) (cell_in s.part row column low here (right here) there)
        | inr beyond ↦ elim lead.0 [
          | inl same ↦ later (rest (omega (arith, same.first_row, low)) high inside (λ k. omega (arith, same.first_col, beyond)))
          | inr block ↦ absurd (omega (arith, block.whole, beyond, inside))
        ]
      ]
      | inr behind ↦ elim lead.0 [
        | inl same ↦ later (rest (omega (arith, same.first_row, low)) high inside (λ k. absurd (omega (arith, same.first_row, same.rows, behind, k))))
        | inr block ↦ later (rest (omega (arith, block.first_row, behind)) high inside (λ k. omega (arith, block.first_col)))
      ]
    ]

-- and each row
rows_from : (last columns : ℕ) (s : Slot) (more : List Slot) → LeadOn last columns s more → (row : ℕ) → s.part.first_row ≤ row → row < last → list_any (λ (t : Slot). has_row t.part row) (s ∷ more) ≡ true
rows_from last columns s [] lead row low high = or_left (has_row s.part row) false (row_in s.part row low (omega (arith, lead.0, high)))
rows_from last columns s (t ∷ more) lead row low high =
    let later = or_right (has_row s.part row) (list_any (λ (u : Slot). has_row u.part row) (t ∷ more)) in
    elim (cases_lt row (s.part.first_row + s.part.rows)) [
      | inl here ↦ or_left (has_row s.part row) (list_any (λ (u : Slot). has_row u.part row) (t ∷ more)) (row_in s.part row low here)
      | inr behind ↦ later (rows_from last columns t more lead.1 row (elim lead.0 [ inl same ↦ omega (arith, same.first_row, low) | inr block ↦ omega (arith, block.first_row, behind) ]) high)
    ]

-- each cell of a run's rows is in one of its slots
pub run_has_cell : (columns : ℕ) (slots : List Slot) → IsRun columns slots → (row column : ℕ) → begin_of slots ≤ row → row < end_of slots → column < columns → list_any (λ (s : Slot). has_cell s.part row column) slots ≡ true
run_has_cell columns [] run row column low high inside = absurd (omega (arith, high))
run_has_cell columns (s ∷ more) run row column low high inside = cells_from (end_of (s ∷ more)) columns s more run.1 row column low high inside (λ here. omega (arith, run.0))

-- and each row
pub run_has_row : (columns : ℕ) (slots : List Slot) → IsRun columns slots → (row : ℕ) → begin_of slots ≤ row → row < end_of slots → list_any (λ (s : Slot). has_row s.part row) slots ≡ true
run_has_row columns [] run row low high = absurd (omega (arith, high))
run_has_row columns (s ∷ more) run row low high = rows_from (end_of (s ∷ more)) columns s more run.1 row low high
