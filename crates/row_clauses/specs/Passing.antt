-- What clauses make of a row, as the code tells it.
--     told, outcome       of a clause, and of a run
--     IsStepped, IsPassed     it is what a clause makes of the row, and what a run does
use Rattle.std.specs.Prelude.{◌≡◌, ℕ, ◌<◌, List, length, map, Option, Some, None, Result, Ok, Err}
use Rattle.std.specs.List.{AllByRecursion}
use Rattle.frame_core.specs.declared.cell.CellRef.{CellRef}
use Rattle.frame_core.specs.Schemas.{Head}
use Rattle.frame_core.specs.Frames.{Row, Frame}
use Rattle.expr_clause.specs.declared.clause.Clause.{Clause}
use Rattle.expr_clause.specs.Typing.{clause_columns}
use Rattle.expr_clause.specs.Asking.{step, pass}
use Rattle.row_clauses.specs.declared.passing.Step.{Step}
use Rattle.row_clauses.specs.declared.passing.Step.TheVariants as steps
use Rattle.row_clauses.specs.declared.passing.Passed.{Passed}
use Rattle.row_clauses.specs.declared.passing.Passed.TheVariants as ways
use Rattle.row_clauses.specs.Lying.{AreTyped, row_at, cells_at, row_lying, spot, lay, count_after, spots_of, lay_all, places_from}

-- what a clause makes of a row, which is this one if it goes on
abbrev pub told : Step → Row → Option (Option Row)
told steps.GoesOn row = Some (Some row)
told steps.Ends row = Some None
told steps.Overflows row = None

-- what a run makes of a row, which is this one if it comes through
abbrev pub outcome : Passed → Row → Result (Option Row) ℕ
outcome ways.Through row = Ok (Some row)
outcome ways.Ended row = Ok None
outcome (ways.Overflows clause) row = Err clause

-- the step is the clause's, where the columns lie at these places
pub record IsStep (c : Clause) (columns : List Head) (places : List ℕ) (f : Frame) (row : ℕ) (old new : List CellRef) (done : Step) : Type 0 where
  pub is : told done (row_lying f row new (lay c columns places (length (cells_at f row old)))) ≡ step c columns (row_lying f row old places)
  pub grown : done ≡ steps.GoesOn → length (cells_at f row new) ≡ count_after c (length (cells_at f row old))

-- so wherever the columns lie, if the clause finds what it names
abbrev pub IsStepped : Clause → List (Option ℕ) → Frame → ℕ → List CellRef → List CellRef → Step → Type 0
IsStepped c spots f row old new done = (columns : List Head) (places : List ℕ) → spots ≡ map (spot columns places) (clause_columns c)
    → AllByRecursion (λ place. place < length (cells_at f row old)) places → IsStep c columns places f row old new done

-- what a run of clauses, the first of which is clause n, makes of a frame's row; the clauses find what they name
abbrev pub IsPassed : ℕ → List Clause → List (List (Option ℕ)) → Frame → ℕ → List CellRef → Passed → Type 0
IsPassed n run spots f row made passed =
    spots ≡ spots_of f.schema (places_from 0 (length f.schema.columns)) (length f.schema.columns) run → AreTyped f.schema.columns (row_at f row).cells
    → outcome passed (row_lying f row made (lay_all f.schema (places_from 0 (length f.schema.columns)) (length f.schema.columns) run)) ≡ pass n f.schema run (row_at f row)
