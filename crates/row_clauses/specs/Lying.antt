-- A row on its way through a run: the cells of the frame's row, with the computed ones behind them, among which its columns lie at places.
--     AreTyped            cells are of their columns' types
--     row_at, cells_at    the row of a frame; its cells with the computed ones
--     cell_in, lying      the cell at a place; the cells at these places
--     row_lying           the row whose columns lie at these places
--     spot, operand       where the column of a name lies, and the cell there
--     lay, count_after    where the columns lie after a clause, and how many cells there are
--     spots_of, lay_all   where each clause finds what it names, and where the columns lie at the end
--     places_from         so many places, one after another
use Rattle.std.specs.Prelude.{◌≡◌, ℕ, zero, suc, ◌+◌, pos, List, [], ◌∷◌, ◌++◌, map, slice_get, Option, option_and_then, unwrap_or}
use Rattle.std.specs.List.{AllZip}
use Rattle.frame_core.specs.declared.cell.Cell.{Cell}
use Rattle.frame_core.specs.declared.cell.CellRef.{CellRef}
use Rattle.frame_core.specs.Texts.{Text}
use Rattle.frame_core.specs.Schemas.{Head, Schema}
use Rattle.frame_core.specs.Frames.{Row, Frame, type_of, cell_of}
use Rattle.frame_core.specs.Selecting.{place_of}
use Rattle.expr_clause.specs.declared.clause.Clause.{Clause}
use Rattle.expr_clause.specs.declared.clause.Clause.TheVariants as clauses
use Rattle.expr_clause.specs.Cells.{no_cell}
use Rattle.expr_clause.specs.Typing.{clause_columns, put_at, after}

-- cells are of their columns' types, and as many
abbrev pub AreTyped : List Head → List Cell → Type 0
AreTyped columns row = AllZip (λ (c : Head) cell. type_of cell ≡ c.1) columns row

-- the row of a frame, counted from 0
abbrev pub row_at : Frame → ℕ → Row
row_at f row = unwrap_or (slice_get f.rows row) (record { stamp = pos 0; cells = [] })

-- the cells of a frame's row, and behind them the computed ones
abbrev pub cells_at : Frame → ℕ → List CellRef → List Cell
cells_at f row made = (row_at f row).cells ++ map cell_of made

-- the cell at a place
abbrev pub cell_in : List Cell → ℕ → Cell
cell_in cells place = unwrap_or (slice_get cells place) no_cell

-- the cells at these places
abbrev pub lying : List Cell → List ℕ → List Cell
lying cells places = map (cell_in cells) places

-- the row whose columns lie at these places
abbrev pub row_lying : Frame → ℕ → List CellRef → List ℕ → Row
row_lying f row made places = record { stamp = (row_at f row).stamp; cells = lying (cells_at f row made) places }

-- where the column of a name lies, these columns lying at those places
abbrev pub spot : List Head → List ℕ → Text → Option ℕ
spot columns places name = option_and_then (slice_get places) (place_of name columns)

-- the cell that lies there
abbrev pub operand : List Cell → Option ℕ → Cell
operand cells place = unwrap_or (option_and_then (slice_get cells) place) no_cell

-- where the columns lie after a clause, a computed cell having the place `next`
abbrev pub lay : Clause → List Head → List ℕ → ℕ → List ℕ
lay (clauses.Apply name e) columns places next = put_at (place_of name columns) next places
lay _ columns places next = places

-- how many cells there are after a clause
abbrev pub count_after : Clause → ℕ → ℕ
count_after (clauses.Apply name e) next = next + 1
count_after _ next = next

-- where each clause finds what it names
abbrev pub spots_of : Schema → List ℕ → ℕ → List Clause → List (List (Option ℕ))
spots_of s places next [] = []
spots_of s places next (c ∷ cs) = map (spot s.columns places) (clause_columns c) ∷ spots_of (after c s) (lay c s.columns places next) (count_after c next) cs

-- where the columns lie at the end
abbrev pub lay_all : Schema → List ℕ → ℕ → List Clause → List ℕ
lay_all s places next [] = places
lay_all s places next (c ∷ cs) = lay_all (after c s) (lay c s.columns places next) (count_after c next) cs

-- so many places, one after another, from `place` on
abbrev pub places_from : ℕ → ℕ → List ℕ
places_from place zero = []
places_from place (suc n) = place ∷ places_from (place + 1) n
