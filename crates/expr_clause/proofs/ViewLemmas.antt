-- The columns and cells of a viewed segment.
use Rattle.std.proofs.Common.{◌≡◌, ℕ, zero, suc, ◌+◌, ◌<◌, Bool, true, false, cond, List, [], ◌∷◌, length, drop, Option, Some, None, refl, sym, ap, ◌∙◌, arith, add-one}
use Rattle.std.specs.Prelude.{slice_get, option_map, option_and_then, unwrap_or}
use Rattle.std.specs.List.{position_from}
use Rattle.std.proofs.lemmas.Option.{slice_get_within}
use Rattle.frame_core.specs.declared.cell.Cell.{Cell}
use Rattle.frame_core.specs.Texts.{Text, same_text}
use Rattle.frame_core.specs.Schemas.{Head}
use Rattle.frame_core.specs.Frames.{Row, Frame, cell_at}
use Rattle.frame_core.specs.Selecting.{place_of}
use Rattle.frame_core.proofs.SelectLemmas.{place_is}
use Rattle.expr_clause.specs.Cells.{no_cell}
use Rattle.expr_clause.specs.Exprs.{cell_named}
use Rattle.expr_clause.specs.Viewed.{row_cells}

-- the name of the column at a place
abbrev pub name_at : ℕ → List Head → Text
name_at k columns = unwrap_or (option_map (λ (c : Head). c.0) (slice_get columns k)) []

abbrev pub named : Text → Head → Bool
named name c = same_text name c.0

-- the columns from a place on have the place of a name: this one, or that of the columns behind it
pub from_place : (name : Text) (columns : List Head) (k n : ℕ) → k < length columns
    → position_from (named name) n (drop k columns) ≡ cond (same_text name (name_at k columns)) (Some n) (position_from (named name) (n + 1) (drop (suc k) columns))
from_place name [] k n lt = absurd (omega (arith, lt))
from_place name (h ∷ hs) zero n lt = refl
from_place name (h ∷ hs) (suc k) n lt = from_place name hs k n (omega (arith, lt))

-- it is this place
pub found_place : (name : Text) (columns : List Head) (k : ℕ) (same : Bool) → k < length columns → same ≡ same_text name (name_at k columns) → same ≡ true
    → position_from (named name) k (drop k columns) ≡ place_of name columns → Some k ≡ place_of name columns
found_place name columns k same lt is holds kept =
    sym (from_place name columns k k lt ∙ ap (λ b. cond b (Some k) (position_from (named name) (k + 1) (drop (suc k) columns))) (sym is ∙ holds)) ∙ kept

-- it is not, and those behind it have the place
pub later_place : (name : Text) (columns : List Head) (k : ℕ) (same : Bool) → k < length columns → same ≡ same_text name (name_at k columns) → same ≡ false
    → position_from (named name) k (drop k columns) ≡ place_of name columns → position_from (named name) (k + 1) (drop (k + 1) columns) ≡ place_of name columns
later_place name columns k same lt is fails kept =
    ap (λ m. position_from (named name) (k + 1) (drop m columns)) (add-one k)
    ∙ sym (from_place name columns k k lt ∙ ap (λ b. cond b (Some k) (position_from (named name) (k + 1) (drop (suc k) columns))) (sym is ∙ fails)) ∙ kept

-- a column that has a place is one of the columns
pub place_within : (name : Text) (columns : List Head) (k : ℕ) → place_of name columns ≡ Some k → k < length columns
place_within name columns k e = let found = place_is name columns k e in slice_get_within columns k found.0 found.1

-- the cell of a row at a column is that of the row's cells
pub cell_of_row : (f : Frame) (row column : ℕ) (cell : Cell) → cell_at f row column ≡ Some cell → slice_get (row_cells f row) column ≡ Some cell
cell_of_row f row column cell e = by (slice_get f.rows row) e
  where
    by : (o : Option Row) → option_and_then (λ (r : Row). slice_get r.cells column) o ≡ Some cell → slice_get (unwrap_or (option_map (λ (r : Row). r.cells) o) []) column ≡ Some cell
    by None d = absurd cc
    by (Some r) d = d

-- and it is the cell of the column's name
pub cell_is_named : (f : Frame) (row : ℕ) (name : Text) (place : Option ℕ) (column : ℕ) (cell : Cell) → place ≡ place_of name f.schema.columns → place ≡ Some column
    → cell_at f row column ≡ Some cell → cell ≡ cell_named f.schema.columns (row_cells f row) name
cell_is_named f row name place column cell is at e =
    sym (ap (λ (o : Option ℕ). unwrap_or (option_and_then (slice_get (row_cells f row)) o) no_cell) (sym is ∙ at) ∙ ap (λ (o : Option Cell). unwrap_or o no_cell) (cell_of_row f row column cell e))

pub no_place_named : (f : Frame) (row : ℕ) (name : Text) (place : Option ℕ) → place ≡ place_of name f.schema.columns → place ≡ None
    → no_cell ≡ cell_named f.schema.columns (row_cells f row) name
no_place_named f row name place is at = sym (ap (λ (o : Option ℕ). unwrap_or (option_and_then (slice_get (row_cells f row)) o) no_cell) (sym is ∙ at))
