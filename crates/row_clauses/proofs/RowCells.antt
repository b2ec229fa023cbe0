-- The rows of a frame, and their cells.
use Rattle.std.proofs.Common.{◌≡◌, ℕ, zero, suc, ◌-◌, ◌<◌, ◌≤◌, ℤ, refl, ap, sym, ◌∙◌, arith, get_or, take}
use Rattle.std.specs.Prelude.{pos, List, [], ◌∷◌, ◌++◌, length, map, drop, slice_get, Option, Some, None, option_map, unwrap_or}
use Rattle.std.specs.List.{AllByRecursion}
use Rattle.frame_core.specs.declared.cell.Cell.{Cell}
use Rattle.frame_core.specs.declared.cell.CellRef.{CellRef}
use Rattle.frame_core.specs.Schemas.{Head}
use Rattle.std.proofs.lemmas.List.{length-map, length-take-le}
use Rattle.std.proofs.lemmas.Option.{slice_get-map, slice_get-get_or}
use Rattle.frame_core.specs.Frames.{Row, Frame, IsFrame, FitsColumns, cell_of, stamp_at, type_of}
use Rattle.expr_clause.specs.Cells.{no_cell}
use Rattle.row_clauses.specs.Lying.{AreTyped, row_at, cells_at, cell_in, lying}

abbrev row_in : List Row → ℕ → Row
row_in rows k = unwrap_or (slice_get rows k) (record { stamp = pos 0; cells = [] })

-- a row's cells are of their columns' types
pub typed_row : (f : Frame) (row : ℕ) → IsFrame f → row < length f.rows → AreTyped f.schema.columns (row_at f row).cells
typed_row f row is lt = at f.rows row is.fitting lt
  where
    at : (rows : List Row) (k : ℕ) → AllByRecursion (FitsColumns f.schema.columns) rows → k < length rows → AreTyped f.schema.columns (row_in rows k).cells
    at [] k all lt = absurd (omega (arith, lt))
    at (r ∷ rows) zero all lt = all.0.typed
    at (r ∷ rows) (suc k) all lt = at rows k all.1 (omega (arith, lt))

same_length : (columns : List Head) (cells : List Cell) → AreTyped columns cells → length cells ≡ length columns
same_length [] [] all = refl
same_length [] (c ∷ cells) all = absurd all
same_length (h ∷ columns) [] all = absurd all
same_length (h ∷ columns) (c ∷ cells) all = ap suc (same_length columns cells all.1)

-- the type of the column at a place is that of the cell there
pub type_there : (columns : List Head) (cells : List Cell) (k : ℕ) → AreTyped columns cells → k < length cells → option_map (λ (h : Head). h.1) (slice_get columns k) ≡ Some (type_of (cell_in cells k))
type_there [] [] k all lt = absurd (omega (arith, lt))
type_there [] (c ∷ cells) k all lt = absurd all
type_there (h ∷ columns) [] k all lt = absurd all
type_there (h ∷ columns) (c ∷ cells) zero all lt = ap Some (sym all.0)
type_there (h ∷ columns) (c ∷ cells) (suc k) all lt = type_there columns cells k all.1 (omega (arith, lt))

-- so of the next of the cells at these places
pub next_type : (columns : List Head) (cells : List Cell) (places : List ℕ) (k : ℕ) (begun : List Cell) (next : Cell) → AreTyped columns (lying cells places) → k < length places → begun ≡ lying cells (take k places)
    → next ≡ cell_in cells (get_or places k 0) → option_map (λ (h : Head). h.1) (slice_get columns (length begun)) ≡ Some (type_of next)
next_type columns cells places k begun next all lt begun_is next_is =
    let count : length begun ≡ k = ap length begun_is ∙ length-map (take k places) (cell_in cells) ∙ length-take-le k places (omega (arith, lt)) in
    ap (λ n. option_map (λ (h : Head). h.1) (slice_get columns n)) count ∙ type_there columns (lying cells places) k all (omega (arith, lt, length-map places (cell_in cells)))
    ∙ ap (λ o. Some (type_of (unwrap_or o no_cell))) (slice_get-map (cell_in cells) places k ∙ ap (option_map (cell_in cells)) (slice_get-get_or places k 0 lt)) ∙ ap (λ x. Some (type_of x)) (sym next_is)

-- all cells of the places were added
pub all_begun : (columns : List Head) (cells : List Cell) (places : List ℕ) (begun : List Cell) → AreTyped columns (lying cells places) → begun ≡ lying cells places → length begun ≡ length columns
all_begun columns cells places begun all begun_is = ap length begun_is ∙ same_length columns (lying cells places) all

-- the stamp of a row
pub stamp_is : (f : Frame) (row : ℕ) (t : ℤ) → stamp_at f row ≡ Some t → (row_at f row).stamp ≡ t
stamp_is f row t = by (slice_get f.rows row)
  where
    by : (o : Option Row) → option_map (λ (r : Row). r.stamp) o ≡ Some t → (unwrap_or o (record { stamp = pos 0; cells = [] })).stamp ≡ t
    by None e = absurd cc
    by (Some r) e = ap (λ o. unwrap_or o t) e

pub stamp_there : (f : Frame) (row : ℕ) → row < length f.rows → stamp_at f row ≡ Some (row_at f row).stamp
stamp_there f row lt = at f.rows row lt
  where
    at : (rows : List Row) (k : ℕ) → k < length rows → option_map (λ (r : Row). r.stamp) (slice_get rows k) ≡ Some (row_in rows k).stamp
    at [] k lt = absurd (omega (arith, lt))
    at (r ∷ rows) zero lt = refl
    at (r ∷ rows) (suc k) lt = at rows k (omega (arith, lt))

-- the rows from a place on
pub rows_from_place : (rows : List Row) (k : ℕ) → k < length rows → drop k rows ≡ row_in rows k ∷ drop (suc k) rows
rows_from_place [] k lt = absurd (omega (arith, lt))
rows_from_place (r ∷ rows) zero lt = refl
rows_from_place (r ∷ rows) (suc k) lt = rows_from_place rows k (omega (arith, lt))

-- ---- the computed cells

get_past : (cells more : List Cell) (k : ℕ) → length cells ≤ k → cell_in (cells ++ more) k ≡ unwrap_or (slice_get more (k - length cells)) no_cell
get_past [] more k le = ap (λ m. unwrap_or (slice_get more m) no_cell) (omega arith)
get_past (c ∷ cells) more zero le = absurd (omega (arith, le))
get_past (c ∷ cells) more (suc k) le = get_past cells more k (omega (arith, le)) ∙ ap (λ m. unwrap_or (slice_get more m) no_cell) (omega arith)

pub get_lent : (made : List CellRef) (k : ℕ) → slice_get (map cell_of made) k ≡ option_map cell_of (slice_get made k)
get_lent [] k = refl
get_lent (c ∷ made) zero = refl
get_lent (c ∷ made) (suc k) = get_lent made k

-- the cell at a place beyond the frame's columns
pub made_at : (f : Frame) (row : ℕ) (made : List CellRef) (place width : ℕ) → IsFrame f → row < length f.rows → width ≡ length f.schema.columns → width ≤ place
    → cell_in (map cell_of made) (place - width) ≡ cell_in (cells_at f row made) place
made_at f row made place width is lt wide le =
    let count : length (row_at f row).cells ≡ width = same_length f.schema.columns (row_at f row).cells (typed_row f row is lt) ∙ sym wide in
    sym (get_past (row_at f row).cells (map cell_of made) place (omega (arith, count, le)) ∙ ap (λ m. cell_in (map cell_of made) (place - m)) count)
