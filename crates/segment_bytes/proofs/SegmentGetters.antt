-- What the getters of the view of a segment read.
use Rattle.std.proofs.Common.{◌≡◌, ℕ, zero, suc, ◌+◌, ◌*◌, ◌<◌, ◌≤◌, ℤ, List, [], ◌∷◌, ◌++◌, map, length, drop, Some, refl, sym, ap, subst, ◌∙◌, arith, w64}
use Rattle.std.specs.Prelude.{FitsSigned, IsUtf8, slice_get, option_map, option_and_then}
use Rattle.std.specs.List.{flat_map, AllByRecursion}
use Rattle.std.proofs.lemmas.List.{length-map}
use Rattle.std.proofs.lemmas.Option.{slice_get-map}
use Rattle.byte_fields.specs.Reading.{signed_text}
use Rattle.byte_fields.proofs.Numbers.{length-signed_text}
use Rattle.frame_core.specs.declared.cell.ColType.{ColType}
use Rattle.frame_core.specs.declared.cell.Cell.{Cell}
use Rattle.frame_core.specs.Texts.{Text}
use Rattle.frame_core.specs.Schemas.{Head}
use Rattle.frame_core.specs.Frames.{Row, Frame, stamps_of, stamp_at, cell_at, type_at}
use Rattle.frame_core.specs.Limits.{IsStorable}
use Rattle.frame_core.specs.Columns.{cells_of}
use Rattle.frame_core.proofs.Rows.{drop_at_place, length-rows_from, stamps-rows_from, cells_of-rows_from}
use Rattle.segment_bytes.specs.declared.columns.ColumnBytes.{ColumnBytes}
use Rattle.segment_bytes.specs.Sheets.{Series, Sheet, sheet_of, frame_of, series_text}
use Rattle.segment_bytes.specs.Kept.{IsSeries, IsStored}
use Rattle.segment_bytes.specs.Lying.{Spells, SpellsAll, LiesAs}
use Rattle.segment_bytes.specs.Views.{sheet_in, frame_in, IsView, name_of, cells_in, IsColumnView}
use Rattle.segment_bytes.proofs.Turning.{series-rows, storable_wide}
use Rattle.segment_bytes.proofs.Walks.{all_at}
use Rattle.segment_bytes.proofs.Getters.{wide_at, there, column_viewed}

-- ---- the view of a segment

-- the column at a place of a viewed frame
pub record ViewedColumn (f : Frame) (rows col : ℕ) (bytes : List ℕ) : Type 0 where
  pub all : List Series
  pub column : Series
  pub spells : Spells rows col bytes all
  pub at : slice_get all col ≡ Some column
  pub stored : IsStored rows column
  pub head : slice_get f.schema.columns col ≡ Some column.0
  pub cells : cells_of col f.rows ≡ column.1
  pub row_count : length f.rows ≡ rows

column_lens : (rows : ℕ) (columns : List Series) → AllByRecursion (IsStored rows) columns → AllByRecursion (λ (c : List Cell). length c ≡ rows) (map (λ (c : Series). c.1) columns)
column_lens rows [] each = tt
column_lens rows (c ∷ columns) each = (each.0.series.len, column_lens rows columns each.1)

-- the column at a place of a sheet
sheet_column : (s : Sheet) (rows col : ℕ) (bytes : List ℕ) → length s.stamps ≡ rows → AllByRecursion (IsStored rows) s.columns → bytes ≡ flat_map series_text s.columns → col < length s.columns → ViewedColumn (frame_of s) rows col bytes
sheet_column s rows col bytes rows_are each text lt =
    let at = drop_at_place col s.columns lt in
    let cells : slice_get (map (λ (c : Series). c.1) s.columns) col ≡ Some at.0.1 = slice_get-map (λ (c : Series). c.1) s.columns col ∙ ap (option_map (λ (c : Series). c.1)) at.1 in
    let head : slice_get (map (λ (c : Series). c.0) s.columns) col ≡ Some at.0.0 = slice_get-map (λ (c : Series). c.0) s.columns col ∙ ap (option_map (λ (c : Series). c.0)) at.1 in
    let lens = subst (λ (n : ℕ). AllByRecursion (λ (c : List Cell). length c ≡ n) (map (λ (c : Series). c.1) s.columns)) (sym rows_are) (column_lens rows s.columns each) in
    record {
      all = s.columns;
      column = at.0;
      spells = record { each = each; text = text; within = lt };
      at = at.1;
      stored = all_at (IsStored rows) s.columns col at.0 each at.1;
      head = head;
      cells = cells_of-rows_from s.stamps (map (λ (c : Series). c.1) s.columns) col at.0.1 lens cells;
      row_count = length-rows_from s.stamps (map (λ (c : Series). c.1) s.columns) ∙ rows_are;
    }

pub viewed_column : (bytes : List ℕ) (rows count : ℕ) (stamps columns : List ℕ) (f : Frame) (col : ℕ) → IsView bytes rows count stamps columns → frame_in bytes ≡ f → col < length f.schema.columns → ViewedColumn f rows col columns
viewed_column bytes rows count stamps columns f col v is lt =
    let s = sheet_in bytes in
    let within : col < length s.columns = omega (arith, ap (λ (g : Frame). length g.schema.columns) is, length-map s.columns (λ (c : Series). c.0)) in
    subst (λ (g : Frame). ViewedColumn g rows col columns) is (sheet_column s rows col columns v.rows_are v.each v.columns_text within)

pub view_rows : (bytes : List ℕ) (rows count : ℕ) (stamps columns : List ℕ) (f : Frame) → IsView bytes rows count stamps columns → frame_in bytes ≡ f → rows ≡ length f.rows
view_rows bytes rows count stamps columns f v is =
    let s = sheet_in bytes in
    sym v.rows_are ∙ sym (length-rows_from s.stamps (map (λ (c : Series). c.1) s.columns)) ∙ ap (λ (g : Frame). length g.rows) is

pub view_storable : (bytes : List ℕ) (rows count : ℕ) (stamps columns : List ℕ) (f : Frame) → IsView bytes rows count stamps columns → frame_in bytes ≡ f → IsStorable f
view_storable bytes rows count stamps columns f v is = subst (λ (g : Frame). IsStorable g) is v.storable

pub view_cols : (bytes : List ℕ) (rows count : ℕ) (stamps columns : List ℕ) (f : Frame) → IsView bytes rows count stamps columns → frame_in bytes ≡ f → count ≡ length f.schema.columns
view_cols bytes rows count stamps columns f v is =
    let s = sheet_in bytes in
    sym v.count_is ∙ sym (length-map s.columns (λ (c : Series). c.0)) ∙ ap (λ (g : Frame). length g.schema.columns) is

-- ---- all columns

series_stored : (rows : ℕ) (columns : List Series) → AllByRecursion (IsStored rows) columns → AllByRecursion (IsSeries rows) columns
series_stored rows [] each = tt
series_stored rows (c ∷ columns) each = (each.0.series, series_stored rows columns each.1)

pub view_columns : (bytes : List ℕ) (rows count : ℕ) (stamps columns : List ℕ) (f : Frame) → IsView bytes rows count stamps columns → frame_in bytes ≡ f → (sheet_in bytes).columns ≡ (sheet_of f).columns
view_columns bytes rows count stamps columns f v is =
    let s = sheet_in bytes in
    let each = subst (λ (n : ℕ). AllByRecursion (IsSeries n) s.columns) (sym v.rows_are) (series_stored rows s.columns v.each) in
    sym (series-rows s.stamps s.columns each) ∙ ap (λ (g : Frame). (sheet_of g).columns) is

pub view_spells : (bytes : List ℕ) (rows count : ℕ) (stamps columns : List ℕ) → IsView bytes rows count stamps columns → SpellsAll rows count columns (sheet_in bytes).columns
view_spells bytes rows count stamps columns v = record { each = v.each; text = v.columns_text; count_is = v.count_is }

-- ---- what is found in a column

pub name_found : (f : Frame) (rows col : ℕ) (bytes : List ℕ) (found : ColumnBytes) (c : ViewedColumn f rows col bytes) → LiesAs c.column found → (name_of f col ≡ Some found.name.now) × IsUtf8 found.name.now
name_found f rows col bytes found c lies =
    (ap (option_map (λ (h : Head). h.0)) c.head ∙ ap (λ (t : Text). Some t) (sym lies.name), subst (λ (t : Text). IsUtf8 t) (sym lies.name) c.stored.series.named.text)

pub kind_found : (f : Frame) (rows col : ℕ) (bytes : List ℕ) (found : ColumnBytes) (c : ViewedColumn f rows col bytes) → LiesAs c.column found → type_at f col ≡ Some found.kind
kind_found f rows col bytes found c lies = ap (option_map (λ (h : Head). h.1)) c.head ∙ ap (λ (k : ColType). Some k) (sym lies.kind)

pub cells_found : (f : Frame) (rows col : ℕ) (bytes : List ℕ) (found : ColumnBytes) (c : ViewedColumn f rows col bytes) → LiesAs c.column found → IsColumnView found.kind rows found.cells.now × (cells_in found.kind rows found.cells.now ≡ cells_of col f.rows)
cells_found f rows col bytes found c lies =
    let v = column_viewed rows c.column found.kind found.cells.now c.stored lies.kind lies.cells in
    (v.0, v.1 ∙ sym c.cells)

pub cells_count : (f : Frame) (rows col : ℕ) (bytes : List ℕ) (c : ViewedColumn f rows col bytes) → length (cells_of col f.rows) ≡ length f.rows
cells_count f rows col bytes c = ap length c.cells ∙ c.stored.series.len ∙ sym c.row_count

-- ---- stamps

pub view_stamp : (bytes : List ℕ) (rows count : ℕ) (stamps columns : List ℕ) (f : Frame) (row : ℕ) → IsView bytes rows count stamps columns → frame_in bytes ≡ f → row < length f.rows → (z : ℤ) × FitsSigned w64 z × (stamp_at f row ≡ Some z) × ((rest : List ℕ) × (drop (8 * row) stamps ≡ signed_text z ++ rest)) × (8 * row + 8 ≤ length stamps)
view_stamp bytes rows count stamps columns f row v is lt =
    let s = sheet_in bytes in
    let within : row < length s.stamps = omega (arith, view_rows bytes rows count stamps columns f v is, v.rows_are) in
    let at = drop_at_place row s.stamps within in
    let fits = all_at (FitsSigned w64) s.stamps row at.0 v.fit at.1 in
    let found = wide_at (FitsSigned w64) signed_text 8 row s.stamps at.0 columns (λ z h. length-signed_text z) v.fit at.1 in
    let text : drop (8 * row) stamps ≡ signed_text at.0 ++ found.0 = ap (drop (8 * row)) v.stamps_text ∙ found.1 in
    let stamps_are : stamps_of (frame_of s).rows ≡ s.stamps = stamps-rows_from s.stamps (map (λ (c : Series). c.1) s.columns) in
    let here : stamp_at (frame_of s) row ≡ Some at.0 = sym (slice_get-map (λ (r : Row). r.stamp) (frame_of s).rows row) ∙ ap (λ (ts : List ℤ). slice_get ts row) stamps_are ∙ at.1 in
    (at.0, fits, ap (λ (g : Frame). stamp_at g row) (sym is) ∙ here, (found.0, text), there (8 * row) 8 stamps (signed_text at.0) found.0 text (length-signed_text at.0) (omega arith))

-- ---- a cell by its row and column

-- the cell at a row of a column is the cell at the column of the row
cell_of-rows : (col row : ℕ) (rows : List Row) → AllByRecursion (λ (r : Row). col < length r.cells) rows → slice_get (cells_of col rows) row ≡ option_and_then (λ (r : Row). slice_get r.cells col) (slice_get rows row)
cell_of-rows col row [] wide = refl
cell_of-rows col zero (r ∷ rows) wide = let at = drop_at_place col r.cells wide.0 in rw at.1 refl
cell_of-rows col (suc row) (r ∷ rows) wide = let at = drop_at_place col r.cells wide.0 in rw at.1 (cell_of-rows col row rows wide.1)

wider : (n col : ℕ) (rows : List Row) → col < n → AllByRecursion (λ (r : Row). length r.cells ≡ n) rows → AllByRecursion (λ (r : Row). col < length r.cells) rows
wider n col [] lt wide = tt
wider n col (r ∷ rows) lt wide = (omega (arith, wide.0), wider n col rows lt wide.1)

pub cell_at-column : (f : Frame) (col row : ℕ) → IsStorable f → col < length f.schema.columns → cell_at f row col ≡ slice_get (cells_of col f.rows) row
cell_at-column f col row is lt = sym (cell_of-rows col row f.rows (wider (length f.schema.columns) col f.rows lt (storable_wide f is)))
