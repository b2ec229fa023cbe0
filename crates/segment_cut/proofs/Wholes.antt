-- A frame in memory, by the stamps and columns of its rows.
use Rattle.std.proofs.Common.{◌≡◌, ℕ, zero, suc, ◌+◌, ◌<◌, ℤ, pos, List, [], ◌∷◌, length, map, Option, Some, None, refl, subst, arith}
use Rattle.std.specs.Prelude.{slice_get, FitsSigned}
use Rattle.std.proofs.lemmas.List.{length-map}
use Rattle.std.specs.Int.{w64}
use Rattle.std.specs.List.{AllByRecursion}
use Rattle.std.proofs.lemmas.Slice.Zip.{AllZip-long}
use Rattle.frame_core.specs.declared.cell.Cell.{Cell}
use Rattle.frame_core.specs.declared.column.Column.{Column}
use Rattle.frame_core.specs.Schemas.{Head, Schema}
use Rattle.frame_core.specs.Frames.{Row, Frame, IsCell, FitsColumns, IsFrame, stamps_of}
use Rattle.frame_core.specs.Columns.{column_type, column_cells, rows_from, cells_of, columns_from, IsWhole}
use Rattle.frame_core.proofs.Rows.{rows_from-columns, length-cells_of}
use Rattle.segment_cut.proofs.Lists.{all-map, all-unmap, all-weaken}

-- the width of each row
pub widths : (f : Frame) → IsFrame f → AllByRecursion (λ (r : Row). length r.cells ≡ length f.schema.columns) f.rows
widths f is = all-weaken (FitsColumns f.schema.columns) (λ (r : Row). length r.cells ≡ length f.schema.columns) f.rows (λ r fits. AllZip-long _ f.schema.columns r.cells fits.typed) is.fitting

at-place : (k : ℕ) (cs : List Cell) (c : Cell) → AllByRecursion IsCell cs → slice_get cs k ≡ Some c → IsCell c
at-place k [] c all e = absurd cc
at-place zero (d ∷ cs) c all e = let same : d ≡ c = cc in subst IsCell same all.0
at-place (suc k) (d ∷ cs) c all e = at-place k cs c all.1 e

-- the cells of a column are cells
fitting-cells : (hs : List Head) (k : ℕ) (rows : List Row) → AllByRecursion (FitsColumns hs) rows → AllByRecursion IsCell (cells_of k rows)
fitting-cells hs k [] all = tt
fitting-cells hs k (r ∷ rows) all = by_cell (slice_get r.cells k) refl (fitting-cells hs k rows all.1)
  where
    by_cell : (o : Option Cell) → slice_get r.cells k ≡ o → AllByRecursion IsCell (cells_of k rows) → AllByRecursion IsCell (cells_of k (r ∷ rows))
    by_cell None e rest = rw e rest
    by_cell (Some c) e rest = rw e (at-place k r.cells c all.0.cells e, rest)

all-columns : (P : List Cell → Type 0) (k n : ℕ) (rows : List Row) → ((i : ℕ) → i < k + n → P (cells_of i rows)) → AllByRecursion P (columns_from k n rows)
all-columns P k zero rows each = tt
all-columns P k (suc n) rows each = (each k (omega arith), all-columns P (k + 1) n rows (λ i lt. each i (omega arith)))

-- what stamps and columns keep that are those of a frame
pub IsWhole-frame : (f : Frame) (schema : Schema) (stamps : List ℤ) (cols : List Column) → IsFrame f → schema ≡ f.schema → stamps ≡ stamps_of f.rows → map column_type cols ≡ map (λ (h : Head). h.1) f.schema.columns → map column_cells cols ≡ columns_from 0 (length f.schema.columns) f.rows → IsWhole schema stamps cols
IsWhole-frame f schema stamps cols is schema_is stamps_are kinds cells =
    let n = length f.schema.columns in
    let long : length (stamps_of f.rows) ≡ length f.rows = length-map f.rows _ in
    rw (schema_is, stamps_are) (record {
      columns = is.columns;
      types = kinds;
      lengths = rw long (all-unmap (λ (c : List Cell). length c ≡ length f.rows) column_cells cols (rw cells (all-columns (λ (c : List Cell). length c ≡ length f.rows) 0 n f.rows (λ i lt. length-cells_of n i f.rows (omega (arith, lt)) (widths f is)))));
      stamps_fit = all-map (FitsSigned w64) (λ (r : Row). r.stamp) f.rows (all-weaken (FitsColumns f.schema.columns) _ f.rows (λ r fits. fits.stamp) is.fitting);
      cells_fit = all-unmap (λ (c : List Cell). AllByRecursion IsCell c) column_cells cols (rw cells (all-columns (λ (c : List Cell). AllByRecursion IsCell c) 0 n f.rows (λ i lt. fitting-cells f.schema.columns i f.rows is.fitting)));
      ascending = is.ascending;
      untimed = λ e. all-map (λ t. t ≡ pos 0) (λ (r : Row). r.stamp) f.rows (is.untimed e);
    })

-- and the frame that contracts see of them
pub frame-whole : (f : Frame) (schema : Schema) (stamps : List ℤ) (cols : List Column) → IsFrame f → schema ≡ f.schema → stamps ≡ stamps_of f.rows → map column_cells cols ≡ columns_from 0 (length f.schema.columns) f.rows → record { schema = schema; rows = rows_from stamps (map column_cells cols) } ≡ f
frame-whole f schema stamps cols is schema_is stamps_are cells = rw (schema_is, stamps_are, cells, rows_from-columns (length f.schema.columns) f.rows (widths f is)) refl
