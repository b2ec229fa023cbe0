-- The rows of a block, by the number of their key.
--     cell_fed                what a hash takes of a cell
--     distinct                the distinct cells, ascending
--     cells_at                the cells whose rows have this number
--     IsNumbering             each row has the number of its key among distinct keys
--     TalliedBy               a tally for each number
--     cells_by                the cells of rows with this key
--     numbered_groups         for each key its tallies, output by output
use Rattle.std.specs.Prelude.{◌≡◌, ℕ, ◌<◌, ◌==◌, if◌then◌else◌, List, [], ◌∷◌, map, filter, length, slice_get, slice_index_or, Some, ◌+◌}
use Rattle.std.specs.List.{IsDistinct}
use Rattle.std.specs.Hash as fed
use Rattle.frame_core.specs.declared.cell.Cell.{Cell}
use Rattle.frame_core.specs.declared.cell.Cell.TheVariants as cells
use Rattle.frame_core.specs.Texts.{Text}
use Rattle.frame_core.specs.Schemas.{Head}
use Rattle.frame_core.specs.Frames.{Row}
use Rattle.expr_clause.specs.Cells.{same_cell}
use Rattle.expr_clause.specs.Exprs.{cell_named}
use Rattle.expr_clause.specs.Groups.{insert_key}
use Rattle.group_clause.specs.Tallies.{total}
use Rattle.group_clause.specs.Partials.{Tally, no_tally, tallies}

-- what a hash takes of a cell
abbrev pub cell_fed : Cell → fed.HashWrites
cell_fed (cells.Int n) = fed.i64 n
cell_fed (cells.Flag b) = fed.bool b
cell_fed (cells.Text t) = fed.str t
cell_fed (cells.Stamp n) = fed.i64 n

-- the distinct cells, ascending
abbrev pub distinct : List Cell → List Cell
distinct [] = []
distinct (k ∷ ks) = insert_key k (distinct ks)

-- the cells of the rows with this number
abbrev pub cells_at : ℕ → List ℕ → List Cell → List Cell
cells_at j [] cs = []
cells_at j (n ∷ ns) [] = []
cells_at j (n ∷ ns) (c ∷ cs) = if n == j then c ∷ cells_at j ns cs else cells_at j ns cs

-- each row has the number of its key, and the numbered keys are the distinct ones
pub record IsNumbering (numbers : List ℕ) (names ks : List Cell) : Type 0 where
  pub named : map (λ n. slice_get names n) numbers ≡ map Some ks
  pub once : IsDistinct same_cell names
  pub all : distinct ks ≡ distinct names

-- for each number the tally of its rows' cells
abbrev pub TalliedBy : ℕ → List ℕ → List Cell → List Tally → Type 0
TalliedBy count numbers cs ts = (length ts ≡ count) × ((j : ℕ) → j < count → slice_get ts j ≡ Some (total tallies (cells_at j numbers cs)))

-- the column of a name, row by row
abbrev pub column_of : List Head → List Row → Text → List Cell
column_of columns rows name = map (λ (r : Row). cell_named columns r.cells name) rows

-- the cells of a column in the rows of which another has this key
abbrev pub cells_by : Cell → List Head → List Row → Text → Text → List Cell
cells_by m columns rows key name = column_of columns (filter (λ (r : Row). same_cell m (cell_named columns r.cells key)) rows) name

-- for each key, of the number from j on, its tallies, output by output
abbrev pub numbered_groups : ℕ → List Cell → List (List Tally) → List (Cell × List Tally)
numbered_groups j [] columns = []
numbered_groups j (m ∷ names) columns = (m, map (λ (ts : List Tally). slice_index_or ts j no_tally) columns) ∷ numbered_groups (j + 1) names columns
