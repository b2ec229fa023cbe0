-- What a frame in memory keeps, and what its contract sees.
use Rattle.std.proofs.Common.{◌≡◌, ℕ, suc, ◌<◌, ℤ, pos, Bool, List, [], ◌∷◌, length, map, get_or, drop, Some, refl, sym, ap, ◌∙◌, subst, arith}
use Rattle.std.specs.Prelude.{slice_get, filter_map, option_map, FitsSigned, IsUtf8}
use Rattle.std.specs.Int.{w64}
use Rattle.std.specs.List.{AllByRecursion, AllZip}
use Rattle.frame_core.specs.declared.cell.ColType.{ColType}
use Rattle.frame_core.specs.declared.cell.Cell.{Cell}
use Rattle.frame_core.specs.declared.cell.Cell.TheVariants as cells
use Rattle.frame_core.specs.declared.column.Column.{Column}
use Rattle.frame_core.specs.declared.column.Column.TheVariants as columns
use Rattle.frame_core.specs.Schemas.{Head, Schema}
use Rattle.frame_core.specs.Frames.{Row, Frame, type_of, IsCell, FitsColumns, IsFrame, stamp_at, cell_at, type_at}
use Rattle.frame_core.specs.Columns.{column_type, column_cells, rows_from, cells_of, IsWhole}
use Rattle.std.proofs.lemmas.Option.{slice_get-map, slice_get-get_or}
use Rattle.frame_core.proofs.Rows.{stamps-rows_from, length-rows_from, row-rows_from, cells_of-rows_from, length_at, picked_at, HaveLength, lengths-tails}

-- each column's cells are of its type
abbrev Typed : List Head → List (List Cell) → Type 0
Typed hs cols = AllZip (λ (h : Head) (c : List Cell). AllByRecursion (λ cell. type_of cell ≡ h.1) c) hs cols

-- each column has cells of 64 bits or UTF-8
abbrev Fitting : List (List Cell) → Type 0
Fitting cols = AllByRecursion (λ (c : List Cell). AllByRecursion IsCell c) cols

all_of : {X : Type 0} (f : X → Cell) (P : Cell → Type 0) (xs : List X) → ((x : X) → P (f x)) → AllByRecursion P (map f xs)
all_of f P [] each = tt
all_of f P (x ∷ xs) each = (each x, all_of f P xs each)

pub typed_cells : (c : Column) → AllByRecursion (λ cell. type_of cell ≡ column_type c) (column_cells c)
typed_cells (columns.Ints xs) = all_of cells.Int _ xs (λ x. refl)
typed_cells (columns.Flags xs) = all_of cells.Flag _ xs (λ x. refl)
typed_cells (columns.Texts xs) = all_of cells.Text _ xs (λ x. refl)
typed_cells (columns.Stamps xs) = all_of cells.Stamp _ xs (λ x. refl)

pub typed_columns : (hs : List Head) (cols : List Column) → map column_type cols ≡ map (λ (h : Head). h.1) hs → Typed hs (map column_cells cols)
typed_columns [] [] e = tt
typed_columns [] (c ∷ cols) e = absurd cc
typed_columns (h ∷ hs) [] e = absurd cc
typed_columns (h ∷ hs) (c ∷ cols) e =
    let first : column_type c ≡ h.1 = cc in
    let rest : map column_type cols ≡ map (λ (h : Head). h.1) hs = cc in
    (rw (← first) (typed_cells c), typed_columns hs cols rest)

all_under : {X : Type 0} (f : X → Cell) (P : X → Type 0) (xs : List X) → ((x : X) → P x → IsCell (f x)) → AllByRecursion P xs → AllByRecursion IsCell (map f xs)
all_under f P [] each all = tt
all_under f P (x ∷ xs) each all = (each x all.0, all_under f P xs each all.1)

every : {X : Type 0} (f : X → Cell) (xs : List X) → ((x : X) → IsCell (f x)) → AllByRecursion IsCell (map f xs)
every f [] each = tt
every f (x ∷ xs) each = (each x, every f xs each)

-- the cells of a column, by what its lists keep
pub known_ints : (c : Column) (v lent : List ℤ) → c ≡ columns.Ints v → lent ≡ v → AllByRecursion (FitsSigned w64) lent → AllByRecursion IsCell (column_cells c)
known_ints c v lent is same all = rw is (all_under cells.Int (FitsSigned w64) v (λ x fits. fits) (subst (AllByRecursion (FitsSigned w64)) same all))

pub known_stamps : (c : Column) (v lent : List ℤ) → c ≡ columns.Stamps v → lent ≡ v → AllByRecursion (FitsSigned w64) lent → AllByRecursion IsCell (column_cells c)
known_stamps c v lent is same all = rw is (all_under cells.Stamp (FitsSigned w64) v (λ x fits. fits) (subst (AllByRecursion (FitsSigned w64)) same all))

pub known_flags : (c : Column) (v : List Bool) → c ≡ columns.Flags v → AllByRecursion IsCell (column_cells c)
known_flags c v is = rw is (every cells.Flag v (λ x. tt))

pub known_texts : (c : Column) (v : List (List ℕ)) → c ≡ columns.Texts v → AllByRecursion IsUtf8 v → AllByRecursion IsCell (column_cells c)
known_texts c v is all = rw is (all_under cells.Text IsUtf8 v (λ x fits. fits) all)

first_typed : (n : ℕ) (hs : List Head) (cols : List (List Cell)) → HaveLength (suc n) cols → Typed hs cols → AllZip (λ (h : Head) cell. type_of cell ≡ h.1) hs (filter_map (λ c. slice_get c 0) cols)
first_typed n [] [] all typed = tt
first_typed n [] (c ∷ cols) all typed = absurd typed
first_typed n (h ∷ hs) [] all typed = absurd typed
first_typed n (h ∷ hs) ([] ∷ cols) all typed = absurd (omega (arith, all.0))
first_typed n (h ∷ hs) ((x ∷ c) ∷ cols) all typed = (typed.0.0, first_typed n hs cols all.1 typed.1)

later_typed : (n : ℕ) (hs : List Head) (cols : List (List Cell)) → HaveLength (suc n) cols → Typed hs cols → Typed hs (map (drop 1) cols)
later_typed n [] [] all typed = tt
later_typed n [] (c ∷ cols) all typed = absurd typed
later_typed n (h ∷ hs) [] all typed = absurd typed
later_typed n (h ∷ hs) ([] ∷ cols) all typed = absurd (omega (arith, all.0))
later_typed n (h ∷ hs) ((x ∷ c) ∷ cols) all typed = (typed.0.1, later_typed n hs cols all.1 typed.1)

first_fitting : (cols : List (List Cell)) → Fitting cols → AllByRecursion IsCell (filter_map (λ c. slice_get c 0) cols)
first_fitting [] all = tt
first_fitting ([] ∷ cols) all = first_fitting cols all.1
first_fitting ((x ∷ c) ∷ cols) all = (all.0.0, first_fitting cols all.1)

later_fitting : (cols : List (List Cell)) → Fitting cols → Fitting (map (drop 1) cols)
later_fitting [] all = tt
later_fitting ([] ∷ cols) all = (tt, later_fitting cols all.1)
later_fitting ((x ∷ c) ∷ cols) all = (all.0.1, later_fitting cols all.1)

fitting_rows : (hs : List Head) (ts : List ℤ) (cols : List (List Cell)) → AllByRecursion (FitsSigned w64) ts → HaveLength (length ts) cols → Typed hs cols → Fitting cols → AllByRecursion (FitsColumns hs) (rows_from ts cols)
fitting_rows hs [] cols stamps lengths typed fitting = tt
fitting_rows hs (t ∷ ts) cols stamps lengths typed fitting = (
  record { stamp = stamps.0; typed = first_typed (length ts) hs cols lengths typed; cells = first_fitting cols fitting },
  fitting_rows hs ts (map (drop 1) cols) stamps.1 (lengths-tails (length ts) cols lengths) (later_typed (length ts) hs cols lengths typed) (later_fitting cols fitting),
)

pub all_mapped : {X Y : Type 0} (P : Y → Type 0) (f : X → Y) (xs : List X) → AllByRecursion (λ x. P (f x)) xs → AllByRecursion P (map f xs)
all_mapped P f [] all = tt
all_mapped P f (x ∷ xs) all = (all.0, all_mapped P f xs all.1)

stamps_zero : (ts : List ℤ) (cols : List (List Cell)) → AllByRecursion (λ t. t ≡ pos 0) ts → AllByRecursion (λ (r : Row). r.stamp ≡ pos 0) (rows_from ts cols)
stamps_zero [] cols all = tt
stamps_zero (t ∷ ts) cols all = (all.0, stamps_zero ts (map (drop 1) cols) all.1)

-- the frame that contracts see
abbrev pub frame_of : Schema → List ℤ → List Column → Frame
frame_of schema stamps cols = record { schema = schema; rows = rows_from stamps (map column_cells cols) }

pub IsFrame-whole : (schema : Schema) (stamps : List ℤ) (cols : List Column) (f : Frame) → frame_of schema stamps cols ≡ f → IsWhole schema stamps cols → IsFrame f
IsFrame-whole schema stamps cols f is w = rw (← is) (record {
  columns = w.columns;
  ascending = rw (stamps-rows_from stamps (map column_cells cols)) w.ascending;
  fitting = fitting_rows schema.columns stamps (map column_cells cols) w.stamps_fit (all_mapped (λ (c : List Cell). length c ≡ length stamps) column_cells cols w.lengths) (typed_columns schema.columns cols w.types) (all_mapped (λ (c : List Cell). AllByRecursion IsCell c) column_cells cols w.cells_fit);
  untimed = λ e. stamps_zero stamps (map column_cells cols) (w.untimed e);
})

-- ---- what the getters give

pub count_rows : (schema : Schema) (stamps : List ℤ) (cols : List Column) (f : Frame) → frame_of schema stamps cols ≡ f → length f.rows ≡ length stamps
count_rows schema stamps cols f is = ap (λ (g : Frame). length g.rows) (sym is) ∙ length-rows_from stamps (map column_cells cols)

pub stamp_is : (schema : Schema) (stamps lent : List ℤ) (cols : List Column) (f : Frame) (i : ℕ) (d : ℤ) → frame_of schema stamps cols ≡ f → lent ≡ stamps → i < length f.rows → stamp_at f i ≡ Some (get_or lent i d)
stamp_is schema stamps lent cols f i d is same lt =
    let there : slice_get lent i ≡ Some (get_or lent i d) = slice_get-get_or lent i d (omega (arith, count_rows schema stamps cols f is, ap length same)) in
    let row : slice_get f.rows i ≡ option_map (λ t. record { stamp = t; cells = filter_map (λ (c : List Cell). slice_get c i) (map column_cells cols) }) (slice_get stamps i) = ap (λ (g : Frame). slice_get g.rows i) (sym is) ∙ row-rows_from stamps (map column_cells cols) i in
    rw (row, ← same, there) refl

pub same_lengths : (schema : Schema) (stamps : List ℤ) (cols : List Column) → IsWhole schema stamps cols → HaveLength (length stamps) (map column_cells cols)
same_lengths schema stamps cols w = all_mapped (λ (c : List Cell). length c ≡ length stamps) column_cells cols w.lengths

column_at : (cols : List Column) (k : ℕ) (c : Column) → slice_get cols k ≡ Some c → slice_get (map column_cells cols) k ≡ Some (column_cells c)
column_at cols k c at = slice_get-map column_cells cols k ∙ rw at refl

pub column_is : (schema : Schema) (stamps : List ℤ) (cols : List Column) (f : Frame) (k : ℕ) (c : Column) → frame_of schema stamps cols ≡ f → IsWhole schema stamps cols → slice_get cols k ≡ Some c → column_cells c ≡ cells_of k f.rows
column_is schema stamps cols f k c is w at = rw (← is) (sym (cells_of-rows_from stamps (map column_cells cols) k (column_cells c) (same_lengths schema stamps cols w) (column_at cols k c at)))

pub kind_is : (schema : Schema) (stamps : List ℤ) (cols : List Column) (f : Frame) (k : ℕ) (c : Column) → frame_of schema stamps cols ≡ f → IsWhole schema stamps cols → slice_get cols k ≡ Some c → type_at f k ≡ Some (column_type c)
kind_is schema stamps cols f k c is w at = rw (← is) (sym (slice_get-map (λ (h : Head). h.1) schema.columns k) ∙ ap (λ (ts : List ColType). slice_get ts k) (sym w.types) ∙ slice_get-map column_type cols k ∙ rw at refl)

pub length_is : (schema : Schema) (stamps : List ℤ) (cols : List Column) (f : Frame) (k : ℕ) (c : Column) → frame_of schema stamps cols ≡ f → IsWhole schema stamps cols → slice_get cols k ≡ Some c → length (column_cells c) ≡ length f.rows
length_is schema stamps cols f k c is w at = length_at (length stamps) k (map column_cells cols) (column_cells c) (same_lengths schema stamps cols w) (column_at cols k c at) ∙ sym (count_rows schema stamps cols f is)

pub cell_is : (schema : Schema) (stamps : List ℤ) (cols : List Column) (f : Frame) (i k : ℕ) (c : Column) (x : Cell) → frame_of schema stamps cols ≡ f → IsWhole schema stamps cols → i < length f.rows → slice_get cols k ≡ Some c → slice_get (column_cells c) i ≡ Some x → cell_at f i k ≡ Some x
cell_is schema stamps cols f i k c x is w lt at cell =
    let within : i < length stamps = omega (arith, count_rows schema stamps cols f is) in
    let picked : slice_get (filter_map (λ (c : List Cell). slice_get c i) (map column_cells cols)) k ≡ Some x = picked_at (length stamps) i k (map column_cells cols) (column_cells c) within (same_lengths schema stamps cols w) (column_at cols k c at) ∙ cell in
    let there : slice_get stamps i ≡ Some (get_or stamps i (pos 0)) = slice_get-get_or stamps i (pos 0) within in
    rw (← is, row-rows_from stamps (map column_cells cols) i, there) picked
