-- Rows and columns make each other.
--     cells_of-rows_from, columns-rows_from       the columns of rows that were made from columns
--     rows_from-columns                           the rows of columns that were taken from rows
--     stamps-rows_from, length-rows_from, row-rows_from       the stamps, the number and each of the rows of columns
use Rattle.std.proofs.Common.{◌≡◌, ℕ, zero, suc, ◌+◌, ◌<◌, ℤ, List, [], ◌∷◌, length, map, drop, Some, refl, sym, ap, ◌∙◌, arith, add-one}
use Rattle.std.specs.Prelude.{slice_get, filter_map, option_map}
use Rattle.std.specs.List.{AllByRecursion, cons_option}
use Rattle.std.proofs.lemmas.List.{drop_all, nil_from_length}
use Rattle.std.proofs.lemmas.Option.{slice_get-map}
use Rattle.frame_core.specs.declared.cell.Cell.{Cell}
use Rattle.frame_core.specs.Frames.{Row, stamps_of}
use Rattle.frame_core.specs.Columns.{rows_from, cells_of, columns_from}

abbrev pub heads : List (List Cell) → List Cell
heads cols = filter_map (λ c. slice_get c 0) cols

abbrev pub tails : List (List Cell) → List (List Cell)
tails cols = map (drop 1) cols

abbrev pub HaveLength : ℕ → List (List Cell) → Type 0
HaveLength n cols = AllByRecursion (λ (c : List Cell). length c ≡ n) cols

pub length-rows_from : (ts : List ℤ) (cols : List (List Cell)) → length (rows_from ts cols) ≡ length ts
length-rows_from [] cols = refl
length-rows_from (t ∷ ts) cols = ap suc (length-rows_from ts (tails cols))

pub stamps-rows_from : (ts : List ℤ) (cols : List (List Cell)) → stamps_of (rows_from ts cols) ≡ ts
stamps-rows_from [] cols = refl
stamps-rows_from (t ∷ ts) cols = ap (λ (us : List ℤ). t ∷ us) (stamps-rows_from ts (tails cols))

-- the element at a place, and the list from there on
pub drop_at_place : {X : Type 0} (k : ℕ) (xs : List X) → k < length xs → (x : X) × (slice_get xs k ≡ Some x) × (drop k xs ≡ x ∷ drop (suc k) xs)
drop_at_place k [] lt = absurd (omega arith)
drop_at_place zero (x ∷ xs) lt = (x, refl, refl)
drop_at_place (suc k) (x ∷ xs) lt = drop_at_place k xs (omega arith)

-- columns that lost their first cell
pub lengths-tails : (n : ℕ) (cols : List (List Cell)) → HaveLength (suc n) cols → HaveLength n (tails cols)
lengths-tails n [] all = tt
lengths-tails n ([] ∷ cols) all = absurd (omega (arith, all.0))
lengths-tails n ((x ∷ c) ∷ cols) all = (omega (arith, all.0), lengths-tails n cols all.1)

-- the cells at place i of the columns: one of each, in order
pub picked_at : (n i k : ℕ) (cols : List (List Cell)) (c : List Cell) → i < n → HaveLength n cols → slice_get cols k ≡ Some c → slice_get (filter_map (λ c. slice_get c i) cols) k ≡ slice_get c i
picked_at n i k [] c lt all is = absurd cc
picked_at n i zero (d ∷ cols) c lt all is =
    let at = drop_at_place i d (omega (arith, all.0)) in
    let same : d ≡ c = cc in
    rw (at.1, ← same) (sym at.1)
picked_at n i (suc k) (d ∷ cols) c lt all is =
    let at = drop_at_place i d (omega (arith, all.0)) in
    rw at.1 (picked_at n i k cols c lt all.1 is)

pub length_at : (n k : ℕ) (cols : List (List Cell)) (c : List Cell) → HaveLength n cols → slice_get cols k ≡ Some c → length c ≡ n
length_at n k [] c all is = absurd cc
length_at n zero (d ∷ cols) c all is = let same : d ≡ c = cc in ap length (sym same) ∙ all.0
length_at n (suc k) (d ∷ cols) c all is = length_at n k cols c all.1 is

-- the column at a place of rows that were made from columns
pub cells_of-rows_from : (ts : List ℤ) (cols : List (List Cell)) (k : ℕ) (c : List Cell) → HaveLength (length ts) cols → slice_get cols k ≡ Some c → cells_of k (rows_from ts cols) ≡ c
cells_of-rows_from [] cols k c all is = sym (nil_from_length c (length_at 0 k cols c all is))
cells_of-rows_from (t ∷ ts) cols k [] all is = absurd (omega (arith, length_at (suc (length ts)) k cols [] all is))
cells_of-rows_from (t ∷ ts) cols k (x ∷ c) all is =
    let first : slice_get (heads cols) k ≡ Some x = picked_at (suc (length ts)) 0 k cols (x ∷ c) (omega arith) all is in
    let later : slice_get (tails cols) k ≡ Some c = slice_get-map (drop 1) cols k ∙ rw is refl in
    let rest = cells_of-rows_from ts (tails cols) k c (lengths-tails (length ts) cols all) later in
    rw (first, rest) refl

-- all columns from a place on
pub columns-rows_from : (n k : ℕ) (ts : List ℤ) (cols : List (List Cell)) → k + n ≡ length cols → HaveLength (length ts) cols → columns_from k n (rows_from ts cols) ≡ drop k cols
columns-rows_from zero k ts cols e all = sym (drop_all k cols (omega arith))
columns-rows_from (suc n) k ts cols e all =
    let at = drop_at_place k cols (omega arith) in
    rw (cells_of-rows_from ts cols k at.0 all at.1, columns-rows_from n (k + 1) ts cols (omega arith) all, add-one) (sym at.2)

-- ---- rows that are taken apart

heads-from : (n k : ℕ) (r : Row) (rows : List Row) → k + n ≡ length r.cells → heads (columns_from k n (r ∷ rows)) ≡ drop k r.cells
heads-from zero k r rows e = sym (drop_all k r.cells (omega arith))
heads-from (suc n) k r rows e =
    let at = drop_at_place k r.cells (omega arith) in
    rw (at.1, heads-from n (k + 1) r rows (omega arith), add-one) (sym at.2)

tails-from : (n k : ℕ) (r : Row) (rows : List Row) → k + n ≡ length r.cells → tails (columns_from k n (r ∷ rows)) ≡ columns_from k n rows
tails-from zero k r rows e = refl
tails-from (suc n) k r rows e =
    let at = drop_at_place k r.cells (omega arith) in
    rw (at.1, tails-from n (k + 1) r rows (omega arith)) refl

-- the rows of the columns that were taken from rows
pub rows_from-columns : (n : ℕ) (rows : List Row) → AllByRecursion (λ (r : Row). length r.cells ≡ n) rows → rows_from (stamps_of rows) (columns_from 0 n rows) ≡ rows
rows_from-columns n [] all = refl
rows_from-columns n (r ∷ rows) all =
    let width : 0 + n ≡ length r.cells = omega (arith, all.0) in
    rw (heads-from n 0 r rows width, tails-from n 0 r rows width, rows_from-columns n rows all.1) refl

-- a column that was taken from rows has a cell of each
pub length-cells_of : (n k : ℕ) (rows : List Row) → k < n → AllByRecursion (λ (r : Row). length r.cells ≡ n) rows → length (cells_of k rows) ≡ length rows
length-cells_of n k [] lt all = refl
length-cells_of n k (r ∷ rows) lt all =
    let at = drop_at_place k r.cells (omega (arith, all.0)) in
    rw at.1 (ap suc (length-cells_of n k rows lt all.1))

pub length-columns_from : (n k : ℕ) (rows : List Row) → length (columns_from k n rows) ≡ n
length-columns_from zero k rows = refl
length-columns_from (suc n) k rows = ap suc (length-columns_from n (k + 1) rows)

-- ---- one row of columns

pub later_cells : (i : ℕ) (cols : List (List Cell)) → filter_map (λ c. slice_get c i) (tails cols) ≡ filter_map (λ c. slice_get c (suc i)) cols
later_cells i [] = refl
later_cells i ([] ∷ cols) = later_cells i cols
later_cells i ((x ∷ c) ∷ cols) = ap (cons_option (slice_get c i)) (later_cells i cols)

-- the row at place i of rows that were made from columns
pub row-rows_from : (ts : List ℤ) (cols : List (List Cell)) (i : ℕ) → slice_get (rows_from ts cols) i ≡ option_map (λ t. record { stamp = t; cells = filter_map (λ c. slice_get c i) cols }) (slice_get ts i)
row-rows_from [] cols i = refl
row-rows_from (t ∷ ts) cols zero = refl
row-rows_from (t ∷ ts) cols (suc i) = row-rows_from ts (tails cols) i ∙ rw (later_cells i cols) refl
