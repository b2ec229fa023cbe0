-- What is cut from a frame is a frame.
use Rattle.std.proofs.Common.{◌≡◌, ℕ, zero, suc, ◌+◌, ◌-◌, ◌<◌, ◌≤◌, ℤ, pos, Bool, true, false, not, ◌&&◌, ◌||◌, List, [], ◌∷◌, ◌++◌, length, map, take, drop, Some, refl, sym, ap, ◌∙◌, subst, arith, length-drop}
use Rattle.std.specs.Prelude.{slice_get, slice_range, option_map}
use Rattle.std.specs.List.{AllByRecursion, AllZip, list_any, cons_option}
use Rattle.std.proofs.lemmas.List.{map-append, length-take-le}
use Rattle.std.proofs.lemmas.List.Folds.{list_any-append}
use Rattle.frame_core.specs.declared.part.Part.{Part}
use Rattle.frame_core.specs.declared.cell.Cell.{Cell}
use Rattle.frame_core.specs.Texts.{Text, same_text}
use Rattle.frame_core.specs.Schemas.{Head, Schema, AreColumns, IsColName, are_new}
use Rattle.frame_core.specs.Frames.{Row, Frame, IsCell, FitsColumns, IsFrame, stamps_of, type_at}
use Rattle.frame_core.specs.Columns.{cells_of, columns_from, column_type, column_cells}
use Rattle.frame_core.specs.declared.column.Column.{Column}
use Rattle.frame_core.specs.declared.cell.ColType.{ColType}
use Rattle.frame_core.proofs.Rows.{drop_at_place, length-cells_of}
use Rattle.frame_core.proofs.Parts.{all_slice, NeverFall-slice}
use Rattle.frame_core.proofs.ColumnParts.{slice-map}
use Rattle.segment_cut.specs.Tiles.{LiesIn, cut, cut_row}
use Rattle.segment_cut.proofs.Lists.{all-map, all-weaken}
use Rattle.segment_cut.proofs.Wholes.{widths}

-- ---- names of a part

any-first : (t : Text) (first more : List Text) → list_any (same_text t) (first ++ more) ≡ false → list_any (same_text t) first ≡ false
any-first t first more none = by_both (list_any (same_text t) first) (list_any (same_text t) more) (sym (list_any-append (same_text t) first more) ∙ none)
  where
    by_both : (a b : Bool) → (a || b) ≡ false → a ≡ false
    by_both true b e = absurd cc
    by_both false b e = refl

both-true : (a b : Bool) → (a && b) ≡ true → (a ≡ true) × (b ≡ true)
both-true true b e = (refl, e)
both-true false b e = absurd cc

not-true : (b : Bool) → not b ≡ true → b ≡ false
not-true true e = absurd cc
not-true false e = refl

-- names that are new after some are new after fewer
are_new-fewer : (earlier more names : List Text) → are_new (earlier ++ more) names ≡ true → are_new earlier names ≡ true
are_new-fewer earlier more [] e = refl
are_new-fewer earlier more (name ∷ names) e =
    let both = both-true (not (list_any (same_text name) (earlier ++ more))) (are_new (name ∷ (earlier ++ more)) names) e in
    rw (any-first name earlier more (not-true _ both.0)) (are_new-fewer (name ∷ earlier) more names both.1)

are_new-drop : (n : ℕ) (earlier names : List Text) → are_new earlier names ≡ true → are_new [] (drop n names) ≡ true
are_new-drop zero earlier names e = are_new-fewer [] earlier names e
are_new-drop (suc n) earlier [] e = refl
are_new-drop (suc n) earlier (name ∷ names) e = are_new-drop n (name ∷ earlier) names (both-true _ _ e).1

are_new-take : (n : ℕ) (earlier names : List Text) → are_new earlier names ≡ true → are_new earlier (take n names) ≡ true
are_new-take zero earlier names e = refl
are_new-take (suc n) earlier [] e = refl
are_new-take (suc n) earlier (name ∷ names) e =
    let both = both-true (not (list_any (same_text name) earlier)) (are_new (name ∷ earlier) names) e in
    rw both.0 (are_new-take n (name ∷ earlier) names both.1)

AreColumns-slice : (a b : ℕ) (heads : List Head) → AreColumns heads → AreColumns (slice_range heads a b)
AreColumns-slice a b heads are = record {
  named = all_slice (λ (h : Head). IsColName h.0) a b heads are.named;
  distinct = rw (slice-map (λ (h : Head). h.0) a b heads) (are_new-take (b - a) [] (drop a (map (λ (h : Head). h.0) heads)) (are_new-drop a [] (map (λ (h : Head). h.0) heads) are.distinct));
}

-- ---- rows of a part

zip-take : {A B : Type 0} (R : A → B → Type 0) (n : ℕ) (xs : List A) (ys : List B) → AllZip R xs ys → AllZip R (take n xs) (take n ys)
zip-take R zero xs ys all = tt
zip-take R (suc n) [] [] all = tt
zip-take R (suc n) [] (y ∷ ys) all = absurd all
zip-take R (suc n) (x ∷ xs) [] all = absurd all
zip-take R (suc n) (x ∷ xs) (y ∷ ys) all = (all.0, zip-take R n xs ys all.1)

zip-drop : {A B : Type 0} (R : A → B → Type 0) (n : ℕ) (xs : List A) (ys : List B) → AllZip R xs ys → AllZip R (drop n xs) (drop n ys)
zip-drop R zero xs ys all = all
zip-drop R (suc n) [] [] all = tt
zip-drop R (suc n) [] (y ∷ ys) all = absurd all
zip-drop R (suc n) (x ∷ xs) [] all = absurd all
zip-drop R (suc n) (x ∷ xs) (y ∷ ys) all = zip-drop R n xs ys all.1

fits-cut : (heads : List Head) (part : Part) (r : Row) → FitsColumns heads r → FitsColumns (slice_range heads part.first_col (part.first_col + part.cols)) (cut_row part r)
fits-cut heads part r fits = record {
  stamp = fits.stamp;
  typed = zip-take _ ((part.first_col + part.cols) - part.first_col) (drop part.first_col heads) (drop part.first_col r.cells) (zip-drop _ part.first_col heads r.cells fits.typed);
  cells = all_slice IsCell part.first_col (part.first_col + part.cols) r.cells fits.cells;
}

-- a part has the stamps of its rows
pub stamps-cut : (part : Part) (rows : List Row) → stamps_of (map (cut_row part) rows) ≡ stamps_of rows
stamps-cut part [] = refl
stamps-cut part (r ∷ rows) = ap (λ (ts : List ℤ). r.stamp ∷ ts) (stamps-cut part rows)

pub IsFrame-cut : (f : Frame) (part : Part) → IsFrame f → IsFrame (cut f part)
IsFrame-cut f part is =
    let a = part.first_row in
    let b = part.first_row + part.rows in
    record {
      columns = AreColumns-slice part.first_col (part.first_col + part.cols) f.schema.columns is.columns;
      ascending = rw (stamps-cut part (slice_range f.rows a b), slice-map (λ (r : Row). r.stamp) a b f.rows) (NeverFall-slice a b (stamps_of f.rows) is.ascending);
      fitting = all-map _ (cut_row part) (slice_range f.rows a b) (all-weaken (FitsColumns f.schema.columns) _ (slice_range f.rows a b) (fits-cut f.schema.columns part) (all_slice (FitsColumns f.schema.columns) a b f.rows is.fitting));
      untimed = λ e. all-map (λ (r : Row). r.stamp ≡ pos 0) (cut_row part) (slice_range f.rows a b) (all_slice (λ (r : Row). r.stamp ≡ pos 0) a b f.rows (is.untimed e));
    }

-- ---- columns of a part

get-drop : {X : Type 0} (n k : ℕ) (xs : List X) → slice_get (drop n xs) k ≡ slice_get xs (n + k)
get-drop zero k xs = let same : 0 + k ≡ k = omega arith in rw same refl
get-drop (suc n) k [] = refl
get-drop (suc n) k (x ∷ xs) = let more : suc n + k ≡ suc (n + k) = omega arith in rw more (get-drop n k xs)

get-take : {X : Type 0} (n k : ℕ) (xs : List X) → k < n → slice_get (take n xs) k ≡ slice_get xs k
get-take zero k xs lt = absurd (omega arith)
get-take (suc n) k [] lt = refl
get-take (suc n) zero (x ∷ xs) lt = refl
get-take (suc n) (suc k) (x ∷ xs) lt = get-take n k xs (omega arith)

pub get-slice : {X : Type 0} (a n k : ℕ) (xs : List X) → k < n → slice_get (slice_range xs a (a + n)) k ≡ slice_get xs (a + k)
get-slice a n k xs lt = let long : (a + n) - a ≡ n = omega arith in rw long (get-take n k (drop a xs) lt ∙ get-drop a k xs)

-- the column at a place of a part
pub cells_of-cut : (part : Part) (k : ℕ) (rows : List Row) → k < part.cols → cells_of k (map (cut_row part) rows) ≡ cells_of (part.first_col + k) rows
cells_of-cut part k [] lt = refl
cells_of-cut part k (r ∷ rows) lt = rw (get-slice part.first_col part.cols k r.cells lt) (ap (cons_option (slice_get r.cells (part.first_col + k))) (cells_of-cut part k rows lt))

cells_of-take : (n w k : ℕ) (rows : List Row) → k < w → AllByRecursion (λ (r : Row). length r.cells ≡ w) rows → cells_of k (take n rows) ≡ take n (cells_of k rows)
cells_of-take zero w k rows lt all = refl
cells_of-take (suc n) w k [] lt all = refl
cells_of-take (suc n) w k (r ∷ rows) lt all =
    let at = drop_at_place k r.cells (omega (arith, all.0)) in
    rw at.1 (ap (λ (cs : List Cell). at.0 ∷ cs) (cells_of-take n w k rows lt all.1))

cells_of-drop : (n w k : ℕ) (rows : List Row) → k < w → AllByRecursion (λ (r : Row). length r.cells ≡ w) rows → cells_of k (drop n rows) ≡ drop n (cells_of k rows)
cells_of-drop zero w k rows lt all = refl
cells_of-drop (suc n) w k [] lt all = refl
cells_of-drop (suc n) w k (r ∷ rows) lt all =
    let at = drop_at_place k r.cells (omega (arith, all.0)) in
    rw at.1 (cells_of-drop n w k rows lt all.1)

all-dropped : {X : Type 0} (P : X → Type 0) (n : ℕ) (xs : List X) → AllByRecursion P xs → AllByRecursion P (drop n xs)
all-dropped P zero xs all = all
all-dropped P (suc n) [] all = tt
all-dropped P (suc n) (x ∷ xs) all = all-dropped P n xs all.1

-- a part of the rows has that part of each column
pub cells_of-slice : (a b w k : ℕ) (rows : List Row) → k < w → AllByRecursion (λ (r : Row). length r.cells ≡ w) rows → cells_of k (slice_range rows a b) ≡ slice_range (cells_of k rows) a b
cells_of-slice a b w k rows lt all = cells_of-take (b - a) w k (drop a rows) lt (all-dropped _ a rows all) ∙ ap (take (b - a)) (cells_of-drop a w k rows lt all)

-- one column more
pub columns-more : (k n : ℕ) (rows : List Row) → columns_from k (n + 1) rows ≡ columns_from k n rows ++ cells_of (k + n) rows ∷ []
columns-more k zero rows = let same : k + 0 ≡ k = omega arith in rw same refl
columns-more k (suc n) rows =
    let one : suc n + 1 ≡ suc (n + 1) = omega arith in
    let place : (k + 1) + n ≡ k + suc n = omega arith in
    rw one (ap (λ (cs : List (List Cell)). cells_of k rows ∷ cs) (columns-more (k + 1) n rows ∙ rw place refl))

-- ---- the loop over the columns of a part

-- the column that is lent has a cell of each row
pub reaches-rows : (f : Frame) (part : Part) (k : ℕ) (cs : List Cell) → IsFrame f → LiesIn f part → k < part.cols → cs ≡ cells_of (part.first_col + k) f.rows → part.first_row + part.rows ≤ length cs
reaches-rows f part k cs is lies lt are =
    let long : length (cells_of (part.first_col + k) f.rows) ≡ length f.rows = length-cells_of (length f.schema.columns) (part.first_col + k) f.rows (omega (arith, lies.1)) (widths f is) in
    omega (arith, ap length are, long, lies.0)

-- one type more
kind-more : (hs : List Head) (n : ℕ) (kind : ColType) (kinds new : List ColType) → option_map (λ (h : Head). h.1) (slice_get hs n) ≡ Some kind → kinds ≡ map (λ (h : Head). h.1) (take n hs) → new ≡ kinds ++ kind ∷ [] → new ≡ map (λ (h : Head). h.1) (take (n + 1) hs)
kind-more [] n kind kinds new at are more = absurd cc
kind-more (h ∷ hs) zero kind kinds new at are more = let same : h.1 ≡ kind = cc in rw (more, are, ← same) refl
kind-more (h ∷ hs) (suc n) kind kinds new at are more =
    let one : suc n + 1 ≡ suc (n + 1) = omega arith in
    let rest = kind-more hs n kind (map (λ (h : Head). h.1) (take n hs)) (map (λ (h : Head). h.1) (take n hs) ++ kind ∷ []) at refl refl in
    rw (more, are, one) (ap (λ (ks : List ColType). h.1 ∷ ks) rest)

pub kinds-more : (f : Frame) (part : Part) (k : ℕ) (lent cells : Column) (cols new : List Column) → type_at f (part.first_col + k) ≡ Some (column_type lent) → column_type cells ≡ column_type lent → new ≡ cols ++ cells ∷ [] → map column_type cols ≡ map (λ (h : Head). h.1) (take k (drop part.first_col f.schema.columns)) → map column_type new ≡ map (λ (h : Head). h.1) (take (k + 1) (drop part.first_col f.schema.columns))
kinds-more f part k lent cells cols new at same more are =
    kind-more (drop part.first_col f.schema.columns) k (column_type lent) (map column_type cols) (map column_type new) (rw (get-drop part.first_col k f.schema.columns) at) are (rw more (map-append column_type cols (cells ∷ []) ∙ rw same refl))

pub cells-more : (f : Frame) (part : Part) (k : ℕ) (lent cells : Column) (cols new : List Column) → IsFrame f → LiesIn f part → k < part.cols → column_cells lent ≡ cells_of (part.first_col + k) f.rows → column_cells cells ≡ slice_range (column_cells lent) part.first_row (part.first_row + part.rows) → new ≡ cols ++ cells ∷ [] → map column_cells cols ≡ columns_from 0 k (cut f part).rows → map column_cells new ≡ columns_from 0 (k + 1) (cut f part).rows
cells-more f part k lent cells cols new is lies lt lends cuts more are =
    let here : column_cells cells ≡ cells_of k (cut f part).rows = cuts ∙ ap (λ (cs : List Cell). slice_range cs part.first_row (part.first_row + part.rows)) lends ∙ sym (cells_of-cut part k (slice_range f.rows part.first_row (part.first_row + part.rows)) lt ∙ cells_of-slice part.first_row (part.first_row + part.rows) (length f.schema.columns) (part.first_col + k) f.rows (omega (arith, lies.1)) (widths f is)) in
    let place : 0 + k ≡ k = omega arith in
    rw more (map-append column_cells cols (cells ∷ []) ∙ rw (are, here) (sym (columns-more 0 k (cut f part).rows ∙ ap (λ n. columns_from 0 k (cut f part).rows ++ cells_of n (cut f part).rows ∷ []) place)))

-- all types
pub kinds-done : (f : Frame) (part : Part) (kinds : List ColType) (k : ℕ) → k ≡ part.cols → kinds ≡ map (λ (h : Head). h.1) (take k (drop part.first_col f.schema.columns)) → kinds ≡ map (λ (h : Head). h.1) (cut f part).schema.columns
kinds-done f part kinds k all are =
    let long : (part.first_col + part.cols) - part.first_col ≡ part.cols = omega arith in
    rw long (subst (λ n. kinds ≡ map (λ (h : Head). h.1) (take n (drop part.first_col f.schema.columns))) all are)

-- ---- the parts of what is cut, as they were made

pub schema-lent : (f : Frame) (part : Part) (lent made : Schema) → lent ≡ f.schema → made ≡ record lent { columns = slice_range lent.columns part.first_col (part.first_col + part.cols) } → made ≡ (cut f part).schema
schema-lent f part lent made same is = is ∙ rw same refl

pub stamps-lent : (f : Frame) (part : Part) (lent made : List ℤ) → lent ≡ stamps_of f.rows → made ≡ slice_range lent part.first_row (part.first_row + part.rows) → made ≡ stamps_of (cut f part).rows
stamps-lent f part lent made same is =
    let a = part.first_row in
    let b = part.first_row + part.rows in
    is ∙ ap (λ (ts : List ℤ). slice_range ts a b) same ∙ sym (stamps-cut part (slice_range f.rows a b) ∙ slice-map (λ (r : Row). r.stamp) a b f.rows)

pub columns-of : (f : Frame) (part : Part) (cols : List (List Cell)) → LiesIn f part → cols ≡ columns_from 0 part.cols (cut f part).rows → cols ≡ columns_from 0 (length (cut f part).schema.columns) (cut f part).rows
columns-of f part cols lies are =
    let long : length (slice_range f.schema.columns part.first_col (part.first_col + part.cols)) ≡ part.cols = length-take-le ((part.first_col + part.cols) - part.first_col) (drop part.first_col f.schema.columns) (omega (arith, length-drop part.first_col f.schema.columns, lies.1)) ∙ omega arith in
    rw long are
