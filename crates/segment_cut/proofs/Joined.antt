-- Tiles that are taken in the order of their first rows make the columns and the stamps of their frame.
use Rattle.std.proofs.Common.{◌≡◌, ℕ, ◌+◌, ◌-◌, ◌<◌, ◌≤◌, ℤ, Bool, true, false, cond, ◌&&◌, nat_le, nat_lt, List, [], ◌∷◌, ◌++◌, length, take, drop, refl, sym, ap, ◌∙◌, subst, arith, length-take}
use Rattle.std.specs.Prelude.{count_by, slice_range}
use Rattle.std.specs.List.{AllByRecursion}
use Rattle.std.proofs.lemmas.List.{drop_all, take_all, length-map, length-take-le, drop-take, take-append-drop, append-nil, drop-drop}
use Rattle.std.proofs.lemmas.List.Folds.{drop_split}
use Rattle.std.proofs.Math.Seq.{take-append-add}
use Rattle.frame_core.specs.declared.part.Part.{Part}
use Rattle.frame_core.specs.Frames.{Row, Frame, IsFrame, stamps_of}
use Rattle.frame_core.specs.Columns.{cells_of}
use Rattle.frame_core.proofs.Rows.{length-cells_of}
use Rattle.frame_core.proofs.ColumnParts.{slice-map}
use Rattle.segment_cut.specs.Tiles.{Tile, LiesIn, cut, has_row, has_cell}
use Rattle.frame_core.specs.Parts.{has_column}
use Rattle.segment_cut.specs.Joins.{tile_cells, joined_cells, with_stamps, joined_stamps}
use Rattle.segment_cut.proofs.Lists.{count_by-no, count_by-yes, and-assoc}
use Rattle.segment_cut.proofs.Wholes.{widths}
use Rattle.segment_cut.proofs.Cuts.{cells_of-cut, cells_of-slice, stamps-cut}
use Rattle.segment_cut.proofs.Orders.{Rising}

-- each tile lies in the frame and is its part
pub record AreParts (f : Frame) (ts : List Tile) : Type 0 where
  pub inside : AllByRecursion (λ (t : Tile). LiesIn f t.0) ts
  pub parts : AllByRecursion (λ (t : Tile). t.1 ≡ cut f t.0) ts
  pub rising : Rising ts

later : (f : Frame) (t : Tile) (ts : List Tile) → AreParts f (t ∷ ts) → AreParts f ts
later f t ts are = record { inside = are.inside.1; parts = are.parts.1; rising = are.rising.1 }

-- a cell lies in a part where its row and its column do
cell-is : (p : Part) (row k : ℕ) → has_cell p row k ≡ (has_row p row && has_column p k)
cell-is p row k = and-assoc (has_row p row) (nat_le p.first_col k) (nat_lt k (p.first_col + p.cols))

no-cell : (p : Part) (row k : ℕ) → has_row p row ≡ false → has_cell p row k ≡ false
no-cell p row k none = cell-is p row k ∙ rw none refl

and-false : (b : Bool) → (b && false) ≡ false
and-false true = refl
and-false false = refl

no-column : (p : Part) (row k : ℕ) → has_column p k ≡ false → has_cell p row k ≡ false
no-column p row k none = cell-is p row k ∙ ap (λ b. has_row p row && b) none ∙ and-false (has_row p row)

has-both : (p : Part) (row k : ℕ) → has_row p row ≡ true → has_column p k ≡ true → has_cell p row k ≡ true
has-both p row k row_in column_in = cell-is p row k ∙ rw (row_in, column_in) refl

-- rows before all tiles lie in none
no-rows-before : (row : ℕ) (ts : List Tile) → AllByRecursion (λ (u : Tile). row < u.0.first_row) ts → count_by (λ (t : Tile). has_row t.0 row) ts ≡ 0
no-rows-before row [] all = refl
no-rows-before row (t ∷ ts) all =
    let out : has_row t.0 row ≡ false = grind (arith, all.0) in
    count_by-no (λ (t : Tile). has_row t.0 row) t ts out ∙ no-rows-before row ts all.1

no-cells-before : (row k : ℕ) (ts : List Tile) → AllByRecursion (λ (u : Tile). row < u.0.first_row) ts → count_by (λ (t : Tile). has_cell t.0 row k) ts ≡ 0
no-cells-before row k [] all = refl
no-cells-before row k (t ∷ ts) all =
    let out : has_row t.0 row ≡ false = grind (arith, all.0) in
    count_by-no (λ (t : Tile). has_cell t.0 row k) t ts (no-cell t.0 row k out) ∙ no-cells-before row k ts all.1

all-after : (row : ℕ) (t : Tile) (ts : List Tile) → row < t.0.first_row → AllByRecursion (λ (u : Tile). t.0.first_row ≤ u.0.first_row) ts → AllByRecursion (λ (u : Tile). row < u.0.first_row) ts
all-after row t [] lt all = tt
all-after row t (u ∷ ts) lt all = (omega (arith, all.0), all-after row t ts lt all.1)

-- ---- a column

-- of the rows from s on each is once in the tiles, and of those before none
abbrev pub OnceFrom : ℕ → ℕ → ℕ → List Tile → Type 0
OnceFrom s n k ts = (row : ℕ) → row < n → count_by (λ (t : Tile). has_cell t.0 row k) ts ≡ cond (nat_le s row) 1 0

-- a tile without cells of the column changes nothing
once-passed : (s n k : ℕ) (t : Tile) (ts : List Tile) → ((row : ℕ) → has_cell t.0 row k ≡ false) → OnceFrom s n k (t ∷ ts) → OnceFrom s n k ts
once-passed s n k t ts out once = λ row lt. sym (count_by-no (λ (t : Tile). has_cell t.0 row k) t ts (out row)) ∙ once row lt

-- a tile with cells of the column begins where the column ends so far
begins-there : (s n k : ℕ) (t : Tile) (ts : List Tile) → 0 < t.0.rows → t.0.first_row + t.0.rows ≤ n → has_column t.0 k ≡ true → Rising (t ∷ ts) → OnceFrom s n k (t ∷ ts) → t.0.first_row ≡ s
begins-there s n k t ts some within column rising once = by_sides (nat_lt t.0.first_row s) refl (nat_lt s t.0.first_row) refl
  where
    by_sides : (below : Bool) → nat_lt t.0.first_row s ≡ below → (above : Bool) → nat_lt s t.0.first_row ≡ above → t.0.first_row ≡ s
    by_sides true e above e' =
        let row_in : has_row t.0 t.0.first_row ≡ true = grind (arith, some) in
        let counted = count_by-yes (λ (u : Tile). has_cell u.0 t.0.first_row k) t ts (has-both t.0 t.0.first_row k row_in column) in
        let told = once t.0.first_row (omega (arith, some, within)) in
        let before : nat_le s t.0.first_row ≡ false = grind (arith, e) in
        let nothing : cond {A = ℕ} (nat_le s t.0.first_row) 1 0 ≡ 0 = rw before refl in
        absurd (omega (arith, counted, told, nothing))
    by_sides false e true e' =
        let less : s < t.0.first_row = grind (arith, e') in
        let none = no-cells-before s k (t ∷ ts) (less, all-after s t ts less rising.0) in
        let told = once s (omega (arith, less, some, within)) in
        let at : nat_le s s ≡ true = grind arith in
        let one : cond {A = ℕ} (nat_le s s) 1 0 ≡ 1 = rw at refl in
        absurd (omega (arith, none, told, one))
    by_sides false e false e' = grind (arith, e, e')

-- behind it the column goes on where it ends
once-next : (n k : ℕ) (t : Tile) (ts : List Tile) → has_column t.0 k ≡ true → OnceFrom t.0.first_row n k (t ∷ ts) → OnceFrom (t.0.first_row + t.0.rows) n k ts
once-next n k t ts column once = λ row lt. by_row row (has_row t.0 row) refl (once row lt)
  where
    by_row : (row : ℕ) (b : Bool) → has_row t.0 row ≡ b → count_by (λ (u : Tile). has_cell u.0 row k) (t ∷ ts) ≡ cond (nat_le t.0.first_row row) 1 0 → count_by (λ (u : Tile). has_cell u.0 row k) ts ≡ cond (nat_le (t.0.first_row + t.0.rows) row) 1 0
    by_row row true e told =
        let counted = count_by-yes (λ (u : Tile). has_cell u.0 row k) t ts (has-both t.0 row k e column) in
        let low : nat_le t.0.first_row row ≡ true = grind (arith, e) in
        let high : nat_le (t.0.first_row + t.0.rows) row ≡ false = grind (arith, e) in
        let one : cond {A = ℕ} (nat_le t.0.first_row row) 1 0 ≡ 1 = rw low refl in
        rw high (omega (arith, counted, told, one))
    by_row row false e told =
        let counted = count_by-no (λ (u : Tile). has_cell u.0 row k) t ts (no-cell t.0 row k e) in
        let same : nat_le (t.0.first_row + t.0.rows) row ≡ nat_le t.0.first_row row = grind (arith, e) in
        rw same (sym counted ∙ told)

-- the cells of a tile are the part of the column
tile-part : (f : Frame) (k : ℕ) (t : Tile) → IsFrame f → k < length f.schema.columns → LiesIn f t.0 → t.1 ≡ cut f t.0 → has_column t.0 k ≡ true → tile_cells k t ≡ slice_range (cells_of k f.rows) t.0.first_row (t.0.first_row + t.0.rows)
tile-part f k t is lt lies part column =
    let low : t.0.first_col ≤ k = grind (arith, column) in
    let high : k - t.0.first_col < t.0.cols = grind (arith, column) in
    let place : t.0.first_col + (k - t.0.first_col) ≡ k = omega (arith, low) in
    let cells : tile_cells k t ≡ cells_of (k - t.0.first_col) t.1.rows = rw column refl in
    cells
    ∙ ap (λ (g : Frame). cells_of (k - t.0.first_col) g.rows) part
    ∙ cells_of-cut t.0 (k - t.0.first_col) (slice_range f.rows t.0.first_row (t.0.first_row + t.0.rows)) high
    ∙ ap (λ n. cells_of n (slice_range f.rows t.0.first_row (t.0.first_row + t.0.rows))) place
    ∙ cells_of-slice t.0.first_row (t.0.first_row + t.0.rows) (length f.schema.columns) k f.rows lt (widths f is)

empty-slice : {X : Type 0} (a b : ℕ) (xs : List X) → b ≤ a → slice_range xs a b ≡ []
empty-slice a b xs le = let none : b - a ≡ 0 = omega (arith, le) in rw none refl

-- the tiles that are left make the rest of the column
pub column-joined : (f : Frame) (k s : ℕ) (ts : List Tile) → IsFrame f → k < length f.schema.columns → s ≤ length f.rows → AreParts f ts → OnceFrom s (length f.rows) k ts → joined_cells k ts ≡ drop s (cells_of k f.rows)
column-joined f k s [] is lt le are once = by_side (nat_lt s (length f.rows)) refl
  where
    by_side : (b : Bool) → nat_lt s (length f.rows) ≡ b → [] ≡ drop s (cells_of k f.rows)
    by_side true e =
        let at : nat_le s s ≡ true = grind arith in
        let one : cond {A = ℕ} (nat_le s s) 1 0 ≡ 1 = rw at refl in
        absurd (omega (arith, once s (grind (arith, e)), one))
    by_side false e =
        let all : length f.rows ≤ s = grind (arith, e) in
        sym (drop_all s (cells_of k f.rows) (omega (arith, all, length-cells_of (length f.schema.columns) k f.rows lt (widths f is))))
column-joined f k s (t ∷ ts) is lt le are once =
    by_tile (has_column t.0 k) refl (nat_lt 0 t.0.rows) refl
    (λ passed. column-joined f k s ts is lt le (later f t ts are) (once-passed s (length f.rows) k t ts passed once))
    (λ next. column-joined f k (t.0.first_row + t.0.rows) ts is lt are.inside.0.0 (later f t ts are) next)
  where
    by_tile : (column : Bool) → has_column t.0 k ≡ column → (some : Bool) → nat_lt 0 t.0.rows ≡ some → (((row : ℕ) → has_cell t.0 row k ≡ false) → joined_cells k ts ≡ drop s (cells_of k f.rows)) → (OnceFrom (t.0.first_row + t.0.rows) (length f.rows) k ts → joined_cells k ts ≡ drop (t.0.first_row + t.0.rows) (cells_of k f.rows)) → tile_cells k t ++ joined_cells k ts ≡ drop s (cells_of k f.rows)
    by_tile false column some some_is passed next = rw column (passed (λ row. no-column t.0 row k column))
    by_tile true column false some_is passed next =
        let none : t.0.rows ≡ 0 = grind (arith, some_is) in
        let empty : tile_cells k t ≡ [] = tile-part f k t is lt are.inside.0 are.parts.0 column ∙ empty-slice t.0.first_row (t.0.first_row + t.0.rows) (cells_of k f.rows) (omega (arith, none)) in
        rw empty (passed (λ row. no-cell t.0 row k (grind (arith, none))))
    by_tile true column true some_is passed next =
        let there = begins-there s (length f.rows) k t ts (grind (arith, some_is)) are.inside.0.0 column are.rising once in
        let onward : OnceFrom (t.0.first_row + t.0.rows) (length f.rows) k ts = once-next (length f.rows) k t ts column (subst (λ n. OnceFrom n (length f.rows) k (t ∷ ts)) (sym there) once) in
        rw (tile-part f k t is lt are.inside.0 are.parts.0 column, next onward, ← there) (sym (drop_split (cells_of k f.rows) t.0.first_row (t.0.first_row + t.0.rows) (omega arith)))

-- ---- the stamps

-- each row from s on is in a tile
abbrev pub SomeFrom : ℕ → ℕ → List Tile → Type 0
SomeFrom s n ts = (row : ℕ) → s ≤ row → row < n → 1 ≤ count_by (λ (t : Tile). has_row t.0 row) ts

take-more : {X : Type 0} (s m : ℕ) (xs : List X) → s ≤ length xs → take s xs ++ take m (drop s xs) ≡ take (s + m) xs
take-more s m xs le =
    let long : length (take s xs) ≡ s = length-take-le s xs le in
    sym (ap (take (s + m)) (sym (take-append-drop s xs)) ∙ ap (λ n. take (n + m) (take s xs ++ drop s xs)) (sym long) ∙ take-append-add (take s xs) (drop s xs) m)

-- the stamps of a tile are the part of the stamps
tile-stamps : (f : Frame) (t : Tile) → t.1 ≡ cut f t.0 → stamps_of t.1.rows ≡ slice_range (stamps_of f.rows) t.0.first_row (t.0.first_row + t.0.rows)
tile-stamps f t part =
    ap (λ (g : Frame). stamps_of g.rows) part
    ∙ stamps-cut t.0 (slice_range f.rows t.0.first_row (t.0.first_row + t.0.rows))
    ∙ slice-map (λ (r : Row). r.stamp) t.0.first_row (t.0.first_row + t.0.rows) f.rows

-- a tile that is reached already adds no stamp
reached-stamps : (xs : List ℤ) (s a n : ℕ) → a + n ≤ s → drop (s - a) (slice_range xs a (a + n)) ≡ []
reached-stamps xs s a n le =
    let width : (a + n) - a ≡ n = omega arith in
    drop_all (s - a) (slice_range xs a (a + n)) (omega (arith, length-take ((a + n) - a) (drop a xs), width, le))

-- one that goes beyond adds those beyond
beyond-stamps : (xs : List ℤ) (s a n : ℕ) → a ≤ s → s < a + n → drop (s - a) (slice_range xs a (a + n)) ≡ take ((a + n) - s) (drop s xs)
beyond-stamps xs s a n low high =
    let width : (a + n) - a ≡ (s - a) + ((a + n) - s) = omega (arith, low, high) in
    let place : a + (s - a) ≡ s = omega (arith, low) in
    rw width (drop-take (s - a) ((a + n) - s) (drop a xs)) ∙ ap (take ((a + n) - s)) (drop-drop (s - a) a xs ∙ ap (λ m. drop m xs) place)

pub stamps-joined : (f : Frame) (s : ℕ) (ts : List Tile) → s ≤ length f.rows → AreParts f ts → SomeFrom s (length f.rows) ts → joined_stamps (take s (stamps_of f.rows)) ts ≡ stamps_of f.rows
stamps-joined f s [] le are some = by_side (nat_lt s (length f.rows)) refl
  where
    by_side : (b : Bool) → nat_lt s (length f.rows) ≡ b → take s (stamps_of f.rows) ≡ stamps_of f.rows
    by_side true e = absurd (omega (arith, some s (omega arith) (grind (arith, e))))
    by_side false e =
        let all : length f.rows ≤ s = grind (arith, e) in
        take_all s (stamps_of f.rows) (omega (arith, all, length-map f.rows (λ (r : Row). r.stamp)))
stamps-joined f s (t ∷ ts) le are some =
    by_tile (nat_lt s (t.0.first_row + t.0.rows)) refl (nat_lt 0 t.0.rows) refl
    (λ same. stamps-joined f s ts le (later f t ts are) same)
    (λ more. stamps-joined f (t.0.first_row + t.0.rows) ts are.inside.0.0 (later f t ts are) more)
  where
    stamps : List ℤ
    stamps = stamps_of f.rows

    reach : length (take s stamps) ≡ s
    reach = length-take-le s stamps (omega (arith, le, length-map f.rows (λ (r : Row). r.stamp)))

    adds : with_stamps (take s stamps) t ≡ take s stamps ++ drop (s - t.0.first_row) (slice_range stamps t.0.first_row (t.0.first_row + t.0.rows))
    adds = rw (reach, tile-stamps f t are.parts.0) refl

    passes : (m : ℕ) → s ≤ m → ((row : ℕ) → m ≤ row → has_row t.0 row ≡ false) → SomeFrom m (length f.rows) ts
    passes m le_m out = λ row low lt. subst (λ n. 1 ≤ n) (count_by-no (λ (u : Tile). has_row u.0 row) t ts (out row low)) (some row (omega (arith, le_m, low)) lt)

    stays : (SomeFrom s (length f.rows) ts → joined_stamps (take s stamps) ts ≡ stamps) → ((row : ℕ) → s ≤ row → has_row t.0 row ≡ false) → drop (s - t.0.first_row) (slice_range stamps t.0.first_row (t.0.first_row + t.0.rows)) ≡ [] → joined_stamps (with_stamps (take s stamps) t) ts ≡ stamps
    stays same out none = ap (λ (us : List ℤ). joined_stamps us ts) (adds ∙ ap (λ (us : List ℤ). take s stamps ++ us) none ∙ append-nil (take s stamps)) ∙ same (passes s (omega arith) out)

    by_tile : (beyond : Bool) → nat_lt s (t.0.first_row + t.0.rows) ≡ beyond → (any : Bool) → nat_lt 0 t.0.rows ≡ any → (SomeFrom s (length f.rows) ts → joined_stamps (take s stamps) ts ≡ stamps) → (SomeFrom (t.0.first_row + t.0.rows) (length f.rows) ts → joined_stamps (take (t.0.first_row + t.0.rows) stamps) ts ≡ stamps) → joined_stamps (with_stamps (take s stamps) t) ts ≡ stamps
    by_tile false beyond any any_is same more =
        let le_s : t.0.first_row + t.0.rows ≤ s = grind (arith, beyond) in
        stays same (λ row low. grind (arith, le_s, low)) (reached-stamps stamps s t.0.first_row t.0.rows le_s)
    by_tile true beyond false any_is same more =
        let none : t.0.rows ≡ 0 = grind (arith, any_is) in
        let nothing : drop (s - t.0.first_row) (slice_range stamps t.0.first_row (t.0.first_row + t.0.rows)) ≡ [] = ap (drop (s - t.0.first_row)) (empty-slice t.0.first_row (t.0.first_row + t.0.rows) stamps (omega (arith, none))) ∙ drop_all (s - t.0.first_row) [] (omega arith) in
        stays same (λ row low. grind (arith, none)) nothing
    by_tile true beyond true any_is same more =
        let less : s < t.0.first_row + t.0.rows = grind (arith, beyond) in
        let low = first_below (nat_lt s t.0.first_row) refl (grind (arith, any_is)) in
        let sum : s + ((t.0.first_row + t.0.rows) - s) ≡ t.0.first_row + t.0.rows = omega (arith, less) in
        let grown : with_stamps (take s stamps) t ≡ take (t.0.first_row + t.0.rows) stamps = adds ∙ ap (λ (us : List ℤ). take s stamps ++ us) (beyond-stamps stamps s t.0.first_row t.0.rows low less) ∙ take-more s ((t.0.first_row + t.0.rows) - s) stamps (omega (arith, le, length-map f.rows (λ (r : Row). r.stamp))) ∙ ap (λ n. take n stamps) sum in
        ap (λ (us : List ℤ). joined_stamps us ts) grown ∙ more (passes (t.0.first_row + t.0.rows) (omega (arith, less)) (λ row high. grind (arith, high)))
      where
        first_below : (b : Bool) → nat_lt s t.0.first_row ≡ b → 0 < t.0.rows → t.0.first_row ≤ s
        first_below true e any =
            let before : s < t.0.first_row = grind (arith, e) in
            let none = no-rows-before s (t ∷ ts) (before, all-after s t ts before are.rising.0) in
            absurd (omega (arith, none, some s (omega arith) (omega (arith, before, any, are.inside.0.0))))
        first_below false e any = grind (arith, e)
