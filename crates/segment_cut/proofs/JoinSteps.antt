-- The steps of joining.
use Rattle.std.proofs.Common.{◌≡◌, ℕ, zero, suc, ◌+◌, ◌-◌, ◌<◌, ◌≤◌, ℤ, Bool, true, false, cond, ◌&&◌, nat_le, nat_lt, List, [], ◌∷◌, ◌++◌, length, map, get_or, drop, Some, refl, sym, ap, ◌∙◌, subst, arith, Bor}
use Rattle.std.specs.Prelude.{slice_get, slice_set, option_map}
use Rattle.std.specs.List.{AllByRecursion}
use Rattle.std.specs.List.Sorted.{IsPermutation, IsNonDecreasingBy}
use Rattle.std.proofs.lemmas.List.{drop_all, length-map, get_or-map, get_or-set_other, append_assoc, append-nil}
use Rattle.std.proofs.lemmas.Grind.{get_or-set_at}
use Rattle.std.proofs.lemmas.Option.{slice_get-map}
use Rattle.frame_core.specs.declared.cell.ColType.{ColType}
use Rattle.frame_core.specs.declared.cell.Cell.{Cell}
use Rattle.frame_core.specs.declared.column.Column.{Column}
use Rattle.frame_core.specs.Schemas.{Head, Schema}
use Rattle.frame_core.specs.Frames.{Row, Frame, stamps_of, type_at}
use Rattle.frame_core.specs.Columns.{column_type, column_cells, cells_of, columns_from}
use Rattle.frame_core.proofs.MakerLemmas.{map-set}
use Rattle.frame_core.proofs.ColumnParts.{slice-map}
use Rattle.segment_cut.specs.Tiles.{Tile, LiesIn, cut}
use Rattle.segment_cut.specs.Joins.{IsTiledBy, AreTiles, tile_cells, joined_cells, with_stamps, joined_stamps, FitsKinds}
use Rattle.segment_cut.proofs.Cuts.{get-slice}
use Rattle.segment_cut.proofs.Orders.{Rising-from, Tiled-permutation}
use Rattle.segment_cut.proofs.Joined.{AreParts, OnceFrom, column-joined, stamps-joined}

-- one column grew by cells
pub set-appended : (cols : List Column) (i : ℕ) (old new : Column) (more : List Cell) → i < length cols → old ≡ get_or cols i old → column_cells new ≡ column_cells old ++ more → map column_cells (slice_set cols i new) ≡ slice_set (map column_cells cols) i (get_or (map column_cells cols) i [] ++ more)
set-appended cols i old new more lt at grown = map-set column_cells cols i new ∙ ap (slice_set (map column_cells cols) i) (grown ∙ ap (λ (c : List Cell). c ++ more) (ap column_cells at ∙ sym (get_or-map column_cells cols i old [] lt)))

-- the cells that the first n columns of a tile have of a column
abbrev pub first_cells : ℕ → ℕ → Tile → List Cell
first_cells n k t = cond (nat_le t.0.first_col k && nat_lt k (t.0.first_col + n)) (cells_of (k - t.0.first_col) t.1.rows) []

pub no-first_cells : (k : ℕ) (t : Tile) → first_cells 0 k t ≡ []
no-first_cells k t = let out : (nat_le t.0.first_col k && nat_lt k (t.0.first_col + 0)) ≡ false = grind arith in rw out refl

-- one column of the tile more
pub column-step : (t : Tile) (n at k : ℕ) (olds cols new : List (List Cell)) (more : List Cell) → at ≡ t.0.first_col + n → at < length cols → more ≡ cells_of n t.1.rows → new ≡ slice_set cols at (get_or cols at [] ++ more) → get_or cols k [] ≡ get_or olds k [] ++ first_cells n k t → get_or new k [] ≡ get_or olds k [] ++ first_cells (n + 1) k t
column-step t n at k olds cols new more place within more_is new_is before = by_sides (nat_lt k at) refl (nat_lt at k) refl
  where
    other : ((nat_le t.0.first_col k && nat_lt k (t.0.first_col + (n + 1))) ≡ (nat_le t.0.first_col k && nat_lt k (t.0.first_col + n))) → (k ≡ at → ⊥) → get_or new k [] ≡ get_or olds k [] ++ first_cells (n + 1) k t
    other same differs = ap (λ (cs : List (List Cell)). get_or cs k []) new_is ∙ get_or-set_other cols at k _ [] differs ∙ rw same before

    by_sides : (below : Bool) → nat_lt k at ≡ below → (above : Bool) → nat_lt at k ≡ above → get_or new k [] ≡ get_or olds k [] ++ first_cells (n + 1) k t
    by_sides true e above e' = other (grind (arith, e, place)) (λ same. absurd (grind (arith, e, same)))
    by_sides false e true e' = other (grind (arith, e', place)) (λ same. absurd (grind (arith, e', same)))
    by_sides false e false e' =
        let same : k ≡ at = grind (arith, e, e') in
        let out : (nat_le t.0.first_col k && nat_lt k (t.0.first_col + n)) ≡ false = grind (arith, same, place) in
        let in_it : (nat_le t.0.first_col k && nat_lt k (t.0.first_col + (n + 1))) ≡ true = grind (arith, same, place) in
        let count : k - t.0.first_col ≡ n = omega (arith, same, place) in
        let nothing : get_or cols k [] ≡ get_or olds k [] = before ∙ rw out (append-nil (get_or olds k [])) in
        ap (λ (cs : List (List Cell)). get_or cs k []) new_is
        ∙ get_or-set_at cols at k _ [] same within
        ∙ ap (λ (c : List Cell). c ++ more) (ap (λ i. get_or cols i []) (sym same) ∙ nothing)
        ∙ ap (λ (c : List Cell). get_or olds k [] ++ c) (more_is ∙ ap (λ i. cells_of i t.1.rows) (sym count))
        ∙ rw in_it refl

-- the type of a column of the tile is that of the frame's column
pub kind-at : (kinds : List ColType) (cols : List Column) (t : Tile) (n : ℕ) (more : Column) → map column_type cols ≡ kinds → FitsKinds kinds t → n < t.0.cols → type_at t.1 n ≡ Some (column_type more) → option_map column_type (slice_get cols (t.0.first_col + n)) ≡ Some (column_type more)
kind-at kinds cols t n more is fits lt at =
    sym (slice_get-map column_type cols (t.0.first_col + n))
    ∙ ap (λ (ks : List ColType). slice_get ks (t.0.first_col + n)) is
    ∙ sym (get-slice t.0.first_col t.0.cols n kinds lt)
    ∙ ap (λ (ks : List ColType). slice_get ks n) (sym fits.1)
    ∙ slice_get-map (λ (h : Head). h.1) t.1.schema.columns n
    ∙ at

pub empty-cells : (cols : List Column) → AllByRecursion (λ (c : Column). column_cells c ≡ []) cols → (k : ℕ) → get_or (map column_cells cols) k [] ≡ []
empty-cells [] all k = refl
empty-cells (c ∷ cols) all zero = all.0
empty-cells (c ∷ cols) all (suc k) = empty-cells cols all.1 k

-- columns that are those of rows, one by one
pub columns-are : (cs : List (List Cell)) (k n : ℕ) (rows : List Row) → length cs ≡ n → ((i : ℕ) → i < n → get_or cs i [] ≡ cells_of (k + i) rows) → cs ≡ columns_from k n rows
columns-are [] k zero rows long each = refl
columns-are [] k (suc n) rows long each = absurd (omega (arith, long))
columns-are (c ∷ cs) k zero rows long each = absurd (omega (arith, long))
columns-are (c ∷ cs) k (suc n) rows long each =
    let here : k + 0 ≡ k = omega arith in
    let first : c ≡ cells_of k rows = each 0 (omega arith) ∙ ap (λ i. cells_of i rows) here in
    let rest : cs ≡ columns_from (k + 1) n rows = columns-are cs (k + 1) n rows (omega (arith, long)) (λ i lt. each (suc i) (omega (arith, lt)) ∙ ap (λ j. cells_of j rows) (omega arith)) in
    rw (first, rest) refl

-- ---- the tiles of a frame, in the order of their first rows

parts-of : (schema : Schema) (tiles sorted : List Tile) (f : Frame) → IsTiledBy schema tiles f → IsPermutation tiles sorted → IsNonDecreasingBy (λ (t : Tile). t.0.first_row) sorted → AreParts f sorted
parts-of schema tiles sorted f is moved up =
    let tiled = Tiled-permutation f tiles sorted moved is.tiled in
    record { inside = tiled.inside; parts = tiled.parts; rising = Rising-from sorted up }

pub sorted-stamps : (schema : Schema) (tiles sorted : List Tile) (f : Frame) → IsTiledBy schema tiles f → IsPermutation tiles sorted → IsNonDecreasingBy (λ (t : Tile). t.0.first_row) sorted → joined_stamps [] sorted ≡ stamps_of f.rows
sorted-stamps schema tiles sorted f is moved up =
    let tiled = Tiled-permutation f tiles sorted moved is.tiled in
    stamps-joined f 0 sorted (omega arith) (parts-of schema tiles sorted f is moved up) (λ row low lt. tiled.rows row lt)

pub sorted-column : (schema : Schema) (tiles sorted : List Tile) (f : Frame) (k : ℕ) → IsTiledBy schema tiles f → IsPermutation tiles sorted → IsNonDecreasingBy (λ (t : Tile). t.0.first_row) sorted → k < length f.schema.columns → joined_cells k sorted ≡ cells_of k f.rows
sorted-column schema tiles sorted f k is moved up lt =
    let tiled = Tiled-permutation f tiles sorted moved is.tiled in
    let once : OnceFrom 0 (length f.rows) k sorted = λ row row_lt. tiled.cells row k row_lt lt ∙ (let all : nat_le 0 row ≡ true = grind arith in rw all refl) in
    column-joined f k 0 sorted is.is_frame lt (omega arith) (parts-of schema tiles sorted f is moved up) once

-- a tile's columns have the types of the schema's
fits-part : (f : Frame) (t : Tile) → LiesIn f t.0 → t.1 ≡ cut f t.0 → FitsKinds (map (λ (h : Head). h.1) f.schema.columns) t
fits-part f t lies part = (omega (arith, lies.1, length-map f.schema.columns (λ (h : Head). h.1)), ap (λ (g : Frame). map (λ (h : Head). h.1) g.schema.columns) part ∙ slice-map (λ (h : Head). h.1) t.0.first_col (t.0.first_col + t.0.cols) f.schema.columns)

fits-parts : (f : Frame) (ts : List Tile) → AllByRecursion (λ (t : Tile). LiesIn f t.0) ts → AllByRecursion (λ (t : Tile). t.1 ≡ cut f t.0) ts → AllByRecursion (FitsKinds (map (λ (h : Head). h.1) f.schema.columns)) ts
fits-parts f [] inside parts = tt
fits-parts f (t ∷ ts) inside parts = (fits-part f t inside.0 parts.0, fits-parts f ts inside.1 parts.1)

pub sorted-kinds : (schema : Schema) (tiles sorted : List Tile) → AreTiles schema tiles → IsPermutation tiles sorted → AllByRecursion (FitsKinds (map (λ (h : Head). h.1) schema.columns)) sorted
sorted-kinds schema tiles sorted are moved =
    let tiled = Tiled-permutation are.frame tiles sorted moved are.is.tiled in
    rw (← are.is.schema_is) (fits-parts are.frame sorted tiled.inside tiled.parts)

-- ---- the loop over the tiles

-- the tile at a place, and those that are left behind it
next-tile : (refs : List (Bor Tile)) (r : Bor Tile) (i : ℕ) → i < length refs → r ≡ get_or refs i r → drop i (map (λ (t : Bor Tile). t.now) refs) ≡ r.now ∷ drop (i + 1) (map (λ (t : Bor Tile). t.now) refs)
next-tile [] r i lt at = absurd (omega arith)
next-tile (q ∷ refs) r zero lt at = ap (λ (t : Bor Tile). t.now ∷ map (λ (t : Bor Tile). t.now) refs) (sym at)
next-tile (q ∷ refs) r (suc i) lt at = let one : suc i + 1 ≡ suc (i + 1) = omega arith in rw one (next-tile refs r i (omega arith) at)

all-lent : (P : Tile → Type 0) (refs : List (Bor Tile)) (r : Bor Tile) (i : ℕ) → AllByRecursion P (map (λ (t : Bor Tile). t.now) refs) → i < length refs → r ≡ get_or refs i r → P r.now
all-lent P [] r i all lt at = absurd (omega arith)
all-lent P (q ∷ refs) r zero all lt at = subst (λ (t : Bor Tile). P t.now) (sym at) all.0
all-lent P (q ∷ refs) r (suc i) all lt at = all-lent P refs r i all.1 (omega arith) at

-- the tile that is taken has the columns' types
pub fits-next : (schema : Schema) (tiles : List Tile) (refs : List (Bor Tile)) (r : Bor Tile) (i : ℕ) (kinds : List ColType) → AreTiles schema tiles → IsPermutation tiles (map (λ (t : Bor Tile). t.now) refs) → i < length refs → r ≡ get_or refs i r → kinds ≡ map (λ (h : Head). h.1) schema.columns → FitsKinds kinds r.now
fits-next schema tiles refs r i kinds are moved lt at same = rw same (all-lent (FitsKinds (map (λ (h : Head). h.1) schema.columns)) refs r i (sorted-kinds schema tiles (map (λ (t : Bor Tile). t.now) refs) are moved) lt at)

pub stamps-step : (refs : List (Bor Tile)) (r : Bor Tile) (i : ℕ) (old new total : List ℤ) → i < length refs → r ≡ get_or refs i r → new ≡ with_stamps old r.now → joined_stamps old (drop i (map (λ (t : Bor Tile). t.now) refs)) ≡ total → joined_stamps new (drop (i + 1) (map (λ (t : Bor Tile). t.now) refs)) ≡ total
stamps-step refs r i old new total lt at is left =
    let behind = drop (i + 1) (map (λ (t : Bor Tile). t.now) refs) in
    ap (λ (ts : List ℤ). joined_stamps ts behind) is ∙ sym (ap (joined_stamps old) (next-tile refs r i lt at)) ∙ left

pub cells-step : (refs : List (Bor Tile)) (r : Bor Tile) (i k : ℕ) (old new total : List Cell) → i < length refs → r ≡ get_or refs i r → new ≡ old ++ tile_cells k r.now → old ++ joined_cells k (drop i (map (λ (t : Bor Tile). t.now) refs)) ≡ total → new ++ joined_cells k (drop (i + 1) (map (λ (t : Bor Tile). t.now) refs)) ≡ total
cells-step refs r i k old new total lt at is left =
    let behind = drop (i + 1) (map (λ (t : Bor Tile). t.now) refs) in
    ap (λ (cs : List Cell). cs ++ joined_cells k behind) is
    ∙ append_assoc old (tile_cells k r.now) (joined_cells k behind)
    ∙ sym (ap (λ (ts : List Tile). old ++ joined_cells k ts) (next-tile refs r i lt at))
    ∙ left

-- what was made has the schema, the stamps and the columns of the frame
pub record Made (f : Frame) (schema : Schema) (stamps : List ℤ) (cols : List Column) : Type 0 where
  pub schema_is : schema ≡ f.schema
  pub stamps_are : stamps ≡ stamps_of f.rows
  pub kinds : map column_type cols ≡ map (λ (h : Head). h.1) f.schema.columns
  pub cells : map column_cells cols ≡ columns_from 0 (length f.schema.columns) f.rows

pub made : (schema copy : Schema) (tiles : List Tile) (refs : List (Bor Tile)) (i : ℕ) (stamps : List ℤ) (cols moved : List Column) (f : Frame) → IsTiledBy schema tiles f → IsPermutation tiles (map (λ (t : Bor Tile). t.now) refs) → IsNonDecreasingBy (λ (t : Tile). t.0.first_row) (map (λ (t : Bor Tile). t.now) refs) → length refs ≤ i → copy ≡ schema → moved ≡ cols → joined_stamps stamps (drop i (map (λ (t : Bor Tile). t.now) refs)) ≡ joined_stamps [] (map (λ (t : Bor Tile). t.now) refs) → ((k : ℕ) → get_or (map column_cells cols) k [] ++ joined_cells k (drop i (map (λ (t : Bor Tile). t.now) refs)) ≡ joined_cells k (map (λ (t : Bor Tile). t.now) refs)) → map column_type cols ≡ map (λ (h : Head). h.1) schema.columns → Made f copy stamps moved
made schema copy tiles refs i stamps cols moved f is permuted up all copied moves stamps_left cells_left kinds =
    let sorted = map (λ (t : Bor Tile). t.now) refs in
    let none : drop i sorted ≡ [] = drop_all i sorted (omega (arith, all, length-map refs (λ (t : Bor Tile). t.now))) in
    let width : length (map column_cells cols) ≡ length f.schema.columns = omega (arith, length-map cols column_cells, length-map cols column_type, ap length kinds, length-map schema.columns (λ (h : Head). h.1), ap (λ (s : Schema). length s.columns) is.schema_is) in
    record {
      schema_is = copied ∙ sym is.schema_is;
      stamps_are = sym (ap (joined_stamps stamps) none) ∙ stamps_left ∙ sorted-stamps schema tiles sorted f is permuted up;
      kinds = rw (moves, is.schema_is) kinds;
      cells = rw moves (columns-are (map column_cells cols) 0 (length f.schema.columns) f.rows width (λ k lt.
          sym (ap (λ (ts : List Tile). get_or (map column_cells cols) k [] ++ joined_cells k ts) none ∙ append-nil (get_or (map column_cells cols) k []))
          ∙ cells_left k
          ∙ sorted-column schema tiles sorted f k is permuted up lt
          ∙ ap (λ n. cells_of n f.rows) (omega arith)));
    }
