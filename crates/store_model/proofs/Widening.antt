-- What stays where cells may be missing: a session whose frames have the base's own columns, the tilings of frames without missing cells, and the tiles
-- that a wider version shares with its base.
use Rattle.std.proofs.Common.{◌≡◌, ℕ, zero, suc, ◌+◌, ◌<◌, ◌≤◌, true, false, ◌&&◌, not, List, [], ◌∷◌, ◌++◌, map, length, refl, ap, sym, ◌∙◌, subst, cond, arith}
use Rattle.std.specs.Prelude.{filter, take, drop, slice_range, count_by, ◌-◌}
use Rattle.std.specs.List.{list_any, AllByRecursion}
use Rattle.std.proofs.lemmas.Bool.{and_parts, or_parts, or_from, or_left, or_right, not-true}
use Rattle.std.proofs.lemmas.Slice.Eq.{bytes_eq-Decides}
use Rattle.std.proofs.lemmas.List.{take-append-le, drop-append-le, length-drop}
use Rattle.frame_core.specs.declared.part.Part.{Part}
use Rattle.frame_core.specs.Texts.{Text, same_text}
use Rattle.frame_core.specs.Schemas.{Head, Schema, are_new}
use Rattle.frame_core.specs.Frames as strict
use Rattle.segment_cut.specs.Tiles as strict_tiles
use Rattle.segment_cut.proofs.Lists.{count_by-map}
use Rattle.store_model.specs.Dynamic.{Seen, seen, WideRow, WideFrame, is_named, union, cell_named, widen, cut_row, cut, LiesIn, Tiled}

same_self : (name : Text) → same_text name name ≡ true
same_self name = (bytes_eq-Decides name name).1 refl

append_none : {A : Type 0} (xs : List A) → xs ++ [] ≡ xs
append_none [] = refl
append_none (x ∷ xs) = ap (λ ys. x ∷ ys) (append_none xs)

-- ---- the same columns

-- columns that are all there add none
adds_none : (all some : List Head) → AllByRecursion (λ (c : Head). is_named all c.0 ≡ true) some → filter (λ (c : Head). not (is_named all c.0)) some ≡ []
adds_none all [] each = refl
adds_none all (c ∷ some) each = ap (λ b. cond (not b) (c ∷ filter (λ (c : Head). not (is_named all c.0)) some) (filter (λ (c : Head). not (is_named all c.0)) some)) each.0 ∙ adds_none all some each.1

named_all : (front columns : List Head) → AllByRecursion (λ (c : Head). is_named (front ++ columns) c.0 ≡ true) columns
named_all front [] = tt
named_all front (c ∷ columns) = (here front, subst (λ all. AllByRecursion (λ (d : Head). is_named all d.0 ≡ true) columns) (moved front) (named_all (front ++ c ∷ []) columns))
  where
    here : (xs : List Head) → is_named (xs ++ c ∷ columns) c.0 ≡ true
    here [] = or_left _ _ (same_self c.0)
    here (x ∷ xs) = or_right _ _ (here xs)

    moved : (xs : List Head) → (xs ++ c ∷ []) ++ columns ≡ xs ++ c ∷ columns
    moved [] = refl
    moved (x ∷ xs) = ap (λ ys. x ∷ ys) (moved xs)

-- the columns of a frame with itself are its own
pub union_self : (columns : List Head) → union columns columns ≡ columns
union_self columns = ap (λ new. columns ++ new) (adds_none columns columns (named_all [] columns)) ∙ append_none columns

-- names that are new behind more names are new behind fewer
new_behind_fewer : (more fewer names : List Text) → ((n : Text) → list_any (same_text n) more ≡ false → list_any (same_text n) fewer ≡ false) → are_new more names ≡ true → are_new fewer names ≡ true
new_behind_fewer more fewer [] sub e = refl
new_behind_fewer more fewer (name ∷ names) sub e =
    let parts = and_parts (not (list_any (same_text name) more)) (are_new (name ∷ more) names) e in
    let here : list_any (same_text name) fewer ≡ false = sub name (not-true _ parts.0) in
    (λ i. not (here i) && are_new (name ∷ fewer) names) ∙ new_behind_fewer (name ∷ more) (name ∷ fewer) names (λ n f. let p = or_parts (same_text n name) (list_any (same_text n) more) f in or_from _ _ p.0 (sub n p.1)) parts.1

-- no name behind the first is the first
others : (name : Text) (earlier : List Text) (columns : List Head) → are_new (name ∷ earlier) (map (λ (c : Head). c.0) columns) ≡ true → AllByRecursion (λ (c : Head). same_text c.0 name ≡ false) columns
others name earlier [] e = tt
others name earlier (c ∷ columns) e =
    let parts = and_parts (not (list_any (same_text c.0) (name ∷ earlier))) (are_new (c.0 ∷ name ∷ earlier) (map (λ (c : Head). c.0) columns)) e in (
      (or_parts (same_text c.0 name) (list_any (same_text c.0) earlier) (not-true _ parts.0)).0,
      others name earlier columns (new_behind_fewer (c.0 ∷ name ∷ earlier) (name ∷ earlier) (map (λ (c : Head). c.0) columns) (λ n f. (or_parts (same_text n c.0) (list_any (same_text n) (name ∷ earlier)) f).1) parts.1),
    )

-- behind a column of another name a cell is the one that it was
past_first : (c : Head) (columns some : List Head) (x : Seen) (cells : List Seen) → AllByRecursion (λ (d : Head). same_text d.0 c.0 ≡ false) some
    → map (λ (d : Head). cell_named d.0 (c ∷ columns) (x ∷ cells)) some ≡ map (λ (d : Head). cell_named d.0 columns cells) some
past_first c columns [] x cells each = refl
past_first c columns (d ∷ some) x cells each = λ i. cond (each.0 i) x (cell_named d.0 columns cells) ∷ past_first c columns some x cells each.1 i

-- each column has its own cell
own_cells : (columns : List Head) (cells : List Seen) → are_new [] (map (λ (c : Head). c.0) columns) ≡ true → length cells ≡ length columns → map (λ (c : Head). cell_named c.0 columns cells) columns ≡ cells
own_cells [] [] new len = refl
own_cells [] (x ∷ cells) new len = absurd (omega (arith, len))
own_cells (c ∷ columns) [] new len = absurd (omega (arith, len))
own_cells (c ∷ columns) (x ∷ cells) new len =
    let parts = and_parts (not (list_any (same_text c.0) [])) (are_new (c.0 ∷ []) (map (λ (c : Head). c.0) columns)) new in
    let rest : length cells ≡ length columns = omega (arith, len) in
    let fewer : are_new [] (map (λ (c : Head). c.0) columns) ≡ true = new_behind_fewer (c.0 ∷ []) [] (map (λ (c : Head). c.0) columns) (λ n f. refl) parts.1 in
    (λ i. cond (same_self c.0 i) x (cell_named c.0 columns cells) ∷ past_first c columns columns x cells (others c.0 [] columns parts.1) i)
    ∙ ap (λ ys. x ∷ ys) (own_cells columns cells fewer rest)

-- a row under its own columns is itself
pub widen_self : (columns : List Head) (r : WideRow) → are_new [] (map (λ (c : Head). c.0) columns) ≡ true → length r.cells ≡ length columns → widen columns columns r ≡ r
widen_self columns r new len = λ i. record { stamp = r.stamp; cells = own_cells columns r.cells new len i }

-- ---- tiles

-- a frame without missing cells
abbrev pub wide_row : strict.Row → WideRow
wide_row r = record { stamp = r.stamp; cells = map seen r.cells }

abbrev pub wide : strict.Frame → WideFrame
wide f = record { schema = f.schema; rows = map wide_row f.rows }

abbrev pub wide_tile : strict_tiles.Tile → Part × WideFrame
wide_tile t = (t.0, wide t.1)

map_take : {A B : Type 0} (f : A → B) (n : ℕ) (xs : List A) → take n (map f xs) ≡ map f (take n xs)
map_take f zero xs = refl
map_take f (suc n) [] = refl
map_take f (suc n) (x ∷ xs) = ap (λ ys. f x ∷ ys) (map_take f n xs)

map_drop : {A B : Type 0} (f : A → B) (n : ℕ) (xs : List A) → drop n (map f xs) ≡ map f (drop n xs)
map_drop f zero xs = refl
map_drop f (suc n) [] = refl
map_drop f (suc n) (x ∷ xs) = map_drop f n xs

map_slice : {A B : Type 0} (f : A → B) (xs : List A) (from to : ℕ) → slice_range (map f xs) from to ≡ map f (slice_range xs from to)
map_slice f xs from to = ap (take (to - from)) (map_drop f from xs) ∙ map_take f (to - from) (drop from xs)

map_length : {A B : Type 0} (f : A → B) (xs : List A) → length (map f xs) ≡ length xs
map_length f [] = refl
map_length f (x ∷ xs) = ap suc (map_length f xs)

cut_rows_wide : (part : Part) (rows : List strict.Row) → map wide_row (map (strict_tiles.cut_row part) rows) ≡ map (cut_row part) (map wide_row rows)
cut_rows_wide part [] = refl
cut_rows_wide part (r ∷ rows) =
    λ i. record { stamp = r.stamp; cells = sym (map_slice seen r.cells part.first_col (part.first_col + part.cols)) i } ∷ cut_rows_wide part rows i

-- the part of a frame is the same part
cut_wide : (f : strict.Frame) (part : Part) → wide (strict_tiles.cut f part) ≡ cut (wide f) part
cut_wide f part = λ i. record {
  schema = record f.schema { columns = slice_range f.schema.columns part.first_col (part.first_col + part.cols) };
  rows = (cut_rows_wide part (slice_range f.rows part.first_row (part.first_row + part.rows)) ∙ ap (map (cut_row part)) (sym (map_slice wide_row f.rows part.first_row (part.first_row + part.rows)))) i;
}

-- the tiles of a frame without missing cells are its tiles still
pub tiled_wide : (f : strict.Frame) (tiles : List strict_tiles.Tile) → strict_tiles.Tiled f tiles → Tiled (wide f) (map wide_tile tiles)
tiled_wide f tiles t =
    let same : length (wide f).rows ≡ length f.rows = map_length wide_row f.rows in
    record {
      inside = inside tiles t.inside same;
      parts = parts tiles t.parts;
      once = λ row column r c.
          let one : count_by (λ (t : Part × WideFrame). strict_tiles.has_cell t.0 row column) (map wide_tile tiles) ≡ 1 = count_by-map (λ (t : Part × WideFrame). strict_tiles.has_cell t.0 row column) wide_tile tiles ∙ t.cells row column (subst (λ n. row < n) same r) c in
          omega (arith, one);
      absent = λ row column r c none.
          let one : count_by (λ (t : Part × WideFrame). strict_tiles.has_cell t.0 row column) (map wide_tile tiles) ≡ 1 = count_by-map (λ (t : Part × WideFrame). strict_tiles.has_cell t.0 row column) wide_tile tiles ∙ t.cells row column (subst (λ n. row < n) same r) c in
          absurd (omega (arith, one, none));
      rows = λ row r. subst (λ n. 1 ≤ n) (sym (count_by-map (λ (t : Part × WideFrame). strict_tiles.has_row t.0 row) wide_tile tiles)) (t.rows row (subst (λ n. row < n) same r));
    }
  where
    inside : (ts : List strict_tiles.Tile) → AllByRecursion (λ t. strict_tiles.LiesIn f t.0) ts → length (wide f).rows ≡ length f.rows → AllByRecursion (λ (t : Part × WideFrame). LiesIn (wide f) t.0) (map wide_tile ts)
    inside [] all same = tt
    inside (x ∷ ts) all same = ((subst (λ n. x.0.first_row + x.0.rows ≤ n) (sym same) all.0.0, all.0.1), inside ts all.1 same)

    parts : (ts : List strict_tiles.Tile) → AllByRecursion (λ t. t.1 ≡ strict_tiles.cut f t.0) ts → AllByRecursion (λ (t : Part × WideFrame). t.1 ≡ cut (wide f) t.0) (map wide_tile ts)
    parts [] all = tt
    parts (x ∷ ts) all = (ap wide all.0 ∙ cut_wide f x.0, parts ts all.1)

-- ---- a tile that a wider version shares with its base

map_append : {A B : Type 0} (f : A → B) (xs ys : List A) → map f (xs ++ ys) ≡ map f xs ++ map f ys
map_append f [] ys = refl
map_append f (x ∷ xs) ys = ap (λ zs. f x ∷ zs) (map_append f xs ys)

slice_front : {A : Type 0} (xs ys : List A) (from count : ℕ) → from + count ≤ length xs → slice_range (xs ++ ys) from (from + count) ≡ slice_range xs from (from + count)
slice_front xs ys from count within =
    let start : from ≤ length xs = omega (arith, within) in
    let rest : length (drop from xs) ≡ length xs - from = length-drop from xs in
    let enough : (from + count) - from ≤ length (drop from xs) = omega (arith, within, rest) in
    ap (take ((from + count) - from)) (drop-append-le from xs ys start) ∙ take-append-le ((from + count) - from) (drop from xs) ys enough

all_drop : {A : Type 0} (P : A → Type 0) (n : ℕ) (xs : List A) → AllByRecursion P xs → AllByRecursion P (drop n xs)
all_drop P zero xs all = all
all_drop P (suc n) [] all = tt
all_drop P (suc n) (x ∷ xs) all = all_drop P n xs all.1

all_take : {A : Type 0} (P : A → Type 0) (n : ℕ) (xs : List A) → AllByRecursion P xs → AllByRecursion P (take n xs)
all_take P zero xs all = tt
all_take P (suc n) [] all = tt
all_take P (suc n) (x ∷ xs) all = (all.0, all_take P n xs all.1)

-- a row under more columns has the same cells in the columns that it had
cut_widened : (columns new : List Head) (part : Part) (r : WideRow) → are_new [] (map (λ (c : Head). c.0) columns) ≡ true → length r.cells ≡ length columns → part.first_col + part.cols ≤ length columns
    → cut_row part (widen columns (columns ++ new) r) ≡ cut_row part r
cut_widened columns new part r names len within =
    let cells : map (λ (c : Head). cell_named c.0 columns r.cells) (columns ++ new) ≡ r.cells ++ map (λ (c : Head). cell_named c.0 columns r.cells) new =
    map_append (λ (c : Head). cell_named c.0 columns r.cells) columns new ∙ ap (λ xs. xs ++ map (λ (c : Head). cell_named c.0 columns r.cells) new) (own_cells columns r.cells names len) in
    let inside : part.first_col + part.cols ≤ length r.cells = omega (arith, within, len) in
    λ i. record {
      stamp = r.stamp;
      cells = (ap (λ xs. slice_range xs part.first_col (part.first_col + part.cols)) cells ∙ slice_front r.cells (map (λ (c : Head). cell_named c.0 columns r.cells) new) part.first_col part.cols inside) i;
    }

cut_widened_rows : (columns new : List Head) (part : Part) (rows : List WideRow) → are_new [] (map (λ (c : Head). c.0) columns) ≡ true → AllByRecursion (λ (r : WideRow). length r.cells ≡ length columns) rows
    → part.first_col + part.cols ≤ length columns → map (cut_row part) (map (widen columns (columns ++ new)) rows) ≡ map (cut_row part) rows
cut_widened_rows columns new part [] names each within = refl
cut_widened_rows columns new part (r ∷ rows) names each within = λ i. cut_widened columns new part r names each.0 within i ∷ cut_widened_rows columns new part rows names each.1 within i

-- the tile of the base is the same part of the wider frame, in front of fresh rows
pub shared_tile : (schema : Schema) (columns more : List Head) (base fresh : List WideRow) (part : Part) → are_new [] (map (λ (c : Head). c.0) columns) ≡ true
    → AllByRecursion (λ (r : WideRow). length r.cells ≡ length columns) base → part.first_row + part.rows ≤ length base → part.first_col + part.cols ≤ length columns
    → cut (record { schema = record schema { columns = union columns more }; rows = map (widen columns (union columns more)) base ++ fresh }) part
    ≡ cut (record { schema = record schema { columns = columns }; rows = base }) part
shared_tile schema columns more base fresh part names each rows_in cols_in =
    let new : List Head = filter (λ (c : Head). not (is_named columns c.0)) more in
    let from = part.first_row in
    let to = part.first_row + part.rows in
    let long : from + part.rows ≤ length (map (widen columns (columns ++ new)) base) = subst (λ n. from + part.rows ≤ n) (sym (map_length (widen columns (columns ++ new)) base)) rows_in in
    let sliced : slice_range (map (widen columns (columns ++ new)) base ++ fresh) from to ≡ map (widen columns (columns ++ new)) (slice_range base from to) =
    slice_front (map (widen columns (columns ++ new)) base) fresh from part.rows long ∙ map_slice (widen columns (columns ++ new)) base from to in
    let within = all_take (λ (r : WideRow). length r.cells ≡ length columns) (to - from) (drop from base) (all_drop (λ (r : WideRow). length r.cells ≡ length columns) from base each) in
    λ i. record {
      schema = record schema { columns = slice_front columns new part.first_col part.cols cols_in i };
      rows = (ap (map (cut_row part)) sliced ∙ cut_widened_rows columns new part (slice_range base from to) names within cols_in) i;
    }
