-- A frame that is made again of its columns.
use Rattle.std.proofs.Common.{◌≡◌, ℕ, zero, suc, ◌+◌, ◌<◌, ◌≤◌, max, ℤ, pos, negsuc, Bool, true, false, not, T, leb, List, [], ◌∷◌, ◌++◌, map, length, get_or, take, fold, Some, None, Ok, refl, sym, ap, subst, ◌∙◌, arith, zero-add}
use Rattle.std.specs.Prelude.{slice_get, sum_by, nat_eq, int_lt, ◌≤ℤ◌}
use Rattle.std.specs.List.{AllByRecursion, list_any}
use Rattle.std.proofs.lemmas.Bool.{eq-eqb, leb-true, le-ltb, not-true}
use Rattle.byte_fields.proofs.Steps.{both_true}
use Rattle.std.proofs.lemmas.List.{take_more, take_all, length-map, map-append}
use Rattle.std.proofs.lemmas.Option.{get_or_from_slice_get, slice_get_within, slice_get-map}
use Rattle.frame_core.specs.declared.cell.ColType.{ColType}
use Rattle.frame_core.specs.declared.cell.Cell.{Cell}
use Rattle.frame_core.specs.declared.column.Column.{Column}
use Rattle.frame_core.specs.declared.raw.RawFrame.{RawFrame}
use Rattle.frame_core.specs.Texts.{Text, same_text}
use Rattle.frame_core.specs.Schemas.{Head, are_new}
use Rattle.frame_core.specs.Frames.{Row, Frame, stamps_of, NeverFall, type_at}
use Rattle.frame_core.specs.Limits.{all_text_bytes, longest_text, too_large, frame_too_large, IsStorable}
use Rattle.frame_core.specs.Columns.{column_type, column_cells, rows_from, cells_of, columns_from}
use Rattle.frame_core.specs.RawFrames.{typed_cells, bad_column, bad_row, heads_from, table_of, table_too_large, frame_from}
use Rattle.frame_core.proofs.Rows.{rows_from-columns, length-columns_from}
use Rattle.frame_core.proofs.RawLemmas.{table_limits, made}
use Rattle.frame_core.proofs.FrameLimits.{frame_limits}
use Rattle.segment_bytes.specs.Views.{name_of}
use Rattle.segment_bytes.proofs.Turning.{storable_wide, column_lens}

-- ---- one more

pub copied_more : {X Y : Type 0} (f : X → Y) (xs new : List X) (x : X) (ys : List Y) (y : Y) (i : ℕ) → map f xs ≡ take i ys → slice_get ys i ≡ Some y → new ≡ xs ++ x ∷ [] → f x ≡ y → map f new ≡ take (i + 1) ys
copied_more {X} {Y} f xs new x ys y i so_far at pushed same =
    let is : get_or ys i y ≡ y = get_or_from_slice_get ys i y y at in
    ap (map f) pushed ∙ map-append f xs (x ∷ []) ∙ (λ j. so_far j ++ same j ∷ []) ∙ ap (λ (z : Y). take i ys ++ z ∷ []) (sym is) ∙ sym (take_more ys i y (slice_get_within ys i y at))

pub copied_same : {X : Type 0} (xs new : List X) (x : X) (ys : List X) (y : X) (i : ℕ) → xs ≡ take i ys → slice_get ys i ≡ Some y → new ≡ xs ++ x ∷ [] → x ≡ y → new ≡ take (i + 1) ys
copied_same {X} xs new x ys y i so_far at pushed same =
    let is : get_or ys i y ≡ y = get_or_from_slice_get ys i y y at in
    pushed ∙ (λ j. so_far j ++ same j ∷ []) ∙ ap (λ (z : X). take i ys ++ z ∷ []) (sym is) ∙ sym (take_more ys i y (slice_get_within ys i y at))

pub name_at : (f : Frame) (col : ℕ) (name : Text) → name_of f col ≡ Some name → slice_get (map (λ (h : Head). h.0) f.schema.columns) col ≡ Some name
name_at f col name e = slice_get-map (λ (h : Head). h.0) f.schema.columns col ∙ e

pub kind_at : (f : Frame) (col : ℕ) (kind : ColType) → type_at f col ≡ Some kind → slice_get (map (λ (h : Head). h.1) f.schema.columns) col ≡ Some kind
kind_at f col kind e = slice_get-map (λ (h : Head). h.1) f.schema.columns col ∙ e

column_at : (k n j : ℕ) (rows : List Row) → j < n → slice_get (columns_from k n rows) j ≡ Some (cells_of (k + j) rows)
column_at k zero j rows lt = absurd (omega arith)
column_at k (suc n) zero rows lt = let here : k ≡ k + 0 = omega arith in ap (λ (m : ℕ). Some (cells_of m rows)) here
column_at k (suc n) (suc j) rows lt = let there : (k + 1) + j ≡ k + suc j = omega arith in column_at (k + 1) n j rows (omega arith) ∙ ap (λ (m : ℕ). Some (cells_of m rows)) there

pub cells_at_column : (f : Frame) (col : ℕ) → col < length f.schema.columns → slice_get (columns_from 0 (length f.schema.columns) f.rows) col ≡ Some (cells_of col f.rows)
cells_at_column f col lt = column_at 0 (length f.schema.columns) col f.rows lt ∙ ap (λ (m : ℕ). Some (cells_of m f.rows)) (zero-add col)

pub columns_all : (f : Frame) (n : ℕ) (cols : List (List Cell)) → length f.schema.columns ≤ n → cols ≡ take n (columns_from 0 (length f.schema.columns) f.rows) → cols ≡ columns_from 0 (length f.schema.columns) f.rows
columns_all f n cols le e = e ∙ take_all n (columns_from 0 (length f.schema.columns) f.rows) (omega (arith, length-columns_from (length f.schema.columns) 0 f.rows))

-- ---- the raw parts of a storable frame are not refused

-- a column with its type
abbrev Typed : Type 0
Typed = ColType × List Cell

good_columns : (n rows : ℕ) (earlier names : List Text) (cols : List Typed) → are_new earlier names ≡ true → length names ≡ length cols → AllByRecursion (λ (c : Typed). length c.1 ≡ rows) cols → bad_column n rows earlier names cols ≡ None
good_columns n rows earlier [] [] new count lens = refl
good_columns n rows earlier [] (c ∷ cols) new count lens = absurd (omega arith)
good_columns n rows earlier (name ∷ names) [] new count lens = absurd (omega arith)
good_columns n rows earlier (name ∷ names) (c ∷ cols) new count lens =
    let b = both_true (not (list_any (same_text name) earlier)) (are_new (name ∷ earlier) names) new in
    let fresh : list_any (same_text name) earlier ≡ false = not-true (list_any (same_text name) earlier) b.0 in
    let long : nat_eq (length c.1) rows ≡ true = eq-eqb (length c.1) rows lens.0 in
    rw (fresh, long) (good_columns (n + 1) rows (name ∷ earlier) names cols b.1 (omega arith) lens.1)

true_from : (t : Bool) → T t → t ≡ true
true_from true h = refl
true_from false h = absurd h

not_below : (a b : ℤ) → a ≤ℤ b → int_lt b a ≡ false
not_below (pos a) (pos b) h = le-ltb b a (leb-true a b (true_from (leb a b) h.le))
not_below (pos a) (negsuc b) h = absurd h.le
not_below (negsuc a) (pos b) h = refl
not_below (negsuc a) (negsuc b) h = le-ltb a b (leb-true b a (true_from (leb b a) h.le))

good_rows : (n : ℕ) (stamps : List ℤ) → NeverFall stamps → bad_row n stamps ≡ None
good_rows n [] never = refl
good_rows n (t ∷ []) never = refl
good_rows n (t ∷ u ∷ more) never = rw (not_below t u never.0) (good_rows (n + 1) (u ∷ more) never.1)

heads_again : (heads : List Head) (names : List Text) (cols : List Typed) → names ≡ map (λ (h : Head). h.0) heads → map (λ (c : Typed). c.0) cols ≡ map (λ (h : Head). h.1) heads → heads_from names cols ≡ heads
heads_again [] names [] n k = ap (λ (ns : List Text). heads_from ns []) n
heads_again [] names (c ∷ cols) n k = absurd cc
heads_again (h ∷ heads) names [] n k = absurd cc
heads_again (h ∷ heads) names (c ∷ cols) n k =
    let kind : c.0 ≡ h.1 = cc in
    let kinds : map (λ (d : Typed). d.0) cols ≡ map (λ (g : Head). g.1) heads = cc in
    let rest = heads_again heads (map (λ (g : Head). g.0) heads) cols refl kinds in
    ap (λ (ns : List Text). heads_from ns (c ∷ cols)) n ∙ (λ i. (h.0, kind i) ∷ rest i)

-- the types and the lengths of columns with their types
types_of : (cols : List Column) → map (λ (c : Typed). c.0) (map typed_cells cols) ≡ map column_type cols
types_of [] = refl
types_of (c ∷ cols) = ap (λ (ks : List ColType). column_type c ∷ ks) (types_of cols)

cells_in_typed : (cols : List Column) → map (λ (c : Typed). c.1) (map typed_cells cols) ≡ map column_cells cols
cells_in_typed [] = refl
cells_in_typed (c ∷ cols) = ap (λ (cs : List (List Cell)). column_cells c ∷ cs) (cells_in_typed cols)

lens_typed : (n : ℕ) (cols : List Column) → AllByRecursion (λ (c : List Cell). length c ≡ n) (map column_cells cols) → AllByRecursion (λ (c : Typed). length c.1 ≡ n) (map typed_cells cols)
lens_typed n [] lens = tt
lens_typed n (c ∷ cols) lens = (lens.0, lens_typed n cols lens.1)

-- the parts are those of the frame
pub record PartsOf (f : Frame) (raw : RawFrame) : Type 0 where
  pub stamps : raw.stamps ≡ stamps_of f.rows
  pub names : raw.names ≡ map (λ (h : Head). h.0) f.schema.columns
  pub types : map column_type raw.columns ≡ map (λ (h : Head). h.1) f.schema.columns
  pub cells : map column_cells raw.columns ≡ columns_from 0 (length f.schema.columns) f.rows

pub remade : (f : Frame) (raw : RawFrame) → IsStorable f → PartsOf f raw → frame_from raw ≡ Ok f
remade f raw is p =
    let n = length f.schema.columns in
    let wide = storable_wide f is in
    let rows : rows_from raw.stamps (map column_cells raw.columns) ≡ f.rows = (λ i. rows_from (p.stamps i) (p.cells i)) ∙ rows_from-columns n f.rows wide in
    let count : length raw.stamps ≡ length f.rows = ap length p.stamps ∙ length-map f.rows (λ (r : Row). r.stamp) in
    let lens : AllByRecursion (λ (c : List Cell). length c ≡ length raw.stamps) (map column_cells raw.columns) =
    subst (λ (k : ℕ). AllByRecursion (λ (c : List Cell). length c ≡ k) (map column_cells raw.columns)) (sym count) (subst (λ (cs : List (List Cell)). AllByRecursion (λ (c : List Cell). length c ≡ length f.rows) cs) (sym p.cells) (column_lens n 0 n f.rows (zero-add n) wide)) in
    let name_count : length raw.names ≡ n = ap length p.names ∙ length-map f.schema.columns (λ (h : Head). h.0) in
    let column_count : length raw.columns ≡ n = sym (length-map raw.columns column_type) ∙ ap length p.types ∙ length-map f.schema.columns (λ (h : Head). h.1) in
    let greatest : max (length raw.names) (length raw.columns) ≡ n = (λ i. max (name_count i) (column_count i)) ∙ max_same n in
    let limits : table_too_large (table_of raw) ≡ None =
    table_limits raw
    ∙ ap (λ (k : ℕ). too_large (length raw.stamps) k (fold max 0 (map (λ (c : Column). longest_text (column_cells c)) raw.columns)) (sum_by (λ (c : Column). all_text_bytes (column_cells c)) raw.columns)) greatest
    ∙ sym (frame_limits f.schema raw.stamps raw.columns lens)
    ∙ ap (λ (rs : List Row). frame_too_large (record { schema = f.schema; rows = rs })) rows
    ∙ is.within in
    let new : are_new [] raw.names ≡ true = ap (are_new []) p.names ∙ is.is_frame.columns.distinct in
    let columns : bad_column 1 (length raw.stamps) [] raw.names (map typed_cells raw.columns) ≡ None =
    good_columns 1 (length raw.stamps) [] raw.names (map typed_cells raw.columns) new (name_count ∙ sym column_count ∙ sym (length-map raw.columns typed_cells)) (lens_typed (length raw.stamps) raw.columns lens) in
    let sorted : bad_row 1 raw.stamps ≡ None = ap (bad_row 1) p.stamps ∙ good_rows 1 (stamps_of f.rows) is.is_frame.ascending in
    let heads : heads_from raw.names (map typed_cells raw.columns) ≡ f.schema.columns = heads_again f.schema.columns raw.names (map typed_cells raw.columns) p.names (types_of raw.columns ∙ p.types) in
    let all_rows : rows_from raw.stamps (map (λ (c : Typed). c.1) (map typed_cells raw.columns)) ≡ f.rows = ap (rows_from raw.stamps) (cells_in_typed raw.columns) ∙ rows in
    let timed : true ≡ f.schema.timed = sym is.timed in
    made raw limits columns sorted ∙ (λ i. Ok (record { schema = record { timed = timed i; columns = heads i }; rows = all_rows i }))
  where
    max_same : (k : ℕ) → max k k ≡ k
    max_same k = omega arith
