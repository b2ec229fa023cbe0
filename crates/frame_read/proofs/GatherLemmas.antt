-- What is gathered from tiles of a frame is the frame's rows in the range.
use Rattle.std.proofs.Common.{◌≡◌, ℕ, zero, suc, ◌+◌, ◌-◌, ◌≤◌, ◌<◌, ℤ, Bool, true, false, cond, not, ◌&&◌, ◌||◌, nat_lt, max, List, [], ◌∷◌, ◌++◌, length, map, take, drop, Some, None, refl, sym, ap, ◌∙◌, subst, arith, length-take}
use Rattle.std.specs.Prelude.{slice_get, slice_range, filter, option_map}
use Rattle.std.specs.List.{AllByRecursion, list_any, position_from}
use Rattle.std.proofs.lemmas.Bool.{true≢false, and_parts}
use Rattle.std.proofs.lemmas.List.{drop-drop, length-map, length-drop, map-append}
use Rattle.std.proofs.lemmas.List.Elements.{filter_map-append}
use Rattle.std.proofs.lemmas.List.Folds.{drop_split}
use Rattle.frame_core.specs.declared.cell.Cell.{Cell}
use Rattle.frame_core.specs.Texts.{Text, same_text}
use Rattle.frame_core.specs.Ranges.{Range, is_within}
use Rattle.frame_core.specs.Schemas.{Head, AreColumns, are_new}
use Rattle.frame_core.specs.Frames.{Row, Frame, IsFrame, stamp_at, stamps_of, rows_within}
use Rattle.frame_core.specs.Columns.{cells_of}
use Rattle.frame_core.specs.Selecting.{place_of}
use Rattle.frame_core.proofs.SelectLemmas.{same_text-true}
use Rattle.segment_cut.specs.Tiles.{Tile, cut, cut_row, has_row}
use Rattle.frame_core.specs.Parts.{has_column}
use Rattle.segment_cut.proofs.Cuts.{get-slice, stamps-cut, cells_of-cut}
use Rattle.segment_cut.proofs.Orders.{Rising}
use Rattle.frame_read.specs.Gathers.{fresh, reach, cells_gathered, stamps_gathered}
use Rattle.frame_read.proofs.SliceLemmas.{stamp_in, drop_get}

-- ---- lists

filter_append : {X : Type 0} (p : X → Bool) (xs ys : List X) → filter p (xs ++ ys) ≡ filter p xs ++ filter p ys
filter_append p [] ys = refl
filter_append p (x ∷ xs) ys = by (p x) refl (filter_append p xs ys)
  where
    by : (b : Bool) → p x ≡ b → filter p (xs ++ ys) ≡ filter p xs ++ filter p ys → filter p (x ∷ (xs ++ ys)) ≡ filter p (x ∷ xs) ++ filter p ys
    by true e more = rw e (ap (λ zs. x ∷ zs) more)
    by false e more = rw e more

filter_map_of : {X Y : Type 0} (p : Y → Bool) (g : X → Y) (xs : List X) → filter p (map g xs) ≡ map g (filter (λ x. p (g x)) xs)
filter_map_of p g [] = refl
filter_map_of p g (x ∷ xs) = by (p (g x)) refl (filter_map_of p g xs)
  where
    by : (b : Bool) → p (g x) ≡ b → filter p (map g xs) ≡ map g (filter (λ x. p (g x)) xs) → filter p (map g (x ∷ xs)) ≡ map g (filter (λ x. p (g x)) (x ∷ xs))
    by true e more = rw e (ap (λ zs. g x ∷ zs) more)
    by false e more = rw e more

filter_out : {X : Type 0} (p : X → Bool) (x : X) (xs : List X) → p x ≡ false → filter p (x ∷ xs) ≡ filter p xs
filter_out p x xs e = rw e refl

drop_map : {X Y : Type 0} (g : X → Y) (n : ℕ) (xs : List X) → drop n (map g xs) ≡ map g (drop n xs)
drop_map g zero xs = refl
drop_map g (suc n) [] = refl
drop_map g (suc n) (x ∷ xs) = drop_map g n xs

take_taken : {X : Type 0} (n : ℕ) (xs : List X) → take (length (take n xs)) xs ≡ take n xs
take_taken zero xs = refl
take_taken (suc n) [] = refl
take_taken (suc n) (x ∷ xs) = ap (λ zs. x ∷ zs) (take_taken n xs)

nothing : (X : Type 0) (m : ℕ) → ◌≡◌ {A = List X} [] (take m [])
nothing X zero = refl
nothing X (suc m) = refl

drop_taken : {X : Type 0} (k n : ℕ) (xs : List X) → drop k (take n xs) ≡ take (n - k) (drop k xs)
drop_taken zero n xs = let same : n - 0 ≡ n = omega arith in rw same refl
drop_taken (suc k) zero xs = let same : 0 - suc k ≡ 0 = omega arith in rw same refl
drop_taken {X = X} (suc k) (suc n) [] = nothing X (suc n - suc k)
drop_taken (suc k) (suc n) (x ∷ xs) = let same : suc n - suc k ≡ n - k = omega arith in rw same (drop_taken k n xs)

got_below : {X : Type 0} (xs : List X) (k : ℕ) (x : X) → slice_get xs k ≡ Some x → k < length xs
got_below [] k x e = absurd cc
got_below (y ∷ ys) zero x e = omega arith
got_below (y ∷ ys) (suc k) x e = let rest : k < length ys = got_below ys k x e in omega (arith, rest)

stamped_below : (rows : List Row) (k : ℕ) (t : ℤ) → stamp_in rows k ≡ Some t → k < length rows
stamped_below [] k t e = absurd cc
stamped_below (r ∷ rows) zero t e = omega arith
stamped_below (r ∷ rows) (suc k) t e = let rest : k < length rows = stamped_below rows k t e in omega (arith, rest)

-- ---- the place of a name

pos_some : {X : Type 0} (p : X → Bool) (n j : ℕ) (xs : List X) (x : X) → ((i : ℕ) (y : X) → i < j → slice_get xs i ≡ Some y → p y ≡ false) → slice_get xs j ≡ Some x → p x ≡ true → position_from p n xs ≡ Some (n + j)
pos_some p n j [] x others at is = absurd cc
pos_some {X = X} p n zero (y ∷ xs) x others at is =
    let same : p y ≡ true = ap p (some_same at) ∙ is in
    let place : n ≡ n + 0 = omega arith in
    rw same (ap (λ m. Some m) place)
  where
    some_same : {u v : X} → Some u ≡ Some v → u ≡ v
    some_same e = cc
pos_some p n (suc j) (y ∷ xs) x others at is =
    let out : p y ≡ false = others 0 y (omega arith) refl in
    let place : (n + 1) + j ≡ n + suc j = omega arith in
    rw out (pos_some p (n + 1) j xs x (λ i z lt there. others (suc i) z (omega (arith, lt)) there) at is ∙ ap (λ m. Some m) place)

pos_none : {X : Type 0} (p : X → Bool) (n : ℕ) (xs : List X) → ((i : ℕ) (y : X) → slice_get xs i ≡ Some y → p y ≡ false) → position_from p n xs ≡ None
pos_none p n [] others = refl
pos_none p n (y ∷ xs) others =
    let out : p y ≡ false = others 0 y refl in
    rw out (pos_none p (n + 1) xs (λ i z there. others (suc i) z there))

or_parts : (a b : Bool) → (a || b) ≡ false → (a ≡ false) × (b ≡ false)
or_parts true b e = absurd (true≢false e)
or_parts false b e = (refl, e)

not_true : (b : Bool) → not b ≡ true → b ≡ false
not_true true e = absurd (true≢false (sym e))
not_true false e = refl

-- a name behind others is none of them
new_at : (earlier : List Text) (hs : List Head) (i : ℕ) (h : Head) → are_new earlier (map (λ (c : Head). c.0) hs) ≡ true → slice_get hs i ≡ Some h → list_any (same_text h.0) earlier ≡ false
new_at earlier [] i h new at = absurd cc
new_at earlier (g ∷ hs) zero h new at =
    let same : g ≡ h = some_same at in
    subst (λ (x : Head). list_any (same_text x.0) earlier ≡ false) same (not_true (list_any (same_text g.0) earlier) (and_parts _ _ new).0)
  where
    some_same : {u v : Head} → Some u ≡ Some v → u ≡ v
    some_same e = cc
new_at earlier (g ∷ hs) (suc i) h new at = (or_parts _ _ (new_at (g.0 ∷ earlier) hs i h (and_parts _ _ new).1 at)).1

-- of two places the later has another name
apart : (earlier : List Text) (hs : List Head) (i j : ℕ) (g h : Head) → are_new earlier (map (λ (c : Head). c.0) hs) ≡ true → i < j → slice_get hs i ≡ Some g → slice_get hs j ≡ Some h → same_text h.0 g.0 ≡ false
apart earlier [] i j g h new lt at_i at_j = absurd cc
apart earlier (x ∷ hs) i zero g h new lt at_i at_j = absurd (omega (arith, lt))
apart earlier (x ∷ hs) zero (suc j) g h new lt at_i at_j =
    let same : x ≡ g = some_same at_i in
    subst (λ (y : Head). same_text h.0 y.0 ≡ false) same (or_parts _ _ (new_at (x.0 ∷ earlier) hs j h (and_parts _ _ new).1 at_j)).0
  where
    some_same : {u v : Head} → Some u ≡ Some v → u ≡ v
    some_same e = cc
apart earlier (x ∷ hs) (suc i) (suc j) g h new lt at_i at_j = apart (x.0 ∷ earlier) hs i j g h (and_parts _ _ new).1 (omega (arith, lt)) at_i at_j

-- another place has another name
pub other_name : (hs : List Head) (i k : ℕ) (g h : Head) → AreColumns hs → (i ≡ k → ⊥) → slice_get hs i ≡ Some g → slice_get hs k ≡ Some h → same_text h.0 g.0 ≡ false
other_name hs i k g h are differs at_i at_k = by_side (nat_lt i k) refl
  where
    flip : (b : Bool) → same_text h.0 g.0 ≡ b → same_text g.0 h.0 ≡ false → same_text h.0 g.0 ≡ false
    flip false e out = e
    flip true e out =
        let same : h.0 ≡ g.0 = same_text-true h.0 g.0 e in
        absurd (true≢false (sym e ∙ ap (λ (x : Text). same_text x g.0) same ∙ ap (λ (x : Text). same_text g.0 x) (sym same) ∙ out))

    by_side : (b : Bool) → nat_lt i k ≡ b → same_text h.0 g.0 ≡ false
    by_side true e = apart [] hs i k g h are.distinct (grind (arith, e)) at_i at_k
    by_side false e =
        let more : k < i = by_more (nat_lt k i) refl in
        flip (same_text h.0 g.0) refl (apart [] hs k i h g are.distinct more at_k at_i)
      where
        by_more : (c : Bool) → nat_lt k i ≡ c → k < i
        by_more true e' = grind (arith, e')
        by_more false e' = let same : i ≡ k = grind (arith, e, e') in absurd (differs same)

pub slice_below : {X : Type 0} (xs : List X) (a n i : ℕ) (x : X) → slice_get (slice_range xs a (a + n)) i ≡ Some x → (i < n) × (slice_get xs (a + i) ≡ Some x)
slice_below xs a n i x at =
    let long : (a + n) - a ≡ n = omega arith in
    let lt : i < n = omega (arith, got_below (slice_range xs a (a + n)) i x at, length-take ((a + n) - a) (drop a xs), long) in
    (lt, sym (get-slice a n i xs lt) ∙ at)

pub tile_place : (f : Frame) (t : Tile) (k : ℕ) (head : Head) → IsFrame f → slice_get f.schema.columns k ≡ Some head → t.1 ≡ cut f t.0 → same_text head.0 head.0 ≡ true → has_column t.0 k ≡ true → place_of head.0 t.1.schema.columns ≡ Some (k - t.0.first_col)
tile_place f t k head is at part self column =
    let low : t.0.first_col ≤ k = grind (arith, column) in
    let j : ℕ = k - t.0.first_col in
    let lt : k - t.0.first_col < t.0.cols = grind (arith, column) in
    let place : t.0.first_col + (k - t.0.first_col) ≡ k = omega (arith, low) in
    let there : slice_get (slice_range f.schema.columns t.0.first_col (t.0.first_col + t.0.cols)) (k - t.0.first_col) ≡ Some head = get-slice t.0.first_col t.0.cols (k - t.0.first_col) f.schema.columns lt ∙ ap (slice_get f.schema.columns) place ∙ at in
    let none : 0 + (k - t.0.first_col) ≡ k - t.0.first_col = omega arith in
    ap (λ (g : Frame). place_of head.0 g.schema.columns) part
    ∙ pos_some (λ (c : Head). same_text head.0 c.0) 0 (k - t.0.first_col) (slice_range f.schema.columns t.0.first_col (t.0.first_col + t.0.cols)) head
    (λ i y less there_i.
    let r = slice_below f.schema.columns t.0.first_col t.0.cols i y there_i in
    other_name f.schema.columns (t.0.first_col + i) k y head is.columns (λ same. absurd (omega (arith, same, less, low))) r.1 at) there self
    ∙ ap (λ m. Some m) none

pub tile_no_place : (f : Frame) (t : Tile) (k : ℕ) (head : Head) → IsFrame f → slice_get f.schema.columns k ≡ Some head → t.1 ≡ cut f t.0 → has_column t.0 k ≡ false → place_of head.0 t.1.schema.columns ≡ None
tile_no_place f t k head is at part column =
    ap (λ (g : Frame). place_of head.0 g.schema.columns) part
    ∙ pos_none (λ (c : Head). same_text head.0 c.0) 0 (slice_range f.schema.columns t.0.first_col (t.0.first_col + t.0.cols))
    (λ i y there_i.
    let r = slice_below f.schema.columns t.0.first_col t.0.cols i y there_i in
    other_name f.schema.columns (t.0.first_col + i) k y head is.columns (λ same. absurd (out i same r.0)) r.1 at)
  where
    out : (i : ℕ) → t.0.first_col + i ≡ k → i < t.0.cols → ⊥
    out i same lt = absurd (true≢false (sym (let within : has_column t.0 k ≡ true = grind (arith, same, lt) in within) ∙ column))

-- ---- rows in the range

rest : Range → ℕ → Frame → List Row
rest range s f = rows_within range (drop s f.rows)

no_rows : (range : Range) (rows : List Row) → ((i : ℕ) (x : ℤ) → stamp_in rows i ≡ Some x → is_within range x ≡ false) → rows_within range rows ≡ []
no_rows range [] out = refl
no_rows range (r ∷ rows) out = filter_out (λ (r : Row). is_within range r.stamp) r rows (out 0 r.stamp refl) ∙ no_rows range rows (λ i x at. out (suc i) x at)

skip_to : (f : Frame) (range : Range) (s m : ℕ) → s ≤ m → ((row : ℕ) (x : ℤ) → s ≤ row → row < m → stamp_at f row ≡ Some x → is_within range x ≡ false) → rows_within range (drop m f.rows) ≡ rows_within range (drop s f.rows)
skip_to f range s m le out =
    let wide : s + (m - s) ≡ m = omega (arith, le) in
    let none : rows_within range (slice_range f.rows s (s + (m - s))) ≡ [] = no_rows range (slice_range f.rows s (s + (m - s))) (λ i x at.
    let long : (s + (m - s)) - s ≡ m - s = omega arith in
    let lt : i < m - s = omega (arith, stamped_below (slice_range f.rows s (s + (m - s))) i x at, length-take ((s + (m - s)) - s) (drop s f.rows), long) in
    out (s + i) x (omega arith) (omega (arith, lt)) (ap (option_map (λ (r : Row). r.stamp)) (sym (get-slice s (m - s) i f.rows lt)) ∙ at)) in
    sym (ap (rows_within range) (drop_split f.rows s m le) ∙ filter_append (λ (r : Row). is_within range r.stamp) (slice_range f.rows s m) (drop m f.rows)
    ∙ ap (λ (rs : List Row). rs ++ rows_within range (drop m f.rows)) (ap (λ n. rows_within range (slice_range f.rows s n)) (sym wide) ∙ none))

-- the rows of the frame that a tile has
abbrev pub rows_in : Frame → Tile → List Row
rows_in f t = slice_range f.rows t.0.first_row (t.0.first_row + t.0.rows)

-- the rows that tiles which pass a test have from a row on
abbrev pub rows_left : (Tile → Bool) → Frame → Range → ℕ → List Tile → List Row
rows_left has f range s [] = []
rows_left has f range s (t ∷ ts) = cond (has t) (rows_within range (drop (s - t.0.first_row) (rows_in f t)) ++ rows_left has f range (max s (t.0.first_row + length (rows_in f t))) ts) (rows_left has f range s ts)

-- each row from s on that is in the range is in a tile that passes
abbrev pub Covers : (Tile → Bool) → Frame → Range → ℕ → List Tile → Type 0
Covers has f range s ts = (row : ℕ) (x : ℤ) → s ≤ row → stamp_at f row ≡ Some x → is_within range x ≡ true → list_any (λ (u : Tile). has u && has_row u.0 row) ts ≡ true

and_false : (b : Bool) → (b && false) ≡ false
and_false true = refl
and_false false = refl

any_skip : (has : Tile → Bool) (row : ℕ) (t : Tile) (ts : List Tile) → (has t && has_row t.0 row) ≡ false → list_any (λ (u : Tile). has u && has_row u.0 row) (t ∷ ts) ≡ true → list_any (λ (u : Tile). has u && has_row u.0 row) ts ≡ true
any_skip has row t ts out any = subst (λ (b : Bool). (b || list_any (λ (u : Tile). has u && has_row u.0 row) ts) ≡ true) out any

none_before : (has : Tile → Bool) (row a : ℕ) (ts : List Tile) → row < a → AllByRecursion (λ (u : Tile). a ≤ u.0.first_row) ts → list_any (λ (u : Tile). has u && has_row u.0 row) ts ≡ true → ⊥
none_before has row a [] lt all any = absurd (true≢false (sym any))
none_before has row a (u ∷ ts) lt all any =
    let out : has_row u.0 row ≡ false = grind (arith, all.0, lt) in
    none_before has row a ts lt all.1 (any_skip has row u ts (ap (λ b. has u && b) out ∙ and_false (has u)) any)

-- a tile's rows from s on
tile_rows : (f : Frame) (t : Tile) (s : ℕ) → drop (s - t.0.first_row) (rows_in f t) ≡ slice_range f.rows (max s t.0.first_row) (max s (t.0.first_row + length (rows_in f t)))
tile_rows f t s =
    let a = t.0.first_row in
    let n = (t.0.first_row + t.0.rows) - t.0.first_row in
    let k = s - t.0.first_row in
    let len = length (rows_in f t) in
    let place : t.0.first_row + (s - t.0.first_row) ≡ max s t.0.first_row = omega arith in
    let wide : length (rows_in f t) - (s - t.0.first_row) ≡ max s (t.0.first_row + length (rows_in f t)) - max s t.0.first_row = omega arith in
    ap (drop k) (sym (take_taken n (drop a f.rows))) ∙ drop_taken k len (drop a f.rows) ∙ ap (take (len - k)) (drop-drop k a f.rows ∙ ap (λ m. drop m f.rows) place) ∙ ap (λ m. take m (drop (max s t.0.first_row) f.rows)) wide

pub rows_left_is : (has : Tile → Bool) (f : Frame) (range : Range) (s : ℕ) (ts : List Tile) → Rising ts → Covers has f range s ts → rows_left has f range s ts ≡ rows_within range (drop s f.rows)
rows_left_is has f range s [] rising covers = sym (no_rows range (drop s f.rows) (λ i x at. by i x at (is_within range x) refl))
  where
    by : (i : ℕ) (x : ℤ) → stamp_in (drop s f.rows) i ≡ Some x → (b : Bool) → is_within range x ≡ b → is_within range x ≡ false
    by i x at true e = absurd (true≢false (sym (covers (s + i) x (omega arith) (sym (drop_get f.rows s i) ∙ at) e)))
    by i x at false e = e
rows_left_is has f range s (t ∷ ts) rising covers = by_tile (has t) refl
    (λ out. rows_left_is has f range s ts rising.1 (λ row x le at within. any_skip has row t ts (ap (λ b. b && has_row t.0 row) out) (covers row x le at within)))
    (rows_left_is has f range (max s (t.0.first_row + length (rows_in f t))) ts rising.1 (λ row x le at within. any_skip has row t ts (beyond row x le at) (covers row x (omega (arith, le)) at within)))
  where
    beyond : (row : ℕ) (x : ℤ) → max s (t.0.first_row + length (rows_in f t)) ≤ row → stamp_at f row ≡ Some x → (has t && has_row t.0 row) ≡ false
    beyond row x le at =
        let in_frame : row < length f.rows = stamped_below f.rows row x at in
        let long : (t.0.first_row + t.0.rows) - t.0.first_row ≡ t.0.rows = omega arith in
        let outside : t.0.first_row + t.0.rows ≤ row = omega (arith, le, in_frame, long, length-take ((t.0.first_row + t.0.rows) - t.0.first_row) (drop t.0.first_row f.rows), length-drop t.0.first_row f.rows) in
        let out : has_row t.0 row ≡ false = grind (arith, outside) in
        ap (λ b. has t && b) out ∙ and_false (has t)

    by_tile : (b : Bool) → has t ≡ b → (has t ≡ false → rows_left has f range s ts ≡ rows_within range (drop s f.rows)) → rows_left has f range (max s (t.0.first_row + length (rows_in f t))) ts ≡ rows_within range (drop (max s (t.0.first_row + length (rows_in f t))) f.rows) → rows_left has f range s (t ∷ ts) ≡ rows_within range (drop s f.rows)
    by_tile false e passed onward = rw e (passed e)
    by_tile true e passed onward =
        let m = max s (t.0.first_row + length (rows_in f t)) in
        let lo = max s t.0.first_row in
        let le : max s t.0.first_row ≤ max s (t.0.first_row + length (rows_in f t)) = omega arith in
        let picked : rows_left has f range s (t ∷ ts) ≡ rows_within range (drop (s - t.0.first_row) (rows_in f t)) ++ rows_left has f range m ts = rw e refl in
        picked
        ∙ ap (λ (rs : List Row). rows_within range rs ++ rows_left has f range m ts) (tile_rows f t s)
        ∙ ap (λ (rs : List Row). rows_within range (slice_range f.rows lo m) ++ rs) onward
        ∙ sym (filter_append (λ (r : Row). is_within range r.stamp) (slice_range f.rows lo m) (drop m f.rows))
        ∙ ap (rows_within range) (sym (drop_split f.rows lo m le))
        ∙ skip_to f range s lo (omega arith) (λ row x low high at. not_in row x low high at (is_within range x) refl)
      where
        not_in : (row : ℕ) (x : ℤ) → s ≤ row → row < max s t.0.first_row → stamp_at f row ≡ Some x → (b : Bool) → is_within range x ≡ b → is_within range x ≡ false
        not_in row x low high at true is =
            let less : row < t.0.first_row = omega (arith, low, high) in
            let same : t.0.first_row ≤ t.0.first_row = omega arith in
            absurd (none_before has row t.0.first_row (t ∷ ts) less (same, rising.0) (covers row x low at is))
        not_in row x low high at false is = is

-- ---- stamps and cells

fresh_cut : (f : Frame) (range : Range) (s : ℕ) (t : Tile) → t.1 ≡ cut f t.0 → fresh range s t ≡ map (cut_row t.0) (rows_within range (drop (s - t.0.first_row) (rows_in f t)))
fresh_cut f range s t part =
    ap (λ (g : Frame). rows_within range (drop (s - t.0.first_row) g.rows)) part
    ∙ ap (rows_within range) (drop_map (cut_row t.0) (s - t.0.first_row) (rows_in f t))
    ∙ filter_map_of (λ (r : Row). is_within range r.stamp) (cut_row t.0) (drop (s - t.0.first_row) (rows_in f t))

reach_cut : (f : Frame) (s : ℕ) (t : Tile) → t.1 ≡ cut f t.0 → reach s t ≡ max s (t.0.first_row + length (rows_in f t))
reach_cut f s t part = ap (λ (g : Frame). max s (t.0.first_row + length g.rows)) part ∙ ap (λ n. max s (t.0.first_row + n)) (length-map (rows_in f t) (cut_row t.0))

pub stamps_left : (f : Frame) (range : Range) (s : ℕ) (ts : List Tile) → AllByRecursion (λ (t : Tile). t.1 ≡ cut f t.0) ts → stamps_gathered range s ts ≡ stamps_of (rows_left (λ t. true) f range s ts)
stamps_left f range s [] parts = refl
stamps_left f range s (t ∷ ts) parts =
    let here = rows_within range (drop (s - t.0.first_row) (rows_in f t)) in
    let m = max s (t.0.first_row + length (rows_in f t)) in
    ap (λ (rs : List Row). stamps_of rs ++ stamps_gathered range (reach s t) ts) (fresh_cut f range s t parts.0)
    ∙ ap (λ (xs : List ℤ). xs ++ stamps_gathered range (reach s t) ts) (stamps-cut t.0 here)
    ∙ ap (λ n. stamps_of here ++ stamps_gathered range n ts) (reach_cut f s t parts.0)
    ∙ ap (λ (xs : List ℤ). stamps_of here ++ xs) (stamps_left f range m ts parts.1)
    ∙ sym (map-append (λ (r : Row). r.stamp) here (rows_left (λ t. true) f range m ts))

pub cells_left : (f : Frame) (range : Range) (k : ℕ) (head : Head) (s : ℕ) (ts : List Tile) → IsFrame f → slice_get f.schema.columns k ≡ Some head → same_text head.0 head.0 ≡ true → AllByRecursion (λ (t : Tile). t.1 ≡ cut f t.0) ts
    → cells_gathered range head.0 s ts ≡ cells_of k (rows_left (λ t. has_column t.0 k) f range s ts)
cells_left f range k head s [] is at self parts = refl
cells_left f range k head s (t ∷ ts) is at self parts = by (has_column t.0 k) refl (cells_left f range k head s ts is at self parts.1) (cells_left f range k head (max s (t.0.first_row + length (rows_in f t))) ts is at self parts.1)
  where
    has : Tile → Bool
    has t = has_column t.0 k

    here : List Row
    here = rows_within range (drop (s - t.0.first_row) (rows_in f t))

    m : ℕ
    m = max s (t.0.first_row + length (rows_in f t))

    by : (b : Bool) → has_column t.0 k ≡ b → cells_gathered range head.0 s ts ≡ cells_of k (rows_left has f range s ts) → cells_gathered range head.0 m ts ≡ cells_of k (rows_left has f range m ts)
        → cells_gathered range head.0 s (t ∷ ts) ≡ cells_of k (rows_left has f range s (t ∷ ts))
    by false e passed onward =
        let none : place_of head.0 t.1.schema.columns ≡ None = tile_no_place f t k head is at parts.0 e in
        let left : cells_gathered range head.0 s (t ∷ ts) ≡ cells_gathered range head.0 s ts = rw (cells_gathered, none) refl in
        let right : rows_left has f range s (t ∷ ts) ≡ rows_left has f range s ts = let no : has t ≡ false = e in rw no refl in
        left ∙ passed ∙ ap (cells_of k) (sym right)
    by true e passed onward =
        let j = k - t.0.first_col in
        let low : t.0.first_col ≤ k = grind (arith, e) in
        let lt : k - t.0.first_col < t.0.cols = grind (arith, e) in
        let place : t.0.first_col + (k - t.0.first_col) ≡ k = omega (arith, low) in
        let there : place_of head.0 t.1.schema.columns ≡ Some (k - t.0.first_col) = tile_place f t k head is at parts.0 self e in
        let left : cells_gathered range head.0 s (t ∷ ts) ≡ cells_of (k - t.0.first_col) (fresh range s t) ++ cells_gathered range head.0 (reach s t) ts = rw (cells_gathered, there) refl in
        let right : rows_left has f range s (t ∷ ts) ≡ here ++ rows_left has f range m ts = let yes : has t ≡ true = e in rw yes refl in
        let cells : cells_of (k - t.0.first_col) (fresh range s t) ≡ cells_of k here = ap (cells_of j) (fresh_cut f range s t parts.0) ∙ cells_of-cut t.0 j here lt ∙ ap (λ n. cells_of n here) place in
        left
        ∙ ap (λ (cs : List Cell). cs ++ cells_gathered range head.0 (reach s t) ts) cells
        ∙ ap (λ n. cells_of k here ++ cells_gathered range head.0 n ts) (reach_cut f s t parts.0)
        ∙ ap (λ (cs : List Cell). cells_of k here ++ cs) onward
        ∙ sym (ap (cells_of k) right ∙ filter_map-append (λ (r : Row). slice_get r.cells k) here (rows_left has f range m ts))

-- of tiles of a frame
pub stamps_all : (f : Frame) (range : Range) (ts : List Tile) → AllByRecursion (λ (t : Tile). t.1 ≡ cut f t.0) ts → Rising ts → Covers (λ t. true) f range 0 ts → stamps_gathered range 0 ts ≡ stamps_of (rows_within range f.rows)
stamps_all f range ts parts rising covers = stamps_left f range 0 ts parts ∙ ap stamps_of (rows_left_is (λ t. true) f range 0 ts rising covers)

pub cells_all : (f : Frame) (range : Range) (k : ℕ) (head : Head) (ts : List Tile) → IsFrame f → slice_get f.schema.columns k ≡ Some head → same_text head.0 head.0 ≡ true → AllByRecursion (λ (t : Tile). t.1 ≡ cut f t.0) ts → Rising ts → Covers (λ t. has_column t.0 k) f range 0 ts
    → cells_gathered range head.0 0 ts ≡ cells_of k (rows_within range f.rows)
cells_all f range k head ts is at self parts rising covers = cells_left f range k head 0 ts is at self parts ∙ ap (cells_of k) (rows_left_is (λ t. has_column t.0 k) f range 0 ts rising covers)
