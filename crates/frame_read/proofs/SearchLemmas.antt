-- A search by halves ends where the rows that it passes end; a column is found by its name and at its place.
use Rattle.std.proofs.Common.{◌≡◌, ℕ, zero, suc, ◌+◌, ◌-◌, ◌≤◌, ◌<◌, ℤ, ◌≤ℤ◌, Bool, true, false, not, List, [], ◌∷◌, length, drop, get_or, map, Option, Some, None, refl, sym, ap, ◌∙◌, subst, arith}
use Rattle.std.specs.Prelude.{slice_get, int_lt, count_by, option_map}
use Rattle.std.specs.Option.{option_map_or}
use Rattle.std.specs.List.{position_from}
use Rattle.std.proofs.lemmas.Bool.{true≢false}
use Rattle.std.proofs.lemmas.Int.{ints}
use Rattle.std.proofs.lemmas.List.{length-drop}
use Rattle.std.proofs.lemmas.Option.{get_or_from_slice_get, slice_get_within}
use Rattle.frame_core.specs.Ranges.{Range}
use Rattle.frame_core.specs.Texts.{Text, same_text}
use Rattle.frame_core.specs.Schemas.{Head}
use Rattle.frame_core.specs.Frames.{Frame, NeverFall, type_at}
use Rattle.frame_core.specs.Columns.{cells_of}
use Rattle.frame_core.specs.Selecting.{place_of}
use Rattle.frame_core.proofs.Counts.{far, count_at_point}
use Rattle.frame_core.proofs.Rows.{drop_at_place}
use Rattle.segment_bytes.specs.Sheets.{Series, sheet_of}
use Rattle.segment_bytes.proofs.Turning.{heads-series_from}
use Rattle.segment_bytes.proofs.Writes.{column-at}
use Rattle.frame_read.specs.declared.searching.Edge.{Edge}
use Rattle.frame_read.specs.declared.searching.Edge.TheVariants as edges
use Rattle.frame_read.specs.Gathers.{passes}

below_too : (from : Option ℤ) (t u : ℤ) → t ≤ℤ u → option_map_or (λ x. int_lt u x) from false ≡ true → option_map_or (λ x. int_lt t x) from false ≡ true
below_too None t u le e = absurd cc
below_too (Some from) t u le e = grind (arith, ints)

up_to_too : (to : Option ℤ) (t u : ℤ) → t ≤ℤ u → not (option_map_or (λ x. int_lt x u) to false) ≡ true → not (option_map_or (λ x. int_lt x t) to false) ≡ true
up_to_too None t u le e = refl
up_to_too (Some to) t u le e = grind (arith, ints)

-- before a stamp that is passed each is
passed_too : (edge : Edge) (range : Range) (t u : ℤ) → t ≤ℤ u → passes edge range u ≡ true → passes edge range t ≡ true
passed_too edges.Begin range t u le e = below_too range.from t u le e
passed_too edges.End range t u le e = up_to_too range.to t u le e

-- behind a stamp that is not passed none is
left_too : (edge : Edge) (range : Range) (t u : ℤ) → t ≤ℤ u → passes edge range t ≡ false → passes edge range u ≡ false
left_too edge range t u le out = by (passes edge range u) refl
  where
    by : (b : Bool) → passes edge range u ≡ b → passes edge range u ≡ false
    by true e = absurd (true≢false (sym (passed_too edge range t u le e) ∙ out))
    by false e = e

pub passed_before : (edge : Edge) (range : Range) (ts : List ℤ) (m : ℕ) (t : ℤ) → NeverFall ts → slice_get ts m ≡ Some t → passes edge range t ≡ true → (k : ℕ) (d : ℤ) → k < m + 1 → passes edge range (get_or ts k d) ≡ true
passed_before edge range ts m t rising at is k d lt =
    passed_too edge range (get_or ts k d) t (subst (λ (z : ℤ). get_or ts k d ≤ℤ z) (get_or_from_slice_get ts m t d at) (far ts k m d rising (omega (arith, lt)) (slice_get_within ts m t at))) is

pub left_behind : (edge : Edge) (range : Range) (ts : List ℤ) (m : ℕ) (t : ℤ) → NeverFall ts → slice_get ts m ≡ Some t → passes edge range t ≡ false → (k : ℕ) (d : ℤ) → m ≤ k → k < length ts → passes edge range (get_or ts k d) ≡ false
left_behind edge range ts m t rising at out k d le lt =
    left_too edge range t (get_or ts k d) (subst (λ (z : ℤ). z ≤ℤ get_or ts k d) (get_or_from_slice_get ts m t d at) (far ts m k d rising le lt)) out

got_behind : (ts : List ℤ) (a k : ℕ) (d : ℤ) → get_or (drop a ts) k d ≡ get_or ts (a + k) d
got_behind ts zero k d = let none : 0 + k ≡ k = omega arith in ap (λ (n : ℕ). get_or ts n d) (sym none)
got_behind [] (suc a) k d = refl
got_behind (t ∷ ts) (suc a) k d = let step : suc a + k ≡ suc (a + k) = omega arith in got_behind ts a k d ∙ ap (λ (n : ℕ). get_or (t ∷ ts) n d) (sym step)

-- the place where the passed stamps end, by their count
pub edge_count : (edge : Edge) (range : Range) (ts : List ℤ) (first low : ℕ) → first ≤ low → low ≤ length ts → ((k : ℕ) (d : ℤ) → first ≤ k → k < low → passes edge range (get_or ts k d) ≡ true) → ((k : ℕ) (d : ℤ) → low ≤ k → k < length ts → passes edge range (get_or ts k d) ≡ false)
    → low ≡ first + count_by (passes edge range) (drop first ts)
edge_count edge range ts first low le most passed left =
    let count = count_at_point (passes edge range) (drop first ts) (low - first) (omega (arith, le, most, length-drop first ts)) (
      (λ k d lo hi. subst (λ (z : ℤ). passes edge range z ≡ true) (sym (got_behind ts first k d)) (passed (first + k) d (omega arith) (omega (arith, hi)))),
      (λ k d lo hi. subst (λ (z : ℤ). passes edge range z ≡ false) (sym (got_behind ts first k d)) (left (first + k) d (omega (arith, lo)) (omega (arith, hi, length-drop first ts)))),
    ) in
    omega (arith, count, le)

-- ---- columns of a tile

-- the place of a name among columns is that among their names and types
position_map : {X Y : Type 0} (p : Y → Bool) (f : X → Y) (n : ℕ) (xs : List X) → position_from p n (map f xs) ≡ position_from (λ (x : X). p (f x)) n xs
position_map p f n [] = refl
position_map {X = X} p f n (x ∷ xs) = by (p (f x)) refl (position_map p f (n + 1) xs)
  where
    by : (b : Bool) → p (f x) ≡ b → position_from p (n + 1) (map f xs) ≡ position_from (λ (x : X). p (f x)) (n + 1) xs → position_from p n (map f (x ∷ xs)) ≡ position_from (λ (x : X). p (f x)) n (x ∷ xs)
    by true e more = rw e refl
    by false e more = rw e more

pub place-sheet : (f : Frame) (name : Text) → position_from (λ (column : Series). same_text name column.0.0) 0 (sheet_of f).columns ≡ place_of name f.schema.columns
place-sheet f name =
    sym (position_map (λ (head : Head). same_text name head.0) (λ (column : Series). column.0) 0 (sheet_of f).columns)
    ∙ ap (position_from (λ (head : Head). same_text name head.0) 0) (heads-series_from 0 f.schema.columns f.rows)

-- the column at a place of a frame
pub column-sheet : (f : Frame) (place : ℕ) (column : Series) → place < length f.schema.columns → slice_get (sheet_of f).columns place ≡ Some column → (type_at f place ≡ Some column.0.1) × (column.1 ≡ cells_of place f.rows)
column-sheet f place column lt found =
    let at = drop_at_place place f.schema.columns lt in
    let is : column ≡ (at.0, cells_of place f.rows) = some_is column (at.0, cells_of place f.rows) (sym found ∙ column-at f place at.0 at.1) in
    (ap (option_map (λ (head : Head). head.1)) at.1 ∙ ap (λ (c : Series). Some c.0.1) (sym is), ap (λ (c : Series). c.1) is)
  where
    some_is : (a b : Series) → Some a ≡ Some b → a ≡ b
    some_is a b h = let k : a ≡ b = cc in k
