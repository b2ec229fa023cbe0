-- The frame that is asked, column by column.
use Rattle.std.proofs.Common.{◌≡◌, ℕ, zero, suc, ◌≤◌, ◌<◌, ℤ, pos, Bool, true, false, nat_eq, List, [], ◌∷◌, length, map, Option, Some, None, Result, Ok, Err, refl, sym, ap, ◌∙◌, subst, arith}
use Rattle.std.specs.Prelude.{slice_get, filter, ◌≤ℤ◌}
use Rattle.std.specs.List.{AllByRecursion, AllZip, list_any, cons_option}
use Rattle.std.proofs.lemmas.Bool.{and_from, or_left, or_right}
use Rattle.std.proofs.lemmas.Int.{ints}
use Rattle.frame_core.specs.declared.cell.Cell.{Cell}
use Rattle.frame_core.specs.declared.refusal.Refusal.{Refusal}
use Rattle.frame_core.specs.declared.refusal.Refusal.TheVariants as refusals
use Rattle.frame_core.specs.Texts.{Text, same_text}
use Rattle.frame_core.specs.Ranges.{Range, is_within}
use Rattle.frame_core.specs.Schemas.{Head, Schema, IsColName}
use Rattle.frame_core.specs.Frames.{Row, Frame, IsFrame, IsCell, FitsColumns, NeverFall, stamps_of, rows_within, type_of}
use Rattle.frame_core.specs.Columns.{cells_of}
use Rattle.frame_core.specs.Selecting.{then_map, places_of, at_places, pick_cells, pick_columns}
use Rattle.frame_core.proofs.SelectLemmas.{Asked, asked, all_picked}
use Rattle.segment_cut.proofs.Wholes.{widths}
use Rattle.reply_model.specs.ReadAnswers.{select_columns, ask, is_asked}
use Rattle.frame_read.specs.TileSets.{no_rows, IsAskedSchema}

pub self_text : (a : Text) → same_text a a ≡ true
self_text [] = refl
self_text (x ∷ a) = let one : nat_eq x x ≡ true = grind arith in and_from (nat_eq x x) (same_text a a) one (self_text a)

-- ---- the rows in the range

all_filter : {X : Type 0} (P : X → Type 0) (p : X → Bool) (xs : List X) → AllByRecursion P xs → AllByRecursion P (filter p xs)
all_filter P p [] all = tt
all_filter P p (x ∷ xs) all = by (p x) refl (all_filter P p xs all.1)
  where
    by : (b : Bool) → p x ≡ b → AllByRecursion P (filter p xs) → AllByRecursion P (filter p (x ∷ xs))
    by true e more = rw e (all.0, more)
    by false e more = rw e more

through : (a b c : ℤ) → a ≤ℤ b → b ≤ℤ c → a ≤ℤ c
through a b c ab bc = grind (arith, ints)

lower : (t u : ℤ) (ts : List ℤ) → t ≤ℤ u → NeverFall (u ∷ ts) → NeverFall (t ∷ ts)
lower t u [] le rising = tt
lower t u (v ∷ ts) le rising = (through t u v le rising.0, rising.1)

rising_filter : (p : Row → Bool) (t : ℤ) (rows : List Row) → NeverFall (t ∷ stamps_of rows) → NeverFall (t ∷ stamps_of (filter p rows))
rising_filter p t [] rising = tt
rising_filter p t (r ∷ rows) rising = by (p r) refl (rising_filter p r.stamp rows rising.1)
  where
    by : (b : Bool) → p r ≡ b → NeverFall (r.stamp ∷ stamps_of (filter p rows)) → NeverFall (t ∷ stamps_of (filter p (r ∷ rows)))
    by true e more = rw e (rising.0, more)
    by false e more = rw e (lower t r.stamp (stamps_of (filter p rows)) rising.0 more)

without_first : (t : ℤ) (ts : List ℤ) → NeverFall (t ∷ ts) → NeverFall ts
without_first t [] rising = tt
without_first t (u ∷ ts) rising = rising.1

rising_within : (p : Row → Bool) (rows : List Row) → NeverFall (stamps_of rows) → NeverFall (stamps_of (filter p rows))
rising_within p [] rising = tt
rising_within p (r ∷ rows) rising = by (p r) refl (rising_filter p r.stamp rows rising)
  where
    by : (b : Bool) → p r ≡ b → NeverFall (r.stamp ∷ stamps_of (filter p rows)) → NeverFall (stamps_of (filter p (r ∷ rows)))
    by true e more = rw e more
    by false e more = rw e (without_first r.stamp (stamps_of (filter p rows)) more)

pub base : Frame → Range → Frame
base f range = record f { rows = rows_within range f.rows }

pub base_is_frame : (f : Frame) (range : Range) → IsFrame f → IsFrame (record f { rows = rows_within range f.rows })
base_is_frame f range is = record {
  columns = is.columns;
  ascending = rising_within (λ (r : Row). is_within range r.stamp) f.rows is.ascending;
  fitting = all_filter (FitsColumns f.schema.columns) (λ (r : Row). is_within range r.stamp) f.rows is.fitting;
  untimed = λ e. all_filter (λ (r : Row). r.stamp ≡ pos 0) (λ (r : Row). is_within range r.stamp) f.rows (is.untimed e);
}

-- ---- the picked columns

picked_zip : {X Y : Type 0} (R : X → Y → Type 0) (ks : List ℕ) (xs : List X) (ys : List Y) → AllZip R xs ys → AllZip R (at_places ks xs) (at_places ks ys)
picked_zip R [] xs ys all = tt
picked_zip {X = X} {Y = Y} R (k ∷ ks) xs ys all = one k xs ys all (at_places ks xs) (at_places ks ys) (picked_zip R ks xs ys all)
  where
    one : (k : ℕ) (xs : List X) (ys : List Y) → AllZip R xs ys → (more : List X) (others : List Y) → AllZip R more others → AllZip R (cons_option (slice_get xs k) more) (cons_option (slice_get ys k) others)
    one k [] [] all more others rest = rest
    one k [] (y ∷ ys) all more others rest = absurd all
    one k (x ∷ xs) [] all more others rest = absurd all
    one zero (x ∷ xs) (y ∷ ys) all more others rest = (all.0, rest)
    one (suc k) (x ∷ xs) (y ∷ ys) all more others rest = one k xs ys all.1 more others rest

stamps_picked : (ks : List ℕ) (rows : List Row) → stamps_of (map (pick_cells ks) rows) ≡ stamps_of rows
stamps_picked ks [] = refl
stamps_picked ks (r ∷ rows) = ap (λ (ts : List ℤ). r.stamp ∷ ts) (stamps_picked ks rows)

fitting_picked : (heads : List Head) (ks : List ℕ) (rows : List Row) → AllByRecursion (FitsColumns heads) rows → AllByRecursion (FitsColumns (at_places ks heads)) (map (pick_cells ks) rows)
fitting_picked heads ks [] all = tt
fitting_picked heads ks (r ∷ rows) all =
    (record { stamp = all.0.stamp; typed = picked_zip (λ (c : Head) (cell : Cell). type_of cell ≡ c.1) ks heads r.cells all.0.typed; cells = all_picked IsCell ks r.cells all.0.cells }, fitting_picked heads ks rows all.1)

zero_picked : (ks : List ℕ) (rows : List Row) → AllByRecursion (λ (r : Row). r.stamp ≡ pos 0) rows → AllByRecursion (λ (r : Row). r.stamp ≡ pos 0) (map (pick_cells ks) rows)
zero_picked ks [] all = tt
zero_picked ks (r ∷ rows) all = (all.0, zero_picked ks rows all.1)

picked_is_frame : (g : Frame) (names : List Text) (ks : List ℕ) → IsFrame g → Asked [] names g.schema.columns ks → IsFrame (pick_columns g ks)
picked_is_frame g names ks is all = record {
  columns = record { named = all_picked (λ (h : Head). IsColName h.0) ks g.schema.columns is.columns.named; distinct = rw all.named all.fresh };
  ascending = subst NeverFall (sym (stamps_picked ks g.rows)) is.ascending;
  fitting = fitting_picked g.schema.columns ks g.rows is.fitting;
  untimed = λ e. zero_picked ks g.rows (is.untimed e);
}

-- the place that is picked for a column
pick_at : (ks : List ℕ) (n j : ℕ) → AllByRecursion (λ (k : ℕ). k < n) ks → j < length ks → (k : ℕ) × (k < n) × (slice_get ks j ≡ Some k)
pick_at [] n j all lt = absurd (omega (arith, lt))
pick_at (k ∷ ks) n zero all lt = (k, all.0, refl)
pick_at (k ∷ ks) n (suc j) all lt = pick_at ks n j all.1 (omega (arith, lt))

there_at : {X : Type 0} (xs : List X) (k : ℕ) → k < length xs → (x : X) × (slice_get xs k ≡ Some x)
there_at [] k lt = absurd (omega (arith, lt))
there_at (x ∷ xs) zero lt = (x, refl)
there_at (x ∷ xs) (suc k) lt = there_at xs k (omega (arith, lt))

pick_same : {X : Type 0} (ks : List ℕ) (n j k : ℕ) (xs : List X) → AllByRecursion (λ (k : ℕ). k < n) ks → slice_get ks j ≡ Some k → length xs ≡ n → slice_get (at_places ks xs) j ≡ slice_get xs k
pick_same [] n j k xs all at long = absurd cc
pick_same (i ∷ ks) n zero k xs all at long =
    let x = there_at xs i (omega (arith, all.0, long)) in
    ap (λ o. slice_get (cons_option o (at_places ks xs)) 0) x.1 ∙ sym x.1 ∙ ap (slice_get xs) (nat_same i k at)
  where
    nat_same : (i k : ℕ) → Some i ≡ Some k → i ≡ k
    nat_same i k e = cc
pick_same (i ∷ ks) n (suc j) k xs all at long =
    let x = there_at xs i (omega (arith, all.0, long)) in
    ap (λ o. slice_get (cons_option o (at_places ks xs)) (suc j)) x.1 ∙ pick_same ks n j k xs all.1 at long

length_picked : {X : Type 0} (ks : List ℕ) (xs : List X) → length (at_places ks xs) ≤ length ks
length_picked [] xs = omega arith
length_picked {X = X} (k ∷ ks) xs = one (slice_get xs k) (length_picked ks xs)
  where
    one : (o : Option X) → length (at_places ks xs) ≤ length ks → length (cons_option o (at_places ks xs)) ≤ length (k ∷ ks)
    one None le = omega (arith, le)
    one (Some x) le = omega (arith, le)

cells_picked : (ks : List ℕ) (n j k : ℕ) (rows : List Row) → ((cs : List Cell) → length cs ≡ n → slice_get (at_places ks cs) j ≡ slice_get cs k) → AllByRecursion (λ (r : Row). length r.cells ≡ n) rows → cells_of j (map (pick_cells ks) rows) ≡ cells_of k rows
cells_picked ks n j k [] same all = refl
cells_picked ks n j k (r ∷ rows) same all = ap (λ (o : Option Cell). cons_option o (cells_of j (map (pick_cells ks) rows))) (same r.cells all.0) ∙ ap (cons_option (slice_get r.cells k)) (cells_picked ks n j k rows same all.1)

any_named : (hs : List Head) (j : ℕ) (h : Head) → slice_get hs j ≡ Some h → list_any (same_text h.0) (map (λ (c : Head). c.0) hs) ≡ true
any_named [] j h e = absurd cc
any_named (g ∷ hs) zero h e = or_left (same_text h.0 g.0) (list_any (same_text h.0) (map (λ (c : Head). c.0) hs)) (subst (λ (x : Head). same_text h.0 x.0 ≡ true) (sym (some_same e)) (self_text h.0))
  where
    some_same : {u v : Head} → Some u ≡ Some v → u ≡ v
    some_same e = cc
any_named (g ∷ hs) (suc j) h e = or_right (same_text h.0 g.0) (list_any (same_text h.0) (map (λ (c : Head). c.0) hs)) (any_named hs j h e)

pub head_below : {X : Type 0} (xs : List X) (k : ℕ) (x : X) → slice_get xs k ≡ Some x → k < length xs
head_below [] k x e = absurd cc
head_below (y ∷ ys) zero x e = omega arith
head_below (y ∷ ys) (suc k) x e = let rest : k < length ys = head_below ys k x e in omega (arith, rest)

-- ---- the frame that is asked

-- a column of the answer is one of the frame that is asked
pub record IsColumn (f : Frame) (range : Range) (columns : Option (List Text)) (g : Frame) (j : ℕ) (head : Head) : Type 0 where
  pub place : ℕ
  pub head_is : slice_get f.schema.columns place ≡ Some head
  pub is_one : is_asked columns head.0 ≡ true
  pub cells : cells_of j g.rows ≡ cells_of place (rows_within range f.rows)

-- the answer
pub record IsAnswer (f : Frame) (range : Range) (columns : Option (List Text)) (schema : Schema) : Type 0 where
  pub made : Frame
  pub is : ask f range columns ≡ Ok made
  pub schema_is : schema ≡ made.schema
  pub is_frame : IsFrame made
  pub stamps : stamps_of made.rows ≡ stamps_of (rows_within range f.rows)
  pub cols : (j : ℕ) (head : Head) → slice_get made.schema.columns j ≡ Some head → IsColumn f range columns made j head

select_ok : (names : List Text) (g : Frame) (ks : List ℕ) → places_of 1 [] names g.schema.columns ≡ Ok ks → select_columns (Some names) g ≡ Ok (pick_columns g ks)
select_ok names g ks e = rw (select_columns, e) refl

select_err : (names : List Text) (g : Frame) (n : ℕ) → places_of 1 [] names g.schema.columns ≡ Err n → select_columns (Some names) g ≡ Err (refusals.NoSuchColumn 0 n)
select_err names g n e = rw (select_columns, e) refl

ok_same : (a b : Schema) → ◌≡◌ {A = Result Schema Refusal} (Ok a) (Ok b) → b ≡ a
ok_same a b e = cc

not_ok : (n : ℕ) (b : Schema) → ◌≡◌ {A = Result Schema Refusal} (Err (refusals.NoSuchColumn 0 n)) (Ok b) → ⊥
not_ok n b e = absurd cc

pub answer : (f : Frame) (range : Range) (columns : Option (List Text)) (schema : Schema) → IsFrame f → IsAskedSchema f.schema columns schema → IsAnswer f range columns schema
answer f range None schema is asks = record {
  made = record f { rows = rows_within range f.rows };
  is = refl;
  schema_is = ok_same f.schema schema asks;
  is_frame = base_is_frame f range is;
  stamps = refl;
  cols = λ j head at. record { place = j; head_is = at; is_one = refl; cells = refl };
}
answer f range (Some names) schema is asks = by (places_of 1 [] names f.schema.columns) refl
  where
    by : (r : Result (List ℕ) ℕ) → places_of 1 [] names f.schema.columns ≡ r → IsAnswer f range (Some names) schema
    by (Err n) e = absurd (not_ok n schema (sym (ap (then_map (λ (g : Frame). g.schema)) (select_err names (no_rows f.schema) n e)) ∙ asks))
    by (Ok ks) e =
        let g = record f { rows = rows_within range f.rows } in
        let all : Asked [] names f.schema.columns ks = asked 1 [] names f.schema.columns ks e in
        let whole : IsFrame (record f { rows = rows_within range f.rows }) = base_is_frame f range is in
        record {
          made = pick_columns (record f { rows = rows_within range f.rows }) ks;
          is = select_ok names (record f { rows = rows_within range f.rows }) ks e;
          schema_is = ok_same (pick_columns (no_rows f.schema) ks).schema schema (sym (ap (then_map (λ (g : Frame). g.schema)) (select_ok names (no_rows f.schema) ks e)) ∙ asks);
          is_frame = picked_is_frame (record f { rows = rows_within range f.rows }) names ks whole all;
          stamps = stamps_picked ks (rows_within range f.rows);
          cols = λ j head at.
              let r = pick_at ks (length f.schema.columns) j all.within (omega (arith, head_below (at_places ks f.schema.columns) j head at, length_picked ks f.schema.columns)) in
              record {
                place = r.0;
                head_is = sym (pick_same ks (length f.schema.columns) j r.0 f.schema.columns all.within r.2 refl) ∙ at;
                is_one = subst (λ (ns : List Text). list_any (same_text head.0) ns ≡ true) all.named (any_named (at_places ks f.schema.columns) j head at);
                cells = cells_picked ks (length f.schema.columns) j r.0 (rows_within range f.rows) (λ cs long. pick_same ks (length f.schema.columns) j r.0 cs all.within r.2 long) (widths (record f { rows = rows_within range f.rows }) whole);
              };
        }
