-- The asked columns: their places, and the rows at these places.
use Rattle.std.proofs.Common.{◌≡◌, ℕ, zero, suc, ◌+◌, ◌-◌, ◌<◌, ◌≤◌, Bool, true, false, cond, ◌&&◌, ℤ, List, [], ◌∷◌, ◌++◌, length, map, reverse, get_or, take, drop, Option, Some, None, Result, Ok, Err, refl, sym, ap, ◌∙◌, subst, arith, drop-cons, add-one, append_assoc}
use Rattle.std.specs.Prelude.{slice_get, option_map, option_and_then}
use Rattle.std.proofs.lemmas.Bool.{eqb-true}
use Rattle.std.proofs.Math.Dec.{eqb}
use Rattle.std.proofs.lemmas.List.Elements.{filter_map-append}
use Rattle.std.specs.List.{AllByRecursion, list_any, position_from, cons_option}
use Rattle.std.proofs.lemmas.List.{length-map, take_more, reverse-append}
use Rattle.std.proofs.lemmas.Option.{slice_get-map, slice_get_within}
use Rattle.frame_core.specs.declared.cell.Cell.{Cell}
use Rattle.frame_core.specs.declared.column.Column.{Column}
use Rattle.frame_core.specs.declared.refusal.Refusal.TheVariants as refusals
use Rattle.frame_core.specs.Texts.{Text, same_text}
use Rattle.frame_core.specs.Schemas.{Head, Schema, IsColName, are_new}
use Rattle.frame_core.specs.Frames.{Frame, IsCell}
use Rattle.frame_core.specs.Columns.{column_type, column_cells, rows_from, IsWhole}
use Rattle.frame_core.specs.Selecting.{place_of, then_map, places_of, at_places, pick_cells, select, refuse_position}
use Rattle.frame_core.proofs.Rows.{heads, tails, HaveLength, lengths-tails}
use Rattle.frame_core.proofs.WholeFrames.{frame_of, same_lengths}
use Rattle.frame_core.proofs.RawLemmas.{any_reverse}

-- ---- picking elements

cons_map : {X Y : Type 0} (f : X → Y) (o : Option X) (rest : List X) → cons_option (option_map f o) (map f rest) ≡ map f (cons_option o rest)
cons_map f None rest = refl
cons_map f (Some x) rest = refl

pub at_places-map : {X Y : Type 0} (f : X → Y) (ks : List ℕ) (xs : List X) → at_places ks (map f xs) ≡ map f (at_places ks xs)
at_places-map f [] xs = refl
at_places-map f (k ∷ ks) xs = rw (slice_get-map f xs k, at_places-map f ks xs) (cons_map f (slice_get xs k) (at_places ks xs))

-- what holds of the element that may be there
abbrev IfThere : {X : Type 0} → (X → Type 0) → Option X → Type 0
IfThere P None = Unit {0}
IfThere P (Some x) = P x

there : {X : Type 0} (P : X → Type 0) (k : ℕ) (xs : List X) → AllByRecursion P xs → IfThere P (slice_get xs k)
there P k [] all = tt
there P zero (x ∷ xs) all = all.0
there P (suc k) (x ∷ xs) all = there P k xs all.1

all_cons : {X : Type 0} (P : X → Type 0) (o : Option X) (rest : List X) → IfThere P o → AllByRecursion P rest → AllByRecursion P (cons_option o rest)
all_cons P None rest here all = all
all_cons P (Some x) rest here all = (here, all)

pub all_picked : {X : Type 0} (P : X → Type 0) (ks : List ℕ) (xs : List X) → AllByRecursion P xs → AllByRecursion P (at_places ks xs)
all_picked P [] xs all = tt
all_picked P (k ∷ ks) xs all = all_cons P (slice_get xs k) (at_places ks xs) (there P k xs all) (all_picked P ks xs all)

-- one more element is picked
pub picked_more : {X : Type 0} (ks : List ℕ) (i : ℕ) (xs : List X) (x : X) (old new : List X) → i < length ks → slice_get xs (get_or ks i 0) ≡ Some x → old ≡ at_places (take i ks) xs → new ≡ old ++ x ∷ [] → new ≡ at_places (take (i + 1) ks) xs
picked_more ks i xs x old new lt at before after =
    let last : at_places (get_or ks i 0 ∷ []) xs ≡ x ∷ [] = rw at refl in
    after ∙ rw (before, take_more ks i 0 lt, filter_map-append (slice_get xs) (take i ks) (get_or ks i 0 ∷ []), last) refl

-- ---- the rows at these places

picked_first : (n : ℕ) (o : Option (List Cell)) (rest : List (List Cell)) (heads_rest : List Cell) → IfThere (λ (c : List Cell). length c ≡ suc n) o → heads rest ≡ heads_rest → cons_option (option_and_then (λ (c : List Cell). slice_get c 0) o) heads_rest ≡ heads (cons_option o rest)
picked_first n None rest heads_rest here same = sym same
picked_first n (Some c) rest heads_rest here same = ap (cons_option (slice_get c 0)) (sym same)

head_of : (n k : ℕ) (cols : List (List Cell)) → HaveLength (suc n) cols → slice_get (heads cols) k ≡ option_and_then (λ (c : List Cell). slice_get c 0) (slice_get cols k)
head_of n k [] all = refl
head_of n k ([] ∷ cols) all = absurd (omega (arith, all.0))
head_of n zero ((x ∷ c) ∷ cols) all = refl
head_of n (suc k) ((x ∷ c) ∷ cols) all = head_of n k cols all.1

picked_heads : (n : ℕ) (ks : List ℕ) (cols : List (List Cell)) → HaveLength (suc n) cols → at_places ks (heads cols) ≡ heads (at_places ks cols)
picked_heads n [] cols all = refl
picked_heads n (k ∷ ks) cols all = rw (head_of n k cols all) (picked_first n (slice_get cols k) (at_places ks cols) (at_places ks (heads cols)) (there (λ (c : List Cell). length c ≡ suc n) k cols all) (sym (picked_heads n ks cols all)))

pub picked_rows : (ks : List ℕ) (ts : List ℤ) (cols : List (List Cell)) → HaveLength (length ts) cols → map (pick_cells ks) (rows_from ts cols) ≡ rows_from ts (at_places ks cols)
picked_rows ks [] cols all = refl
picked_rows ks (t ∷ ts) cols all =
    let rest = picked_rows ks ts (tails cols) (lengths-tails (length ts) cols all) ∙ ap (rows_from ts) (at_places-map (drop 1) ks cols) in
    rw (picked_heads (length ts) ks cols all, rest) refl

-- ---- places of names

pub same_text-true : (a b : Text) → same_text a b ≡ true → a ≡ b
same_text-true [] [] e = refl
same_text-true [] (y ∷ b) e = absurd cc
same_text-true (x ∷ a) [] e = absurd cc
same_text-true (x ∷ a) (y ∷ b) e =
    let both = and_true (eqb x y) (same_text a b) e in
    rw (eqb-true x y both.0, same_text-true a b both.1) refl
  where
    and_true : (p q : Bool) → (p && q) ≡ true → (p ≡ true) × (q ≡ true)
    and_true true q e = (refl, e)
    and_true false q e = absurd cc

position_is : (test : Head → Bool) (i : ℕ) (hs : List Head) (k : ℕ) → position_from test i hs ≡ Some k → (h : Head) × (i ≤ k) × (slice_get hs (k - i) ≡ Some h) × (test h ≡ true)
position_is test i [] k e = absurd cc
position_is test i (h ∷ hs) k e = split (test h) refl e (position_is test (i + 1) hs k)
  where
    split : (b : Bool) → test h ≡ b → cond b (Some i) (position_from test (i + 1) hs) ≡ Some k → (position_from test (i + 1) hs ≡ Some k → (g : Head) × (i + 1 ≤ k) × (slice_get hs (k - (i + 1)) ≡ Some g) × (test g ≡ true)) → (g : Head) × (i ≤ k) × (slice_get (h ∷ hs) (k - i) ≡ Some g) × (test g ≡ true)
    split true is found later =
        let same : i ≡ k = cc in
        let first : k - i ≡ 0 = omega arith in
        (h, omega arith, rw first refl, is)
    split false is found later =
        let at = later found in
        let step : k - i ≡ suc (k - (i + 1)) = omega (arith, at.1) in
        (at.0, omega (arith, at.1), rw step at.2, at.3)

pub place_is : (name : Text) (hs : List Head) (k : ℕ) → place_of name hs ≡ Some k → (h : Head) × (slice_get hs k ≡ Some h) × (h.0 ≡ name)
place_is name hs k e =
    let at = position_is (λ (c : Head). same_text name c.0) 0 hs k e in
    let same : k - 0 ≡ k = omega arith in
    (at.0, rw same at at.2, sym (same_text-true name at.0.0 at.3))

-- what the places of asked names are
pub record Asked (earlier names : List Text) (hs : List Head) (ks : List ℕ) : Type 0 where
  pub fresh : are_new earlier names ≡ true
  pub named : map (λ (h : Head). h.0) (at_places ks hs) ≡ names
  pub within : AllByRecursion (λ k. k < length hs) ks

-- the answer for a name, by its place and whether it repeats one before it
abbrev pub answer_for : ℕ → Option ℕ → Bool → Result (List ℕ) ℕ → Result (List ℕ) ℕ
answer_for n place repeats rest = elim place [ None ↦ Err n | Some k ↦ cond repeats (Err n) (then_map (λ ks. k ∷ ks) rest) ]

asked_one : (n : ℕ) (earlier names : List Text) (name : Text) (hs : List Head) (ks : List ℕ) (place : Option ℕ) (repeats : Bool) (rest : Result (List ℕ) ℕ) → place_of name hs ≡ place → list_any (same_text name) earlier ≡ repeats → ((later : List ℕ) → rest ≡ Ok later → Asked (name ∷ earlier) names hs later) → answer_for n place repeats rest ≡ Ok ks → Asked earlier (name ∷ names) hs ks
asked_one n earlier names name hs ks None repeats rest at new later e = absurd cc
asked_one n earlier names name hs ks (Some k) true rest at new later e = absurd cc
asked_one n earlier names name hs ks (Some k) false (Err m) at new later e = absurd cc
asked_one n earlier names name hs ks (Some k) false (Ok more) at new later e =
    let asked = later more refl in
    let head = place_is name hs k at in
    let are : k ∷ more ≡ ks = cc in
    subst (Asked earlier (name ∷ names) hs) are (record {
      fresh = rw (new, asked.fresh) refl;
      named = rw (head.1, asked.named, head.2) refl;
      within = (slice_get_within hs k head.0 head.1, asked.within);
    })

pub asked : (n : ℕ) (earlier names : List Text) (hs : List Head) (ks : List ℕ) → places_of n earlier names hs ≡ Ok ks → Asked earlier names hs ks
asked n earlier [] hs ks e = let none : [] ≡ ks = cc in subst (Asked earlier [] hs) none (record { fresh = refl; named = refl; within = tt })
asked n earlier (name ∷ names) hs ks e = asked_one n earlier names name hs ks (place_of name hs) (list_any (same_text name) earlier) (places_of (n + 1) (name ∷ earlier) names hs) refl refl (λ later is. asked (n + 1) (name ∷ earlier) names hs later is) e

-- ---- the loop over the asked names

-- the place of a name that repeats none
abbrev pub new_place_of : Bool → Option ℕ → Option ℕ
new_place_of repeats place = cond repeats None place

abbrev pub answer_of : ℕ → Option ℕ → Result (List ℕ) ℕ → Result (List ℕ) ℕ
answer_of n None rest = Err n
answer_of n (Some k) rest = then_map (λ ks. k ∷ ks) rest

same_answer : (n : ℕ) (place : Option ℕ) (repeats : Bool) (rest : Result (List ℕ) ℕ) → answer_for n place repeats rest ≡ answer_of n (new_place_of repeats place) rest
same_answer n None true rest = refl
same_answer n None false rest = refl
same_answer n (Some k) true rest = refl
same_answer n (Some k) false rest = refl

place_step : (n i : ℕ) (names : List Text) (hs : List Head) → i < length names → places_of n (reverse (take i names)) (drop i names) hs ≡ answer_of n (new_place_of (list_any (same_text (get_or names i [])) (take i names)) (place_of (get_or names i []) hs)) (places_of (n + 1) (reverse (take (i + 1) names)) (drop (i + 1) names) hs)
place_step n i names hs lt =
    let name = get_or names i [] in
    let more : reverse (take (i + 1) names) ≡ name ∷ reverse (take i names) = ap reverse (take_more names i [] lt) ∙ reverse-append (take i names) (name ∷ []) in
    let rest = places_of (n + 1) (name ∷ reverse (take i names)) (drop (suc i) names) hs in
    let one : places_of n (reverse (take i names)) (name ∷ drop (suc i) names) hs ≡ answer_for n (place_of name hs) (list_any (same_text name) (reverse (take i names))) rest = refl in
    ap (λ (ns : List Text). places_of n (reverse (take i names)) ns hs) (drop-cons names i [] lt) ∙ one ∙ rw (any_reverse (same_text name) (take i names), more, add-one i) (same_answer n (place_of name hs) (list_any (same_text name) (take i names)) rest)

then_then : (so_far : List ℕ) (k : ℕ) (rest : Result (List ℕ) ℕ) → then_map (λ ks. so_far ++ ks) (then_map (λ ks. k ∷ ks) rest) ≡ then_map (λ ks. (so_far ++ k ∷ []) ++ ks) rest
then_then so_far k (Ok ks) = ap (λ (ys : List ℕ). Ok ys) (sym (append_assoc so_far (k ∷ []) ks))
then_then so_far k (Err n) = refl

-- a name whose place is new
pub place_more : (i : ℕ) (names : List Text) (hs : List Head) (so_far new : List ℕ) (k : ℕ) (total : Result (List ℕ) ℕ) → i < length names → Some k ≡ new_place_of (list_any (same_text (get_or names i [])) (take i names)) (place_of (get_or names i []) hs) → new ≡ so_far ++ k ∷ [] → then_map (λ (ks : List ℕ). so_far ++ ks) (places_of (i + 1) (reverse (take i names)) (drop i names) hs) ≡ total → then_map (λ (ks : List ℕ). new ++ ks) (places_of (i + 1 + 1) (reverse (take (i + 1) names)) (drop (i + 1) names) hs) ≡ total
place_more i names hs so_far new k total lt found grown left =
    let rest = places_of (i + 1 + 1) (reverse (take (i + 1) names)) (drop (i + 1) names) hs in
    let step : places_of (i + 1) (reverse (take i names)) (drop i names) hs ≡ then_map (λ ks. k ∷ ks) rest = place_step (i + 1) i names hs lt ∙ rw (← found) refl in
    rw grown (sym (then_then so_far k rest) ∙ ap (then_map (λ (ks : List ℕ). so_far ++ ks)) (sym step) ∙ left)

-- a name that is absent or repeats one before it
pub place_refused : (i : ℕ) (names : List Text) (hs : List Head) (so_far : List ℕ) (total : Result (List ℕ) ℕ) → i < length names → None ≡ new_place_of (list_any (same_text (get_or names i [])) (take i names)) (place_of (get_or names i []) hs) → then_map (λ (ks : List ℕ). so_far ++ ks) (places_of (i + 1) (reverse (take i names)) (drop i names) hs) ≡ total → refuse_position total ≡ Err (refusals.NoSuchColumn 0 (i + 1))
place_refused i names hs so_far total lt none left =
    let step : places_of (i + 1) (reverse (take i names)) (drop i names) hs ≡ Err (i + 1) = place_step (i + 1) i names hs lt ∙ rw (← none) refl in
    rw (← left, step) refl

-- ---- the frame of the asked columns

ok_refused : {A : Type 0} (r : Result A ℕ) (a : A) → refuse_position r ≡ Ok a → r ≡ Ok a
ok_refused (Ok b) a e = let same : b ≡ a = cc in rw same refl
ok_refused (Err n) a e = absurd cc

pub asked_all : (names : List Text) (hs lent : List Head) (ks : List ℕ) → lent ≡ hs → refuse_position (places_of 1 [] names lent) ≡ Ok ks → Asked [] names hs ks
asked_all names hs lent ks same e = rw (← same) (asked 1 [] names lent ks (ok_refused (places_of 1 [] names lent) ks e))

pub within_columns : (schema : Schema) (stamps : List ℤ) (cols : List Column) (names : List Text) (ks : List ℕ) → IsWhole schema stamps cols → Asked [] names schema.columns ks → AllByRecursion (λ k. k < length cols) ks
within_columns schema stamps cols names ks w all =
    let count : length schema.columns ≡ length cols = sym (length-map schema.columns (λ (h : Head). h.1)) ∙ ap length (sym w.types) ∙ length-map cols column_type in
    rw (← count) all.within

pub whole_picked : (schema picked : Schema) (stamps stamps_copy : List ℤ) (cols picked_cols : List Column) (names : List Text) (ks : List ℕ) → IsWhole schema stamps cols → Asked [] names schema.columns ks → picked ≡ record { timed = schema.timed; columns = at_places ks schema.columns } → stamps_copy ≡ stamps → picked_cols ≡ at_places ks cols → IsWhole picked stamps_copy picked_cols
whole_picked schema picked stamps stamps_copy cols picked_cols names ks w all schema_is stamps_are cols_are =
    let types : map column_type (at_places ks cols) ≡ map (λ (h : Head). h.1) (at_places ks schema.columns) = sym (at_places-map column_type ks cols) ∙ ap (at_places ks) w.types ∙ at_places-map (λ (h : Head). h.1) ks schema.columns in
    rw (schema_is, stamps_are, cols_are) (record {
      columns = record { named = all_picked (λ (h : Head). IsColName h.0) ks schema.columns w.columns.named; distinct = rw all.named all.fresh };
      types = types;
      lengths = all_picked (λ (c : Column). length (column_cells c) ≡ length stamps) ks cols w.lengths;
      stamps_fit = w.stamps_fit;
      cells_fit = all_picked (λ (c : Column). AllByRecursion IsCell (column_cells c)) ks cols w.cells_fit;
      ascending = w.ascending;
      untimed = w.untimed;
    })

pub picked_is : (schema picked : Schema) (stamps stamps_copy : List ℤ) (cols picked_cols : List Column) (f : Frame) (names : List Text) (lent : List Head) (ks : List ℕ) → frame_of schema stamps cols ≡ f → IsWhole schema stamps cols → lent ≡ schema.columns → refuse_position (places_of 1 [] names lent) ≡ Ok ks → picked ≡ record { timed = schema.timed; columns = at_places ks schema.columns } → stamps_copy ≡ stamps → picked_cols ≡ at_places ks cols → refuse_position (select names f) ≡ Ok (frame_of picked stamps_copy picked_cols)
picked_is schema picked stamps stamps_copy cols picked_cols f names lent ks is w same e schema_is stamps_are cols_are =
    let places : places_of 1 [] names schema.columns ≡ Ok ks = rw (← same) (ok_refused (places_of 1 [] names lent) ks e) in
    let rows : map (pick_cells ks) (rows_from stamps (map column_cells cols)) ≡ rows_from stamps (map column_cells (at_places ks cols)) = picked_rows ks stamps (map column_cells cols) (same_lengths schema stamps cols w) ∙ ap (rows_from stamps) (at_places-map column_cells ks cols) in
    rw (← is, places, rows, schema_is, stamps_are, cols_are) refl

pub fits_at : (n : ℕ) (ks : List ℕ) (i : ℕ) → AllByRecursion (λ k. k < n) ks → i < length ks → get_or ks i 0 < n
fits_at n [] i all lt = absurd (omega arith)
fits_at n (k ∷ ks) zero all lt = all.0
fits_at n (k ∷ ks) (suc i) all lt = fits_at n ks i all.1 (omega arith)

pub copied_head : (hs : List Head) (k : ℕ) (head : Head) (copy : Text) → slice_get hs k ≡ Some head → copy ≡ head.0 → slice_get hs k ≡ Some (copy, head.1)
copied_head hs k head copy at same = at ∙ rw same refl
