-- The cells of a block, by the number of their key.
use Rattle.std.proofs.Common.{◌≡◌, ℕ, zero, suc, ◌+◌, ◌<◌, ◌≤◌, ◌^◌, refl, ap, ap₂, sym, ◌∙◌, subst, arith, length, take}
use Rattle.std.specs.Prelude.{Bool, true, false, cond, ◌==◌, List, [], ◌∷◌, ◌++◌, filter_map, slice_get, slice_set, Option, Some, None, unwrap_or, option_and_then}
use Rattle.std.specs.List.{AllByRecursion, AllZip, cons_option}
use Rattle.std.proofs.lemmas.Int.{ints}
use Rattle.std.proofs.lemmas.Bool.{true≢false}
use Rattle.std.proofs.lemmas.Bool.Decides.{Decides-eqb}
use Rattle.std.proofs.lemmas.List.{append-nil, length-set}
use Rattle.std.proofs.lemmas.Option.{none-some, slice_get-get_or}
use lib.ListN.{get_or}
use Rattle.frame_core.specs.declared.cell.Cell.{Cell}
use Rattle.frame_core.specs.declared.cell.Cell.TheVariants as cells
use Rattle.frame_core.specs.Texts.{Text}
use Rattle.frame_core.specs.Schemas.{Head}
use Rattle.frame_core.specs.Frames.{Row, FitsColumns, IsCell}
use Rattle.frame_core.specs.Columns.{cells_of}
use Rattle.frame_core.specs.Selecting.{place_of}
use Rattle.expr_clause.specs.Cells.{no_cell}
use Rattle.expr_clause.specs.Exprs.{cell_named}
use Rattle.group_clause.specs.Tallies.{total}
use Rattle.group_clause.specs.Partials.{Tally, no_tally, tally_of, join_tallies, tallies}
use Rattle.group_clause.specs.Keeping.{IsTally}
use Rattle.group_clause.specs.Blocks.{cells_at, column_of, TalliedBy}
use Rattle.group_clause.proofs.KeepingLemmas.{joined_tally, more_lines}
use Rattle.group_clause.proofs.TallyLaws.{tallies_assoc, tallies_comm}

-- ---- a column of a frame

there : {A B : Type 0} (P : A → B → Type 0) (columns : List A) (xs : List B) (k : ℕ) (d : B) → AllZip P columns xs → k < length columns → slice_get xs k ≡ Some (unwrap_or (slice_get xs k) d)
there P [] xs k d all h = absurd (omega (arith, h))
there P (c ∷ columns) [] k d all h = absurd all
there P (c ∷ columns) (x ∷ xs) zero d all h = refl
there P (c ∷ columns) (x ∷ xs) (suc k) d all h = there P columns xs k d all.1 (omega (arith, h))

by_place : (columns : List Head) (name : Text) (k : ℕ) (row : Row) → place_of name columns ≡ Some k → cell_named columns row.cells name ≡ unwrap_or (slice_get row.cells k) no_cell
by_place columns name k row e = ap (λ o. unwrap_or (option_and_then (slice_get row.cells) o) no_cell) e

pub named_cells : (columns : List Head) (name : Text) (k : ℕ) (rows : List Row) → place_of name columns ≡ Some k → k < length columns → AllByRecursion (FitsColumns columns) rows → cells_of k rows ≡ column_of columns rows name
named_cells columns name k [] e h all = refl
named_cells columns name k (r ∷ rows) e h all =
    ap (λ o. cons_option o (filter_map (λ (x : Row). slice_get x.cells k) rows)) (there _ columns r.cells k no_cell all.0.typed h)
    ∙ ap₂ ◌∷◌ (sym (by_place columns name k r e)) (named_cells columns name k rows e h all.1)

pub all_got : (P : Cell → Type 0) (xs : List Cell) (k : ℕ) (x : Cell) → AllByRecursion P xs → slice_get xs k ≡ Some x → P x
all_got P [] k x all e = absurd (none-some x e)
all_got P (y ∷ xs) zero x all e = subst P (ap (λ (o : Option Cell). elim o [ None ↦ y | Some z ↦ z ]) e) all.0
all_got P (y ∷ xs) (suc k) x all e = all_got P xs k x all.1 e

pub named_fit : (columns : List Head) (name : Text) (k : ℕ) (rows : List Row) → place_of name columns ≡ Some k → k < length columns → AllByRecursion (FitsColumns columns) rows → AllByRecursion IsCell (column_of columns rows name)
named_fit columns name k [] e h all = tt
named_fit columns name k (r ∷ rows) e h all =
    (subst IsCell (sym (by_place columns name k r e)) (all_got IsCell r.cells k (unwrap_or (slice_get r.cells k) no_cell) all.0.cells (there _ columns r.cells k no_cell all.0.typed h)), named_fit columns name k rows e h all.1)

-- ---- tallies of cells

pub total-push : (cs : List Cell) (c : Cell) → total tallies (cs ++ c ∷ []) ≡ join_tallies (total tallies cs) (tally_of c)
total-push [] c = tallies_comm (tally_of c) no_tally
total-push (d ∷ cs) c = ap (join_tallies (tally_of d)) (total-push cs c) ∙ sym (tallies_assoc (tally_of d) (total tallies cs) (tally_of c))

pub one_tally : (c : Cell) → IsCell c → IsTally 1 (tally_of c)
one_tally (cells.Int n) fits = record { few = omega arith; above = omega (arith, ints, fits); below = omega (arith, ints, fits) }
one_tally (cells.Flag b) fits = record { few = omega arith; above = omega (arith, ints); below = omega (arith, ints) }
one_tally (cells.Text t) fits = record { few = omega arith; above = omega (arith, ints); below = omega (arith, ints) }
one_tally (cells.Stamp n) fits = record { few = omega arith; above = omega (arith, ints); below = omega (arith, ints) }

pub total_tally : (cs : List Cell) → AllByRecursion IsCell cs → IsTally (length cs) (total tallies cs)
total_tally [] all = record { few = omega arith; above = omega (arith, ints); below = omega (arith, ints) }
total_tally (c ∷ cs) all = subst (λ n. IsTally n (join_tallies (tally_of c) (total tallies cs))) (one_more (length cs)) (joined_tally 1 (length cs) (tally_of c) (total tallies cs) (one_tally c all.0) (total_tally cs all.1))
  where
    one_more : (n : ℕ) → 1 + n ≡ suc n
    one_more n = omega arith

-- ---- cells by number

abbrev one_at : ℕ → ℕ → Cell → List Cell
one_at j n c = cond (n == j) (c ∷ []) []

unequal : {G : Type 0} (n m : ℕ) → suc n ≡ 0 → G
unequal n m e = absurd (omega (arith, e))

cells_at-push : (j : ℕ) (ns : List ℕ) (cs : List Cell) (n : ℕ) (c : Cell) → length ns ≡ length cs → cells_at j (ns ++ n ∷ []) (cs ++ c ∷ []) ≡ cells_at j ns cs ++ one_at j n c
cells_at-push j [] [] n c e = by (n == j)
  where
    by : (b : Bool) → cond b (c ∷ []) [] ≡ cond b (c ∷ []) []
    by b = refl
cells_at-push j [] (d ∷ cs) n c e = unequal (length cs) 0 (sym e)
cells_at-push j (m ∷ ns) [] n c e = unequal (length ns) 0 e
cells_at-push j (m ∷ ns) (d ∷ cs) n c e = by (m == j) (cells_at-push j ns cs n c (omega (arith, e)))
  where
    by : (b : Bool) → cells_at j (ns ++ n ∷ []) (cs ++ c ∷ []) ≡ cells_at j ns cs ++ one_at j n c
        → cond b (d ∷ cells_at j (ns ++ n ∷ []) (cs ++ c ∷ [])) (cells_at j (ns ++ n ∷ []) (cs ++ c ∷ [])) ≡ cond b (d ∷ cells_at j ns cs) (cells_at j ns cs) ++ one_at j n c
    by true rest = ap (λ l. d ∷ l) rest
    by false rest = rest

cells_at_few : (j : ℕ) (ns : List ℕ) (cs : List Cell) → length (cells_at j ns cs) ≤ length ns
cells_at_few j [] cs = omega arith
cells_at_few j (n ∷ ns) [] = omega arith
cells_at_few j (n ∷ ns) (c ∷ cs) = by (n == j) (cells_at_few j ns cs)
  where
    by : (b : Bool) → length (cells_at j ns cs) ≤ length ns → length (cond b (c ∷ cells_at j ns cs) (cells_at j ns cs)) ≤ suc (length ns)
    by true rest = omega (arith, rest)
    by false rest = omega (arith, rest)

cells_at_fit : (j : ℕ) (ns : List ℕ) (cs : List Cell) → AllByRecursion IsCell cs → AllByRecursion IsCell (cells_at j ns cs)
cells_at_fit j [] cs all = tt
cells_at_fit j (n ∷ ns) [] all = tt
cells_at_fit j (n ∷ ns) (c ∷ cs) all = by (n == j) (cells_at_fit j ns cs all.1)
  where
    by : (b : Bool) → AllByRecursion IsCell (cells_at j ns cs) → AllByRecursion IsCell (cond b (c ∷ cells_at j ns cs) (cells_at j ns cs))
    by true rest = (all.0, rest)
    by false rest = rest

taken_fit : (i : ℕ) (cs : List Cell) → AllByRecursion IsCell cs → AllByRecursion IsCell (take i cs)
taken_fit zero cs all = tt
taken_fit (suc i) [] all = tt
taken_fit (suc i) (c ∷ cs) all = (all.0, taken_fit i cs all.1)

taken_few : {X : Type 0} (i : ℕ) (xs : List X) → length (take i xs) ≤ length xs
taken_few zero xs = omega arith
taken_few (suc i) [] = omega arith
taken_few (suc i) (x ∷ xs) = let r = taken_few i xs in omega (arith, r)

-- the tally of a number is one of at most as many cells as there are rows
pub tally_small : (j i : ℕ) (ns : List ℕ) (cs : List Cell) → AllByRecursion IsCell cs → length ns ≤ 2 ^ 62 → IsTally (2 ^ 62) (total tallies (cells_at j (take i ns) (take i cs)))
tally_small j i ns cs all few =
    more_lines (length (cells_at j (take i ns) (take i cs))) (2 ^ 62) (let p = cells_at_few j (take i ns) (take i cs) in let q = taken_few i ns in omega (arith, p, q, few))
    (total tallies (cells_at j (take i ns) (take i cs))) (total_tally (cells_at j (take i ns) (take i cs)) (cells_at_fit j (take i ns) (take i cs) (taken_fit i cs all)))

-- ---- tallies by number

none_at : (ts : List Tally) (j : ℕ) → j < length ts → AllByRecursion (λ t. t ≡ no_tally) ts → slice_get ts j ≡ Some no_tally
none_at [] j h all = absurd (omega (arith, h))
none_at (t ∷ ts) zero h all = ap Some all.0
none_at (t ∷ ts) (suc j) h all = none_at ts j (omega (arith, h)) all.1

pub none_tallied : (count : ℕ) (cs : List Cell) (ts : List Tally) → length ts ≡ count → AllByRecursion (λ t. t ≡ no_tally) ts → TalliedBy count [] cs ts
none_tallied count cs ts e all = (e, λ j h. none_at ts j (omega (arith, h, e)) all)

set_here : (ts : List Tally) (n : ℕ) (v : Tally) → n < length ts → slice_get (slice_set ts n v) n ≡ Some v
set_here [] n v h = absurd (omega (arith, h))
set_here (t ∷ ts) zero v h = refl
set_here (t ∷ ts) (suc n) v h = set_here ts n v (omega (arith, h))

set_apart : (ts : List Tally) (n j : ℕ) (v : Tally) → (n ≡ j → ⊥) → slice_get (slice_set ts n v) j ≡ slice_get ts j
set_apart [] n j v e = refl
set_apart (t ∷ ts) zero zero v e = absurd (e refl)
set_apart (t ∷ ts) zero (suc j) v e = refl
set_apart (t ∷ ts) (suc n) zero v e = refl
set_apart (t ∷ ts) (suc n) (suc j) v e = set_apart ts n j v (λ same. e (ap suc same))

same_number : (n j : ℕ) → n == j ≡ true → n ≡ j
same_number n j e = (Decides-eqb n j).0 e

other_number : (n j : ℕ) → n == j ≡ false → n ≡ j → ⊥
other_number n j e same = true≢false (sym ((Decides-eqb n j).1 same) ∙ e)

same_itself : (n : ℕ) → n == n ≡ true
same_itself n = (Decides-eqb n n).1 refl

pub tallied_more : (count : ℕ) (ns : List ℕ) (cs : List Cell) (ts more : List Tally) (n : ℕ) (c : Cell) (t : Tally) → length ns ≡ length cs → n < count → TalliedBy count ns cs ts → slice_get ts n ≡ Some t
    → more ≡ slice_set ts n (join_tallies t (tally_of c)) → TalliedBy count (ns ++ n ∷ []) (cs ++ c ∷ []) more
tallied_more count ns cs ts more n c t long below so here is = (ap length is ∙ length-set ts n (join_tallies t (tally_of c)) ∙ so.0, λ j h. by j h (n == j) refl)
  where
    was : t ≡ total tallies (cells_at n ns cs)
    was = ap (λ (o : Option Tally). unwrap_or o t) (sym here ∙ so.1 n below)

    by : (j : ℕ) → j < count → (b : Bool) → n == j ≡ b → slice_get more j ≡ Some (total tallies (cells_at j (ns ++ n ∷ []) (cs ++ c ∷ [])))
    by j h true e =
        subst (λ k. slice_get more k ≡ Some (total tallies (cells_at k (ns ++ n ∷ []) (cs ++ c ∷ [])))) (same_number n j e)
        (ap (λ l. slice_get l n) is ∙ set_here ts n (join_tallies t (tally_of c)) (omega (arith, below, so.0))
        ∙ ap Some (ap (λ x. join_tallies x (tally_of c)) was ∙ sym (total-push (cells_at n ns cs) c)
        ∙ ap (total tallies) (ap (λ b. cells_at n ns cs ++ cond b (c ∷ []) []) (sym (same_itself n)) ∙ sym (cells_at-push n ns cs n c long))))
    by j h false e =
        ap (λ l. slice_get l j) is ∙ set_apart ts n j (join_tallies t (tally_of c)) (other_number n j e) ∙ so.1 j h
        ∙ ap (λ l. Some (total tallies l)) (sym (append-nil (cells_at j ns cs)) ∙ ap (λ b. cells_at j ns cs ++ cond b (c ∷ []) []) (sym e) ∙ sym (cells_at-push j ns cs n c long))

pub at_read : (ts : List Tally) (n : ℕ) (t : Tally) → n < length ts → t ≡ get_or ts n t → slice_get ts n ≡ Some t
at_read ts n t h e = slice_get-get_or ts n t h ∙ ap Some (sym e)

pub got_same : (ts : List Tally) (n : ℕ) (s t : Tally) → slice_get ts n ≡ Some s → slice_get ts n ≡ Some t → s ≡ t
got_same ts n s t p q = ap (λ (o : Option Tally). unwrap_or o s) (sym p ∙ q)

-- ---- one row more

take_next : {X : Type 0} (xs : List X) (i : ℕ) (x : X) → slice_get xs i ≡ Some x → take (i + 1) xs ≡ take i xs ++ x ∷ []
take_next {X = X} xs i x e = subst (λ j. take j xs ≡ take i xs ++ x ∷ []) (after i) (by xs i e)
  where
    after : (i : ℕ) → suc i ≡ i + 1
    after i = omega arith

    by : (xs : List X) (i : ℕ) → slice_get xs i ≡ Some x → take (suc i) xs ≡ take i xs ++ x ∷ []
    by [] i e = absurd (none-some x e)
    by (m ∷ xs) zero e = ap (λ (o : Option X). elim o [ None ↦ m ∷ [] | Some y ↦ y ∷ [] ]) e
    by (m ∷ xs) (suc i) e = ap (λ l. m ∷ l) (by xs i e)

taken_length : {X Y : Type 0} (xs : List X) (ys : List Y) (i : ℕ) → length xs ≡ length ys → length (take i xs) ≡ length (take i ys)
taken_length xs ys zero e = refl
taken_length [] [] (suc i) e = refl
taken_length [] (y ∷ ys) (suc i) e = unequal (length ys) 0 (sym e)
taken_length (x ∷ xs) [] (suc i) e = unequal (length xs) 0 e
taken_length (x ∷ xs) (y ∷ ys) (suc i) e = ap suc (taken_length xs ys i (omega (arith, e)))

pub row_tallied : (count : ℕ) (ns : List ℕ) (cs : List Cell) (i : ℕ) (ts more : List Tally) (n : ℕ) (c : Cell) (t : Tally) → length ns ≡ length cs → n < count → slice_get ns i ≡ Some n → slice_get cs i ≡ Some c
    → TalliedBy count (take i ns) (take i cs) ts → slice_get ts n ≡ Some t → more ≡ slice_set ts n (join_tallies t (tally_of c)) → TalliedBy count (take (i + 1) ns) (take (i + 1) cs) more
row_tallied count ns cs i ts more n c t long below e f so here is =
    subst (λ l. TalliedBy count l (take (i + 1) cs) more) (sym (take_next ns i n e))
    (subst (λ l. TalliedBy count (take i ns ++ n ∷ []) l more) (sym (take_next cs i c f)) (tallied_more count (take i ns) (take i cs) ts more n c t (taken_length ns cs i long) below so here is))

-- one more of each
pub zip_more : {A B : Type 0} (P : A → B → Type 0) (xs : List A) (ys : List B) (i : ℕ) (x : A) (y : B) → i < length xs → x ≡ get_or xs i x → AllZip P (take i xs) ys → P x y → AllZip P (take (i + 1) xs) (ys ++ y ∷ [])
zip_more {A = A} {B = B} P xs ys i x y h e all p = subst (λ j. AllZip P (take j xs) (ys ++ y ∷ [])) (after i) (by xs ys i h e all)
  where
    after : (i : ℕ) → suc i ≡ i + 1
    after i = omega arith

    by : (xs : List A) (ys : List B) (i : ℕ) → i < length xs → x ≡ get_or xs i x → AllZip P (take i xs) ys → AllZip P (take (suc i) xs) (ys ++ y ∷ [])
    by [] ys i h e all = absurd (omega (arith, h))
    by (w ∷ xs) [] zero h e all = (subst (λ v. P v y) e p, tt)
    by (w ∷ xs) (z ∷ ys) zero h e all = absurd all
    by (w ∷ xs) [] (suc i) h e all = absurd all
    by (w ∷ xs) (z ∷ ys) (suc i) h e all = (all.0, by xs ys i (omega (arith, h)) e all.1)
