-- The distinct cells, ascending: in whichever order they come, and of a list that has each once.
use Rattle.std.proofs.Common.{◌≡◌, ℕ, zero, suc, ◌+◌, refl, ap, ap₂, sym, ◌∙◌, subst, arith, length, take}
use Rattle.std.specs.Prelude.{Bool, true, false, ⊤, ◌||◌, List, [], ◌∷◌, ◌++◌, map, slice_get, Option, Some, None, IsPermutation, if◌then◌else◌}
use Rattle.std.specs.List.{AllByRecursion, IsDistinct, list_any}
use Rattle.std.specs.declared.cmp.Ordering.{Ordering}
use Rattle.std.specs.declared.cmp.Ordering.TheVariants.{Less, Equal, Greater}
use Rattle.std.specs.Ordering.{is_eq}
use Rattle.std.proofs.lemmas.Bool.{true≢false}
use Rattle.std.proofs.lemmas.Option.{none-some}
use Rattle.std.proofs.lemmas.List.{map-append}
use Rattle.frame_core.specs.declared.cell.Cell.{Cell}
use Rattle.expr_clause.specs.Cells.{cell_cmp, same_cell}
use Rattle.expr_clause.specs.Groups.{Line, keys, insert_key}
use Rattle.group_clause.specs.Tallies.{insert_at}
use Rattle.group_clause.specs.Keeping.{Rises}
use Rattle.group_clause.specs.Blocks.{distinct, IsNumbering}
use Rattle.group_clause.specs.CellOrder.{cells_equal}
use Rattle.group_clause.proofs.Merging.{either_order, joined, folded, folded-permutation}
use Rattle.group_clause.proofs.Keys.{key_placing}
use Rattle.group_clause.proofs.KeepingLemmas.{keys-insert_at}

-- ---- insertions of keys, as insertions of values that say nothing

nothing : ⊤ → ⊤ → ⊤
nothing x y = tt

abbrev bare : List Cell → List (Cell × ⊤)
bare = map (λ k. (k, tt))

keys_of_bare : (s : List Cell) → map (λ (h : Cell × ⊤). h.0) (bare s) ≡ s
keys_of_bare [] = refl
keys_of_bare (k ∷ s) = ap (λ l. k ∷ l) (keys_of_bare s)

as_bare : (k : Cell) (s : List Cell) → insert_key k s ≡ map (λ (h : Cell × ⊤). h.0) (insert_at nothing (k, tt) (bare s))
as_bare k s = ap (insert_key k) (sym (keys_of_bare s)) ∙ sym (keys-insert_at nothing (k, tt) (bare s))

twice_as_bare : (k m : Cell) (s : List Cell) → insert_key k (insert_key m s) ≡ map (λ (h : Cell × ⊤). h.0) (insert_at nothing (k, tt) (insert_at nothing (m, tt) (bare s)))
twice_as_bare k m s = ap (insert_key k) (as_bare m s) ∙ sym (keys-insert_at nothing (k, tt) (insert_at nothing (m, tt) (bare s)))

pub either_key : (k m : Cell) (s : List Cell) → insert_key k (insert_key m s) ≡ insert_key m (insert_key k s)
either_key k m s = twice_as_bare k m s ∙ ap (map (λ (h : Cell × ⊤). h.0)) (either_order nothing (λ x y z. refl) (λ x y. refl) (k, tt) (m, tt) (bare s)) ∙ sym (twice_as_bare m k s)

same_key_twice : (k : Cell) (s : List Cell) → insert_key k (insert_key k s) ≡ insert_key k s
same_key_twice k s = twice_as_bare k k s ∙ ap (map (λ (h : Cell × ⊤). h.0)) (sym (joined nothing (λ x y z. refl) k tt tt (bare s))) ∙ sym (as_bare k s)

-- ---- distinct cells

distinct-push : (ks : List Cell) (k : Cell) → distinct (ks ++ k ∷ []) ≡ insert_key k (distinct ks)
distinct-push [] k = refl
distinct-push (m ∷ ks) k = ap (insert_key m) (distinct-push ks k) ∙ either_key m k (distinct ks)

as_folded : (ks : List Cell) → distinct ks ≡ folded insert_key [] ks
as_folded [] = refl
as_folded (k ∷ ks) = ap (insert_key k) (as_folded ks)

pub distinct-permutation : (xs ys : List Cell) → IsPermutation xs ys → distinct ys ≡ distinct xs
distinct-permutation xs ys moved = as_folded ys ∙ folded-permutation insert_key [] either_key xs ys moved ∙ sym (as_folded xs)

pub keys_distinct : (lines : List Line) → keys lines ≡ distinct (map (λ (l : Line). l.0) lines)
keys_distinct [] = refl
keys_distinct (line ∷ lines) = ap (insert_key line.0) (keys_distinct lines)

equal : (o : Ordering) → is_eq o ≡ true → o ≡ Equal
equal Less e = absurd (true≢false (sym e))
equal Equal e = refl
equal Greater e = absurd (true≢false (sym e))

-- a key that is there changes nothing
absorbed : (k : Cell) (names : List Cell) → list_any (same_cell k) names ≡ true → insert_key k (distinct names) ≡ distinct names
absorbed k [] e = absurd (true≢false (sym e))
absorbed k (m ∷ names) e = by (absorbed k names) (same_cell k m) refl e
  where
    by : (list_any (same_cell k) names ≡ true → insert_key k (distinct names) ≡ distinct names) → (b : Bool) → same_cell k m ≡ b → b || list_any (same_cell k) names ≡ true → insert_key k (insert_key m (distinct names)) ≡ insert_key m (distinct names)
    by rest true same e = ap (λ x. insert_key x (insert_key m (distinct names))) (cells_equal k m (equal (cell_cmp k m) same)) ∙ same_key_twice m (distinct names)
    by rest false other e = either_key k m (distinct names) ∙ ap (insert_key m) (rest e)

-- ascending cells are their own distinct ones
goes_first : (k : Cell) (ks : List Cell) → AllByRecursion (λ x. cell_cmp k x ≡ Less) ks → insert_key k ks ≡ k ∷ ks
goes_first k [] all = refl
goes_first k (m ∷ ks) all = key_placing k m ks Less all.0

pub distinct-rising : (ks : List Cell) → Rises ks → distinct ks ≡ ks
distinct-rising [] rises = refl
distinct-rising (k ∷ ks) rises = ap (insert_key k) (distinct-rising ks rises.1) ∙ goes_first k ks rises.0

-- ---- numbers

pushed : (names : List Cell) (k : Cell) → list_any (same_cell k) names ≡ false → distinct (if list_any (same_cell k) names then names else names ++ k ∷ []) ≡ insert_key k (distinct names)
pushed names k e = ap (λ b. distinct (if b then names else names ++ k ∷ [])) e ∙ distinct-push names k

distinct-insert : (names : List Cell) (k : Cell) → distinct (if list_any (same_cell k) names then names else names ++ k ∷ []) ≡ insert_key k (distinct names)
distinct-insert names k = by (list_any (same_cell k) names) refl
  where
    by : (b : Bool) → list_any (same_cell k) names ≡ b → distinct (if list_any (same_cell k) names then names else names ++ k ∷ []) ≡ insert_key k (distinct names)
    by true e = ap (λ b. distinct (if b then names else names ++ k ∷ [])) e ∙ sym (absorbed k names e)
    by false e = pushed names k e

got_before : (names ys : List Cell) (n : ℕ) (k : Cell) → slice_get names n ≡ Some k → slice_get (names ++ ys) n ≡ Some k
got_before [] ys n k e = absurd (none-some k e)
got_before (m ∷ names) ys zero k e = e
got_before (m ∷ names) ys (suc n) k e = got_before names ys n k e

still_named : (names ys : List Cell) (numbers : List ℕ) (ks : List Cell) → map (λ n. slice_get names n) numbers ≡ map Some ks → map (λ n. slice_get (names ++ ys) n) numbers ≡ map Some ks
still_named names ys [] [] e = refl
still_named names ys [] (k ∷ ks) e = absurd (unequal_lengths (length (map Some ks)) (ap length e))
  where
    unequal_lengths : (n : ℕ) → 0 ≡ suc n → ⊥
    unequal_lengths n h = omega (arith, h)
still_named names ys (n ∷ numbers) [] e = absurd (unequal_lengths (length (map (λ n. slice_get names n) numbers)) (ap length e))
  where
    unequal_lengths : (n : ℕ) → suc n ≡ 0 → ⊥
    unequal_lengths n h = omega (arith, h)
still_named names ys (n ∷ numbers) (k ∷ ks) e = ap₂ ◌∷◌ (got_before names ys n k (first e)) (still_named names ys numbers ks (others e))
  where
    first : slice_get names n ∷ map (λ n. slice_get names n) numbers ≡ Some k ∷ map Some ks → slice_get names n ≡ Some k
    first e = ap (λ (l : List (Option Cell)). elim l [ [] ↦ slice_get names n | x ∷ xs ↦ x ]) e

    others : slice_get names n ∷ map (λ n. slice_get names n) numbers ≡ Some k ∷ map Some ks → map (λ n. slice_get names n) numbers ≡ map Some ks
    others e = ap (λ (l : List (Option Cell)). elim l [ [] ↦ [] | x ∷ xs ↦ xs ]) e

take_next : (ks : List Cell) (i : ℕ) (k : Cell) → slice_get ks i ≡ Some k → take (i + 1) ks ≡ take i ks ++ k ∷ []
take_next ks i k e = subst (λ j. take j ks ≡ take i ks ++ k ∷ []) (after i) (by ks i e)
  where
    after : (i : ℕ) → suc i ≡ i + 1
    after i = omega arith

    by : (ks : List Cell) (i : ℕ) → slice_get ks i ≡ Some k → take (suc i) ks ≡ take i ks ++ k ∷ []
    by [] i e = absurd (none-some k e)
    by (m ∷ ks) zero e = ap (λ (o : Option Cell). elim o [ None ↦ m ∷ [] | Some x ↦ x ∷ [] ]) e
    by (m ∷ ks) (suc i) e = ap (λ l. m ∷ l) (by ks i e)

-- one row more
pub numbering_more : (numbers : List ℕ) (names more ks : List Cell) (i n : ℕ) (k : Cell) → IsNumbering numbers names (take i ks) → slice_get ks i ≡ Some k → more ≡ (if list_any (same_cell k) names then names else names ++ k ∷ [])
    → (m : Cell) × (slice_get more n ≡ Some m) × (same_cell k m ≡ true) → IsDistinct same_cell more → IsNumbering (numbers ++ n ∷ []) more (take (i + 1) ks)
numbering_more numbers names more ks i n k so here is stored once =
    subst (IsNumbering (numbers ++ n ∷ []) more) (sym (take_next ks i k here)) (record {
      named = map-append (λ n. slice_get more n) numbers (n ∷ []) ∙ ap₂ ◌++◌ before (ap (λ o. o ∷ []) (stored.1 ∙ ap Some (sym (cells_equal k stored.0 (equal (cell_cmp k stored.0) stored.2))))) ∙ sym (map-append Some (take i ks) (k ∷ []));
      once = once;
      all = distinct-push (take i ks) k ∙ ap (insert_key k) so.all ∙ sym (distinct-insert names k) ∙ ap distinct (sym is);
    })
  where
    by : (b : Bool) → map (λ n. slice_get (if b then names else names ++ k ∷ []) n) numbers ≡ map Some (take i ks)
    by true = so.named
    by false = still_named names (k ∷ []) numbers (take i ks) so.named

    before : map (λ n. slice_get more n) numbers ≡ map Some (take i ks)
    before = ap (λ l. map (λ n. slice_get l n) numbers) is ∙ by (list_any (same_cell k) names)
