-- The groups of a block are those of its lines.
use Rattle.std.proofs.Common.{◌≡◌, ℕ, zero, suc, ◌+◌, ◌<◌, ◌≤◌, refl, ap, ap₂, sym, ◌∙◌, subst, arith, length, drop}
use Rattle.std.specs.Prelude.{Bool, true, false, cond, ◌==◌, List, [], ◌∷◌, ◌++◌, map, filter, slice_get, slice_index_or, Option, Some, None, unwrap_or, IsPermutation}
use Rattle.std.specs.List.{AllByRecursion, AllZip, IsDistinct}
use Rattle.std.specs.List.Sorted.{IsSorted}
use Rattle.std.specs.declared.cmp.Ordering.{Ordering}
use Rattle.std.specs.declared.cmp.Ordering.TheVariants.{Less, Equal, Greater}
use Rattle.std.specs.Ordering.{is_eq, is_lt, ordering_reverse}
use Rattle.std.proofs.lemmas.Bool.{true≢false}
use Rattle.std.proofs.lemmas.Bool.Decides.{Decides-eqb}
use Rattle.std.proofs.lemmas.Cmp.{tied_itself}
use Rattle.std.proofs.lemmas.List.{drop_more, append_assoc}
use Rattle.std.proofs.lemmas.List.Elements.{All-from_recursion, recursion_from_All}
use Rattle.std.proofs.lemmas.List.Sorted.{IsPermutation-map, All-permutation, sorted_far, ranks_by}
use Rattle.std.proofs.lemmas.Map.Keys.{IsDistinct-IsPermutation}
use Rattle.std.proofs.lemmas.Option.{none-some, slice_get_within, get_or_from_slice_get}
use lib.ListN.{get_or}
use Rattle.frame_core.specs.declared.cell.Cell.{Cell}
use Rattle.frame_core.specs.Texts.{Text}
use Rattle.frame_core.specs.Schemas.{Head}
use Rattle.frame_core.specs.Frames.{Row}
use Rattle.expr_clause.specs.declared.clause.Out.{Out}
use Rattle.expr_clause.specs.Cells.{cell_cmp, same_cell}
use Rattle.expr_clause.specs.Exprs.{cell_named}
use Rattle.expr_clause.specs.Groups.{Line, keys, cells_with}
use Rattle.expr_clause.specs.Typing.{absent_from}
use Rattle.frame_core.specs.Selecting.{place_of}
use Rattle.expr_clause.specs.Asking.{line_of}
use Rattle.group_clause.specs.Tallies.{join_lists, kept, total}
use Rattle.group_clause.specs.Partials.{Tally, no_tally, tally_of, join_tallies, tallies}
use Rattle.group_clause.specs.Keeping.{Rises}
use Rattle.group_clause.specs.Taking.{Groups}
use Rattle.group_clause.specs.Blocks.{distinct, cells_at, IsNumbering, TalliedBy, column_of, cells_by, numbered_groups}
use Rattle.group_clause.specs.CellOrder.{cell_cmp_total}
use Rattle.group_clause.specs.GroupOrder.{group_cmp}
use Rattle.group_clause.proofs.Keys.{all_inserted, all_weaker}
use Rattle.group_clause.proofs.Grouping.{totals, by_key, kept_by_key, same_flipped}
use Rattle.group_clause.proofs.TallyLaws.{tallies_unit}
use Rattle.group_clause.proofs.DistinctKeys.{distinct-permutation, distinct-rising, keys_distinct}

abbrev Entry : Type 0
Entry = Cell × List Tally

abbrev key_of : Entry → Cell
key_of g = g.0

same_itself : (k : Cell) → same_cell k k ≡ true
same_itself k = ap is_eq (tied_itself cell_cmp_total k)

inside : {X : Type 0} (x y : X) → Some x ≡ Some y → x ≡ y
inside x y e = ap (λ o. unwrap_or o x) e

-- ---- numbers and keys

number_same : (n : ℕ) → n == n ≡ true
number_same n = (Decides-eqb n n).1 refl

number_apart : (n j : ℕ) → (n ≡ j → ⊥) → n == j ≡ false
number_apart n j apart = by (n == j) refl
  where
    by : (b : Bool) → n == j ≡ b → n == j ≡ false
    by true e = absurd (apart ((Decides-eqb n j).0 e))
    by false e = e

apart_at : (m : Cell) (names : List Cell) (j : ℕ) (k : Cell) → AllByRecursion (λ y. same_cell m y ≡ false) names → slice_get names j ≡ Some k → same_cell m k ≡ false
apart_at m [] j k all e = absurd (none-some k e)
apart_at m (x ∷ names) zero k all e = subst (λ y. same_cell m y ≡ false) (inside x k e) all.0
apart_at m (x ∷ names) (suc j) k all e = apart_at m names j k all.1 e

once_head : (x : Cell) (names : List Cell) → IsDistinct same_cell (x ∷ names) → AllByRecursion (λ y. same_cell x y ≡ false) names
unfolding IsDistinct
once_head x names once = once.0

once_rest : (x : Cell) (names : List Cell) → IsDistinct same_cell (x ∷ names) → IsDistinct same_cell names
unfolding IsDistinct
once_rest x names once = once.1

-- two places have one number just where their keys are one
place_tells : (names : List Cell) (n j : ℕ) (k m : Cell) → IsDistinct same_cell names → slice_get names n ≡ Some k → slice_get names j ≡ Some m → same_cell m k ≡ true → n ≡ j
place_tells [] n j k m once e f s = absurd (none-some k e)
place_tells (x ∷ names) zero zero k m once e f s = refl
place_tells (x ∷ names) zero (suc j) k m once e f s =
    absurd (true≢false (sym s ∙ same_flipped m k ∙ ap (λ y. same_cell y m) (sym (inside x k e)) ∙ apart_at x names j m (once_head x names once) f))
place_tells (x ∷ names) (suc n) zero k m once e f s = absurd (true≢false (sym s ∙ ap (λ y. same_cell y k) (sym (inside x m f)) ∙ apart_at x names n k (once_head x names once) e))
place_tells (x ∷ names) (suc n) (suc j) k m once e f s = ap suc (place_tells names n j k m (once_rest x names once) e f s)

number_tells : (names : List Cell) (n j : ℕ) (k m : Cell) → IsDistinct same_cell names → slice_get names n ≡ Some k → slice_get names j ≡ Some m → n == j ≡ same_cell m k
number_tells names n j k m once e f = by (same_cell m k) refl
  where
    by : (b : Bool) → same_cell m k ≡ b → n == j ≡ b
    by true s = (Decides-eqb n j).1 (place_tells names n j k m once e f s)
    by false s = number_apart n j (λ same. true≢false (sym (same_itself m) ∙ ap (same_cell m) (inside m k (sym f ∙ ap (slice_get names) (sym same) ∙ e)) ∙ s))

-- ---- the lines of a block

module _ (columns : List Head) (key : Text) (outs : List Out) where
  abbrev at : Row → Text → Cell
  at r name = cell_named columns r.cells name

  abbrev with_key : Cell → List Row → List Row
  with_key m rows = filter (λ (r : Row). same_cell m (at r key)) rows

  abbrev lines_of : List Row → List Line
  lines_of rows = map (line_of columns key outs) rows

  abbrev cells_out : Row → List Cell
  cells_out r = map (λ (o : Out). at r o.of) outs

  numbered_cells : (names : List Cell) (j : ℕ) (m : Cell) (name : Text) (numbers : List ℕ) (rows : List Row) → IsDistinct same_cell names → slice_get names j ≡ Some m
      → map (λ n. slice_get names n) numbers ≡ map Some (column_of columns rows key) → cells_at j numbers (column_of columns rows name) ≡ cells_by m columns rows key name
  numbered_cells names j m name [] [] once f e = refl
  numbered_cells names j m name [] (r ∷ rows) once f e = absurd (uneven (length (map Some (column_of columns rows key))) (ap length e))
    where
      uneven : (n : ℕ) → 0 ≡ suc n → ⊥
      uneven n h = omega (arith, h)
  numbered_cells names j m name (n ∷ numbers) [] once f e = absurd (uneven (length (map (λ n. slice_get names n) numbers)) (ap length e))
    where
      uneven : (n : ℕ) → suc n ≡ 0 → ⊥
      uneven n h = omega (arith, h)
  numbered_cells names j m name (n ∷ numbers) (r ∷ rows) once f e =
      ap (λ b. cond b (at r name ∷ cells_at j numbers (column_of columns rows name)) (cells_at j numbers (column_of columns rows name))) (number_tells names n j (at r key) m once (first e) f)
      ∙ by (same_cell m (at r key)) (numbered_cells names j m name numbers rows once f (others e))
    where
      first : slice_get names n ∷ map (λ n. slice_get names n) numbers ≡ Some (at r key) ∷ map Some (column_of columns rows key) → slice_get names n ≡ Some (at r key)
      first e = ap (λ (l : List (Option Cell)). elim l [ [] ↦ slice_get names n | x ∷ xs ↦ x ]) e

      others : slice_get names n ∷ map (λ n. slice_get names n) numbers ≡ Some (at r key) ∷ map Some (column_of columns rows key) → map (λ n. slice_get names n) numbers ≡ map Some (column_of columns rows key)
      others e = ap (λ (l : List (Option Cell)). elim l [ [] ↦ [] | x ∷ xs ↦ xs ]) e

      by : (b : Bool) → cells_at j numbers (column_of columns rows name) ≡ cells_by m columns rows key name
          → cond b (at r name ∷ cells_at j numbers (column_of columns rows name)) (cells_at j numbers (column_of columns rows name)) ≡ column_of columns (cond b (r ∷ with_key m rows) (with_key m rows)) name
      by true rest = ap (λ l. at r name ∷ l) rest
      by false rest = rest

  -- the tallies of a key, output by output
  abbrev by_columns : List Row → Cell → List Tally
  by_columns rows m = map (λ (o : Out). total tallies (cells_by m columns rows key o.of)) outs

  abbrev pair : List Row → Cell → Entry
  pair rows m = (m, by_columns rows m)

  -- ---- the tallies of its lines are those of its columns

  lines_with : (m : Cell) (rows : List Row) → cells_with m (lines_of rows) ≡ map cells_out (with_key m rows)
  lines_with m [] = refl
  lines_with m (r ∷ rows) = by (same_cell m (at r key)) (lines_with m rows)
    where
      by : (b : Bool) → cells_with m (lines_of rows) ≡ map cells_out (with_key m rows)
          → map (λ (l : Line). l.1) (cond b (line_of columns key outs r ∷ filter (λ (l : Line). same_cell m l.0) (lines_of rows)) (filter (λ (l : Line). same_cell m l.0) (lines_of rows))) ≡ map cells_out (cond b (r ∷ with_key m rows) (with_key m rows))
      by true rest = ap (λ l. cells_out r ∷ l) rest
      by false rest = rest

  joined_out : (list : List Out) (r : Row) (rs : List Row) → join_lists join_tallies (map tally_of (map (λ (o : Out). at r o.of) list)) (map (λ (o : Out). total tallies (column_of columns rs o.of)) list)
      ≡ map (λ (o : Out). total tallies (column_of columns (r ∷ rs) o.of)) list
  joined_out [] r rs = refl
  joined_out (o ∷ list) r rs = ap (λ l. total tallies (column_of columns (r ∷ rs) o.of) ∷ l) (joined_out list r rs)

  alone_out : (list : List Out) (r : Row) → map tally_of (map (λ (o : Out). at r o.of) list) ≡ map (λ (o : Out). total tallies (column_of columns (r ∷ []) o.of)) list
  alone_out [] r = refl
  alone_out (o ∷ list) r = ap₂ ◌∷◌ (sym (tallies_unit (tally_of (at r o.of)))) (alone_out list r)

  with_nothing : (xs : List Tally) → join_lists join_tallies xs [] ≡ xs
  with_nothing [] = refl
  with_nothing (x ∷ xs) = refl

  column_totals : (r : Row) (rs : List Row) → totals tallies (map cells_out (r ∷ rs)) ≡ map (λ (o : Out). total tallies (column_of columns (r ∷ rs) o.of)) outs
  column_totals r [] = with_nothing (map tally_of (cells_out r)) ∙ alone_out outs r
  column_totals r (s ∷ rs) = ap (join_lists join_tallies (map tally_of (cells_out r))) (column_totals s rs) ∙ joined_out outs r (s ∷ rs)

  some_totals : (rs : List Row) → 0 < length rs → totals tallies (map cells_out rs) ≡ map (λ (o : Out). total tallies (column_of columns rs o.of)) outs
  some_totals [] h = absurd (omega (arith, h))
  some_totals (r ∷ rs) h = column_totals r rs

  -- each key has a line
  have_lines : (rows : List Row) → AllByRecursion (λ m. 0 < length (with_key m rows)) (keys (lines_of rows))
  have_lines [] = tt
  have_lines (r ∷ rows) =
      all_inserted (λ m. 0 < length (with_key m (r ∷ rows))) (at r key) (keys (lines_of rows)) own (all_weaker (λ m. 0 < length (with_key m rows)) (λ m. 0 < length (with_key m (r ∷ rows))) (λ m h. more m (same_cell m (at r key)) h) (keys (lines_of rows)) (have_lines rows))
    where
      own : 0 < length (with_key (at r key) (r ∷ rows))
      own = subst (λ b. 0 < length (cond b (r ∷ with_key (at r key) rows) (with_key (at r key) rows))) (sym (same_itself (at r key))) (some (length (with_key (at r key) rows)))
        where
          some : (n : ℕ) → 0 < suc n
          some n = omega arith

      more : (m : Cell) (b : Bool) → 0 < length (with_key m rows) → 0 < length (cond b (r ∷ with_key m rows) (with_key m rows))
      more m true h = omega arith
      more m false h = h

  keyed : (rows : List Row) (ms : List Cell) → AllByRecursion (λ m. 0 < length (with_key m rows)) ms → map (pair rows) ms ≡ by_key tallies (lines_of rows) ms
  keyed rows [] all = refl
  keyed rows (m ∷ ms) all = ap₂ ◌∷◌ (ap (λ (ts : List Tally). (m, ts)) (sym (ap (totals tallies) (lines_with m rows) ∙ some_totals (with_key m rows) all.0))) (keyed rows ms all.1)

  -- ---- the groups by number

  tallied_at : (count : ℕ) (numbers : List ℕ) (rows : List Row) (names : List Cell) (j : ℕ) (m : Cell) → IsNumbering numbers names (column_of columns rows key) → j < count → slice_get names j ≡ Some m → (list : List Out) (lists : List (List Tally))
      → AllZip (λ (o : Out) ts. TalliedBy count numbers (column_of columns rows o.of) ts) list lists → map (λ (ts : List Tally). slice_index_or ts j no_tally) lists ≡ map (λ (o : Out). total tallies (cells_by m columns rows key o.of)) list
  tallied_at count numbers rows names j m is h f [] [] all = refl
  tallied_at count numbers rows names j m is h f [] (ts ∷ lists) all = absurd all
  tallied_at count numbers rows names j m is h f (o ∷ list) [] all = absurd all
  tallied_at count numbers rows names j m is h f (o ∷ list) (ts ∷ lists) all =
      ap₂ ◌∷◌ (get_or_from_slice_get ts j _ no_tally (all.0.1 j h) ∙ ap (total tallies) (numbered_cells names j m o.of numbers rows is.once f is.named)) (tallied_at count numbers rows names j m is h f list lists all.1)

  groups_paired : (numbers : List ℕ) (rows : List Row) (names : List Cell) (lists : List (List Tally)) → IsNumbering numbers names (column_of columns rows key)
      → AllZip (λ (o : Out) ts. TalliedBy (length names) numbers (column_of columns rows o.of) ts) outs lists
      → (j : ℕ) (rest : List Cell) → ((i : ℕ) (m : Cell) → slice_get rest i ≡ Some m → (j + i < length names) × (slice_get names (j + i) ≡ Some m)) → numbered_groups j rest lists ≡ map (pair rows) rest
  groups_paired numbers rows names lists is all j [] at_names = refl
  groups_paired numbers rows names lists is all j (m ∷ rest) at_names =
      let here = at_names 0 m refl in
      ap₂ ◌∷◌ (ap (λ (ts : List Tally). (m, ts)) (tallied_at (length names) numbers rows names j m is (subst (λ n. n < length names) (none j) here.0) (subst (λ n. slice_get names n ≡ Some m) (none j) here.1) outs lists all))
      (groups_paired numbers rows names lists is all (j + 1) rest (λ i x e. let next = at_names (suc i) x e in (subst (λ n. n < length names) (after j i) next.0, subst (λ n. slice_get names n ≡ Some x) (after j i) next.1)))
    where
      none : (j : ℕ) → j + 0 ≡ j
      none j = omega arith

      after : (j i : ℕ) → j + suc i ≡ j + 1 + i
      after j i = omega arith

  -- ---- sorted

  own_keys : (rows : List Row) (ms : List Cell) → map key_of (map (pair rows) ms) ≡ ms
  own_keys rows [] = refl
  own_keys rows (m ∷ ms) = ap (λ l. m ∷ l) (own_keys rows ms)

  all_paired : (rows : List Row) (ms : List Cell) → AllByRecursion (λ (g : Entry). g ≡ pair rows g.0) (map (pair rows) ms)
  all_paired rows [] = tt
  all_paired rows (m ∷ ms) = (refl, all_paired rows ms)

  paired_again : (rows : List Row) (gs : Groups) → AllByRecursion (λ (g : Entry). g ≡ pair rows g.0) gs → gs ≡ map (pair rows) (map key_of gs)
  paired_again rows [] all = refl
  paired_again rows (g ∷ gs) all = ap₂ ◌∷◌ all.0 (paired_again rows gs all.1)

turned : (o p : Ordering) → o ≡ ordering_reverse p → is_lt p ≡ false → is_eq o ≡ false → o ≡ Less
turned o Less e lt eq = absurd (true≢false lt)
turned o Equal e lt eq = absurd (true≢false (ap is_eq (sym e) ∙ eq))
turned o Greater e lt eq = e

behind_sorted : (g : Entry) (hs : Groups) → ((j : ℕ) (d : Entry) → j < length hs → is_lt (group_cmp (get_or hs j d) g) ≡ false) → AllByRecursion (λ y. same_cell g.0 y ≡ false) (map key_of hs) → AllByRecursion (λ x. cell_cmp g.0 x ≡ Less) (map key_of hs)
behind_sorted g [] up once = tt
behind_sorted g (h ∷ hs) up once =
    (turned (cell_cmp g.0 h.0) (cell_cmp h.0 g.0) (cell_cmp_total.antisymm g.0 h.0) (up 0 h (some (length hs))) once.0, behind_sorted g hs (λ j d l. up (suc j) d (omega (arith, l))) once.1)
  where
    some : (n : ℕ) → 0 < suc n
    some n = omega arith

sorted_rises : (gs : Groups) → ((i j : ℕ) (d : Entry) → i ≤ j → j < length gs → is_lt (group_cmp (get_or gs j d) (get_or gs i d)) ≡ false) → IsDistinct same_cell (map key_of gs) → Rises (map key_of gs)
sorted_rises [] up once = tt
sorted_rises (g ∷ gs) up once =
    (behind_sorted g gs (λ j d l. up 0 (suc j) d (omega arith) (omega (arith, l))) (once_head g.0 (map key_of gs) once), sorted_rises gs (λ i j d h l. up (suc i) (suc j) d (omega (arith, h)) (omega (arith, l))) (once_rest g.0 (map key_of gs) once))

pub groups_sorted : (columns : List Head) (key : Text) (outs : List Out) (numbers : List ℕ) (rows : List Row) (names : List Cell) (lists : List (List Tally)) (gs : Groups) → IsNumbering numbers names (column_of columns rows key)
    → AllZip (λ (o : Out) ts. TalliedBy (length names) numbers (column_of columns rows o.of) ts) outs lists → IsPermutation (numbered_groups 0 names lists) gs → IsSorted group_cmp gs
    → gs ≡ kept tallies (map (line_of columns key outs) rows)
groups_sorted columns key outs numbers rows names lists gs is all moved up =
    let paired : numbered_groups 0 names lists ≡ map (pair columns key outs rows) names = groups_paired columns key outs numbers rows names lists is all 0 names (λ i m e. subst (λ k. (k < length names) × (slice_get names k ≡ Some m)) (begins i) (slice_get_within names i m e, e)) in
    let moved_pairs : IsPermutation (map (pair columns key outs rows) names) gs = subst (λ l. IsPermutation l gs) paired moved in
    let moved_keys : IsPermutation names (map key_of gs) = subst (λ l. IsPermutation l (map key_of gs)) (own_keys columns key outs rows names) (IsPermutation-map key_of (map (pair columns key outs rows) names) gs moved_pairs) in
    let once : IsDistinct same_cell (map key_of gs) = IsDistinct-IsPermutation same_cell same_flipped names (map key_of gs) moved_keys is.once in
    let rises : Rises (map key_of gs) = sorted_rises gs (sorted_far (λ x y. is_lt (group_cmp x y)) (ranks_by cell_cmp_total key_of) gs up) once in
    let lines = map (line_of columns key outs) rows in
    let same : map key_of gs ≡ keys lines =
    sym (distinct-rising (map key_of gs) rises) ∙ distinct-permutation names (map key_of gs) moved_keys ∙ sym is.all ∙ ap distinct (sym (line_keys rows)) ∙ sym (keys_distinct lines) in
    let each : AllByRecursion (λ (g : Entry). g ≡ pair columns key outs rows g.0) gs =
    recursion_from_All (λ (g : Entry). g ≡ pair columns key outs rows g.0) gs (All-permutation (λ (g : Entry). g ≡ pair columns key outs rows g.0) (map (pair columns key outs rows) names) gs moved_pairs (All-from_recursion (λ (g : Entry). g ≡ pair columns key outs rows g.0) (map (pair columns key outs rows) names) (all_paired columns key outs rows names))) in
    paired_again columns key outs rows gs each ∙ ap (map (pair columns key outs rows)) same ∙ keyed columns key outs rows (keys lines) (have_lines columns key outs rows) ∙ sym (kept_by_key tallies lines)
  where
    begins : (i : ℕ) → i ≡ 0 + i
    begins i = omega arith

    line_keys : (rows : List Row) → map (λ (l : Line). l.0) (map (line_of columns key outs) rows) ≡ column_of columns rows key
    line_keys [] = refl
    line_keys (r ∷ rows) = ap (λ l. cell_named columns r.cells key ∷ l) (line_keys rows)

-- one group more
pub group_more : (names : List Cell) (lists : List (List Tally)) (done : Groups) (whole : Groups) (j : ℕ) (g : Entry) → j < length names → g.0 ≡ get_or names j g.0 → g.1 ≡ map (λ (ts : List Tally). slice_index_or ts j no_tally) lists
    → done ++ numbered_groups j (drop j names) lists ≡ whole → (done ++ g ∷ []) ++ numbered_groups (j + 1) (drop (j + 1) names) lists ≡ whole
group_more names lists done whole j g h e f so =
    append_assoc done (g ∷ []) (numbered_groups (j + 1) (drop (j + 1) names) lists)
    ∙ ap (λ x. done ++ x ∷ numbered_groups (j + 1) (drop (j + 1) names) lists) (ap (λ (ts : List Tally). (g.0, ts)) f)
    ∙ sym (ap (λ l. done ++ numbered_groups j l lists) (drop_more names j g.0 h ∙ ap (λ (k : Cell). k ∷ drop (j + 1) names) (sym e)))
    ∙ so

pub mapped : {X Y Z : Type 0} (f : Y → Z) (g : X → Y) (xs : List X) → map f (map g xs) ≡ map (λ x. f (g x)) xs
mapped f g [] = refl
mapped f g (x ∷ xs) = ap (λ l. f (g x) ∷ l) (mapped f g xs)

-- ---- what the steps ask

pub mapped_length : {X Y : Type 0} (f : X → Y) (xs : List X) → length (map f xs) ≡ length xs
mapped_length f [] = refl
mapped_length f (x ∷ xs) = ap suc (mapped_length f xs)

-- tallies of columns, of which each has one for each number
pub lists_long : {V : Type 0} (items : V → List Tally) (count : ℕ) (numbers : List ℕ) (columns : List Head) (rows : List Row) (outs : List Out) (vs : List V) → AllZip (λ (o : Out) v. TalliedBy count numbers (column_of columns rows o.of) (items v)) outs vs
    → AllByRecursion (λ v. length (items v) ≡ count) vs
lists_long items count numbers columns rows [] [] all = tt
lists_long items count numbers columns rows [] (v ∷ vs) all = absurd all
lists_long items count numbers columns rows (o ∷ outs) [] all = absurd all
lists_long items count numbers columns rows (o ∷ outs) (v ∷ vs) all = (all.0.0, lists_long items count numbers columns rows outs vs all.1)

pub lists_tallied : {V : Type 0} (items : V → List Tally) (count : ℕ) (numbers : List ℕ) (columns : List Head) (rows : List Row) (outs : List Out) (vs : List V) → AllZip (λ (o : Out) v. TalliedBy count numbers (column_of columns rows o.of) (items v)) outs vs
    → AllZip (λ (o : Out) ts. TalliedBy count numbers (column_of columns rows o.of) ts) outs (map items vs)
lists_tallied items count numbers columns rows [] [] all = tt
lists_tallied items count numbers columns rows [] (v ∷ vs) all = absurd all
lists_tallied items count numbers columns rows (o ∷ outs) [] all = absurd all
lists_tallied items count numbers columns rows (o ∷ outs) (v ∷ vs) all = (all.0, lists_tallied items count numbers columns rows outs vs all.1)

pub column_there : (n : ℕ) (columns : List Head) (name : Text) (names : List Text) → absent_from n columns (name ∷ names) ≡ None → place_of name columns ≡ None → ⊥
column_there n columns name names e none = none-some n (sym e ∙ ap (λ (o : Option ℕ). elim o [ None ↦ Some n | Some k ↦ absent_from (n + 1) columns names ]) none)

others_there : (n : ℕ) (columns : List Head) (name : Text) (names : List Text) → absent_from n columns (name ∷ names) ≡ None → absent_from (n + 1) columns names ≡ None
others_there n columns name names e = by (place_of name columns) e
  where
    by : (o : Option ℕ) → ◌≡◌ {A = Option ℕ} (elim o [ None ↦ Some n | Some k ↦ absent_from (n + 1) columns names ]) None → absent_from (n + 1) columns names ≡ None
    by None e = absurd (none-some n (sym e))
    by (Some k) e = e

all_there : (n : ℕ) (columns : List Head) (outs : List Out) → absent_from n columns (map (λ (o : Out). o.of) outs) ≡ None → AllByRecursion (λ (o : Out). place_of o.of columns ≡ None → ⊥) outs
all_there n columns [] e = tt
all_there n columns (o ∷ outs) e = (column_there n columns o.of (map (λ (o : Out). o.of) outs) e, all_there (n + 1) columns outs (others_there n columns o.of (map (λ (o : Out). o.of) outs) e))

pub outs_there : (columns : List Head) (key : Text) (outs : List Out) → absent_from 1 columns (key ∷ map (λ (o : Out). o.of) outs) ≡ None → AllByRecursion (λ (o : Out). place_of o.of columns ≡ None → ⊥) outs
outs_there columns key outs e = all_there 2 columns outs (others_there 1 columns key (map (λ (o : Out). o.of) outs) e)

pub numbers_length : (numbers : List ℕ) (names : List Cell) (columns : List Head) (rows : List Row) (key : Text) → IsNumbering numbers names (column_of columns rows key) → length numbers ≡ length rows
numbers_length numbers names columns rows key is =
    sym (mapped_length (λ n. slice_get names n) numbers) ∙ ap length is.named ∙ mapped_length Some (column_of columns rows key) ∙ mapped_length (λ (r : Row). cell_named columns r.cells key) rows

pub numbers_below : (names : List Cell) (numbers : List ℕ) (ks : List Cell) → map (λ n. slice_get names n) numbers ≡ map Some ks → AllByRecursion (λ n. n < length names) numbers
numbers_below names [] ks e = tt
numbers_below names (n ∷ numbers) [] e = absurd (uneven (length (map (λ n. slice_get names n) numbers)) (ap length e))
  where
    uneven : (n : ℕ) → suc n ≡ 0 → ⊥
    uneven n h = omega (arith, h)
numbers_below names (n ∷ numbers) (k ∷ ks) e =
    (slice_get_within names n k (ap (λ (l : List (Option Cell)). elim l [ [] ↦ slice_get names n | x ∷ xs ↦ x ]) e), numbers_below names numbers ks (ap (λ (l : List (Option Cell)). elim l [ [] ↦ [] | x ∷ xs ↦ xs ]) e))
