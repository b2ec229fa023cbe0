-- How many bytes of text rows have, and which of them a range leaves.
use Rattle.std.proofs.Common.{◌≡◌, ℕ, zero, suc, ◌+◌, ◌-◌, ◌<◌, ◌≤◌, ℤ, ◌≤ℤ◌, Bool, true, false, not, List, [], ◌∷◌, ◌++◌, length, take, drop, refl, sym, ap, ◌∙◌, subst, arith, Option, Some, None, inl, inr}
use Rattle.std.specs.Prelude.{◌⊎◌, slice_range, filter, count_by, sum_by, IfSome}
use Rattle.std.specs.List.{AllByRecursion, AllZip, list_any}
use Rattle.std.proofs.lemmas.Bool.{true≢false, or_parts}
use Rattle.std.proofs.lemmas.Int.{ints}
use Rattle.std.proofs.lemmas.List.{length-map, take_all, length-drop}
use Rattle.std.proofs.lemmas.List.Sums.{sum_by-cons, sum_by-append, length-filter}
use Rattle.frame_core.specs.declared.cell.Cell.{Cell}
use Rattle.frame_core.specs.declared.cell.Cell.TheVariants as cells
use Rattle.frame_core.specs.Ranges.{Range, InOrder, IsRange, is_below, is_above}
use Rattle.frame_core.specs.Schemas.{Head}
use Rattle.frame_core.specs.Frames.{Row, Frame, IsFrame, FitsColumns, NeverFall, stamps_of, rows_below, rows_above, type_of}
use Rattle.frame_core.specs.Columns.{cells_of, columns_from}
use Rattle.frame_core.specs.Limits.{all_text_bytes, text_bytes, IsStorable}
use Rattle.frame_core.proofs.FrameLimits.{bytes-rows_from}
use Rattle.frame_core.proofs.Rows.{HaveLength, length-cells_of, rows_from-columns}
use Rattle.segment_cut.proofs.Wholes.{widths}
use Rattle.append_update.specs.Sizes.{text_total, kept_rows, is_text}
use Rattle.append_update.proofs.ListLemmas.{FallsOff, passing, falls_later, none_behind, filter_none}
use Rattle.append_update.proofs.RangeLemmas.{below_before, above_behind}
use Rattle.append_update.proofs.FrameLemmas.{frame_within}

-- ---- by columns

lengths-from : (n : ℕ) (rows : List Row) → AllByRecursion (λ (r : Row). length r.cells ≡ n) rows → (m k : ℕ) → k + m ≤ n → HaveLength (length rows) (columns_from k m rows)
lengths-from n rows all zero k le = tt
lengths-from n rows all (suc m) k le = (length-cells_of n k rows (omega (arith, le)) all, lengths-from n rows all m (k + 1) (omega (arith, le)))

-- the bytes of the columns are those of the rows
pub columns_total : (f : Frame) → IsFrame f → sum_by all_text_bytes (columns_from 0 (length f.schema.columns) f.rows) ≡ text_total f.rows
columns_total f is =
    let n : ℕ = length f.schema.columns in
    let all = widths f is in
    let long : length (stamps_of f.rows) ≡ length f.rows = length-map f.rows (λ (r : Row). r.stamp) in
    let same = subst (λ k. HaveLength k (columns_from 0 n f.rows)) (sym long) (lengths-from n f.rows all n 0 (omega arith)) in
    sym (bytes-rows_from (stamps_of f.rows) (columns_from 0 n f.rows) same) ∙ ap text_total (rows_from-columns n f.rows all)

-- one column more
pub columns_more : (k n : ℕ) (rows : List Row) → k < n → sum_by all_text_bytes (columns_from k (n - k) rows) ≡ all_text_bytes (cells_of k rows) + sum_by all_text_bytes (columns_from (k + 1) (n - (k + 1)) rows)
columns_more k n rows less =
    let step : n - k ≡ suc (n - (k + 1)) = omega (arith, less) in
    ap (λ m. sum_by all_text_bytes (columns_from k m rows)) step ∙ sum_by-cons all_text_bytes (cells_of k rows) (columns_from (k + 1) (n - (k + 1)) rows)

pub columns_done : (k n : ℕ) (rows : List Row) → n ≤ k → sum_by all_text_bytes (columns_from k (n - k) rows) ≡ 0
columns_done k n rows le = let none : n - k ≡ 0 = omega (arith, le) in ap (λ m. sum_by all_text_bytes (columns_from k m rows)) none

-- ---- without a column of texts

no_text : (head : Head) (cell : Cell) → is_text head.1 ≡ false → type_of cell ≡ head.1 → text_bytes cell ≡ 0
no_text head (cells.Int n) e is = refl
no_text head (cells.Flag b) e is = refl
no_text head (cells.Text t) e is = absurd (true≢false (ap is_text is ∙ e))
no_text head (cells.Stamp n) e is = refl

no_texts : (heads : List Head) (cs : List Cell) → list_any (λ (c : Head). is_text c.1) heads ≡ false → AllZip (λ (c : Head) cell. type_of cell ≡ c.1) heads cs → all_text_bytes cs ≡ 0
no_texts [] [] e typed = refl
no_texts [] (x ∷ cs) e typed = absurd typed
no_texts (h ∷ heads) [] e typed = absurd typed
no_texts (h ∷ heads) (x ∷ cs) e typed =
    let parts = or_parts (is_text h.1) (list_any (λ (c : Head). is_text c.1) heads) e in
    omega (arith, sum_by-cons text_bytes x cs, no_text h x parts.0 typed.0, no_texts heads cs parts.1 typed.1)

pub no_texts_in : (heads : List Head) (rows : List Row) → list_any (λ (c : Head). is_text c.1) heads ≡ false → AllByRecursion (FitsColumns heads) rows → text_total rows ≡ 0
no_texts_in heads [] e fits = refl
no_texts_in heads (r ∷ rows) e fits = omega (arith, sum_by-cons (λ (r : Row). all_text_bytes r.cells) r rows, no_texts heads r.cells e fits.0.typed, no_texts_in heads rows e fits.1)

-- ---- the rows that a range leaves

keep_front : {X : Type 0} (p : X → Bool) (xs : List X) → FallsOff p xs → filter p xs ≡ take (passing p xs) xs
keep_front p [] falls = refl
keep_front {X} p (x ∷ xs) falls = by (keep_front p xs (falls_later p x xs falls)) (p x) refl
  where
    by : filter p xs ≡ take (passing p xs) xs → (b : Bool) → p x ≡ b → filter p (x ∷ xs) ≡ take (passing p (x ∷ xs)) (x ∷ xs)
    by rest true e = rw e (ap (λ l. x ∷ l) rest)
    by rest false e = rw e (rw (filter_none p xs (none_behind p x xs falls e)) refl)

keep_back : {X : Type 0} (p q : X → Bool) → ((x : X) → p x ≡ not (q x)) → (xs : List X) → FallsOff p xs → filter q xs ≡ drop (passing p xs) xs
keep_back p q opposite [] falls = refl
keep_back {X} p q opposite (x ∷ xs) falls = by (keep_back p q opposite xs (falls_later p x xs falls)) (p x) refl (q x) refl
  where
    all_kept : (xs : List X) → AllByRecursion (λ x. p x ≡ false) xs → filter q xs ≡ xs
    all_kept [] none = refl
    all_kept (x ∷ xs) none = rw (on (q x) (sym none.0 ∙ opposite x)) (ap (λ l. x ∷ l) (all_kept xs none.1))
      where
        on : (b : Bool) → false ≡ not b → b ≡ true
        on true e = refl
        on false e = absurd (true≢false (sym e))

    by : filter q xs ≡ drop (passing p xs) xs → (b : Bool) → p x ≡ b → (c : Bool) → q x ≡ c → filter q (x ∷ xs) ≡ drop (passing p (x ∷ xs)) (x ∷ xs)
    by rest true e true f = absurd (true≢false (sym e ∙ (opposite x ∙ ap not f)))
    by rest true e false f = rw (e, f) rest
    by rest false e true f =
        let behind = none_behind p x xs falls e in
        rw (e, f) (ap (λ l. x ∷ l) (all_kept xs behind) ∙ rw (filter_none p xs behind) refl)
    by rest false e false f = absurd (true≢false (sym (sym e ∙ (opposite x ∙ ap not f))))

falls_by_stamp : (p : ℤ → Bool) → ((t u : ℤ) → t ≤ℤ u → p u ≡ true → p t ≡ true) → (rows : List Row) → NeverFall (stamps_of rows) → FallsOff (λ (r : Row). p r.stamp) rows
falls_by_stamp p earlier [] rising = tt
falls_by_stamp p earlier (r ∷ []) rising = tt
falls_by_stamp p earlier (r ∷ s ∷ rows) rising = (λ e. earlier r.stamp s.stamp rising.0 e, falls_by_stamp p earlier (s ∷ rows) rising.1)

flip : (a b : Bool) → (a ≡ true → b ≡ true) → not b ≡ true → not a ≡ true
flip true true f e = absurd (true≢false (sym e))
flip true false f e = absurd (true≢false (sym (f refl)))
flip false b f e = refl

module _ (range : Range) (rows : List Row) (rising : NeverFall (stamps_of rows)) where
  -- those below are the first ones
  pub below_first : rows_below range rows ≡ slice_range rows 0 (count_by (λ (r : Row). is_below range r.stamp) rows)
  below_first =
      let n : ℕ = count_by (λ (r : Row). is_below range r.stamp) rows in
      let same : n ≡ n - 0 = omega arith in
      keep_front (λ (r : Row). is_below range r.stamp) rows (falls_by_stamp (is_below range) (below_before range) rows rising)
      ∙ (ap (λ k. take k rows) (length-filter (λ (r : Row). is_below range r.stamp) rows) ∙ ap (λ k. take k rows) same)

  -- and those above are the last
  pub above_last : rows_above range rows ≡ slice_range rows (count_by (λ (r : Row). not (is_above range r.stamp)) rows) (length rows)
  above_last =
      let n : ℕ = count_by (λ (r : Row). not (is_above range r.stamp)) rows in
      keep_back (λ (r : Row). not (is_above range r.stamp)) (λ (r : Row). is_above range r.stamp) (λ r. refl) rows
      (falls_by_stamp (λ t. not (is_above range t)) (λ t u le e. flip (is_above range t) (is_above range u) (above_behind range t u le) e) rows rising)
      ∙ (ap (λ k. drop k rows) (length-filter (λ (r : Row). not (is_above range r.stamp)) rows)
      ∙ sym (take_all (length rows - n) (drop n rows) (omega (arith, length-drop n rows))))

-- ---- their bytes

pub total-append : (xs ys : List Row) → text_total (xs ++ ys) ≡ text_total xs + text_total ys
total-append xs ys = sum_by-append (λ (r : Row). all_text_bytes r.cells) xs ys

-- two tests that no row passes both
apart_total : (p q : Row → Bool) → ((r : Row) → p r ≡ true → q r ≡ true → ⊥) → (rows : List Row) → text_total (filter p rows) + text_total (filter q rows) ≤ text_total rows
apart_total p q apart [] = omega arith
apart_total p q apart (r ∷ rows) = by (apart_total p q apart rows) (p r) refl (q r) refl
  where
    one : (rs : List Row) → text_total (r ∷ rs) ≡ all_text_bytes r.cells + text_total rs
    one rs = sum_by-cons (λ (r : Row). all_text_bytes r.cells) r rs

    by : text_total (filter p rows) + text_total (filter q rows) ≤ text_total rows → (b : Bool) → p r ≡ b → (c : Bool) → q r ≡ c → text_total (filter p (r ∷ rows)) + text_total (filter q (r ∷ rows)) ≤ text_total (r ∷ rows)
    by rest true e true f = absurd (apart r e f)
    by rest true e false f = rw (e, f) (omega (arith, rest, one rows, one (filter p rows)))
    by rest false e true f = rw (e, f) (omega (arith, rest, one rows, one (filter q rows)))
    by rest false e false f = rw (e, f) (omega (arith, rest, one rows))

below_not_above : (range : Range) → IsRange range → (r : Row) → is_below range r.stamp ≡ true → is_above range r.stamp ≡ true → ⊥
below_not_above range order r low high = by range.from range.to order low high
  where
    by : (from to : Option ℤ) → InOrder from to → is_below (record range { from = from }) r.stamp ≡ true → is_above (record range { to = to }) r.stamp ≡ true → ⊥
    by None to order e e' = true≢false (sym e)
    by (Some from) None order e e' = true≢false (sym e')
    by (Some from) (Some to) order e e' = grind (arith, ints)

-- the rows that stay have no more bytes than all
pub kept_total : (range : Option Range) → IfSome range IsRange → (rows : List Row) → text_total (kept_rows range rows) ≤ text_total rows
kept_total None order rows = omega arith
kept_total (Some range) order rows =
    omega (arith, total-append (rows_below range rows) (rows_above range rows), apart_total (λ (r : Row). is_below range r.stamp) (λ (r : Row). is_above range r.stamp) (below_not_above range order) rows)

-- where the base or the frame has no texts, both together have no more than the limit
pub few_texts : (range : Option Range) → IfSome range IsRange → (base frame : Frame) → IsStorable base → IsStorable frame
    → (length frame.rows ≡ 0) ⊎ (list_any (λ (c : Head). is_text c.1) base.schema.columns ≡ false) → text_total (kept_rows range base.rows) + text_total frame.rows ≤ 67108864
few_texts range order base frame b f none =
    let kept = kept_total range order base.rows in
    let base_is = (frame_within base b.within).all_are in
    let frame_is = (frame_within frame f.within).all_are in
    elim none [
      | inl no_rows ↦ omega (arith, kept, base_is, empty frame.rows no_rows)
      | inr no_texts ↦ omega (arith, kept, frame_is, no_texts_in base.schema.columns base.rows no_texts b.is_frame.fitting)
    ]
  where
    empty : (rows : List Row) → length rows ≡ 0 → text_total rows ≡ 0
    empty [] e = refl
    empty (r ∷ rows) e = absurd (omega (arith, e))
