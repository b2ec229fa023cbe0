-- The rows of slots by a range.
use Rattle.std.proofs.Common.{◌≡◌, ℕ, zero, suc, ◌+◌, ◌-◌, ℤ, ◌≤ℤ◌, Bool, true, false, not, cond, List, [], ◌∷◌, ◌++◌, take, drop, Option, Some, None, refl, sym, ap, ◌∙◌, subst, arith, inl, inr}
use Rattle.std.specs.Prelude.{slice_range, nat_eq}
use Rattle.std.specs.List.{AllByRecursion}
use Rattle.std.proofs.lemmas.Bool.{true≢false}
use Rattle.std.proofs.lemmas.Int.{ints}
use Rattle.std.proofs.lemmas.List.Elements.{filter-append}
use Rattle.frame_core.specs.Ranges.{Range, is_below, is_above}
use Rattle.frame_core.specs.Frames.{Row, Frame, NeverFall, stamps_of, first_stamp, last_stamp, rows_below, rows_above}
use Rattle.index_tree.specs.declared.index.Slot.{Slot}
use Rattle.index_tree.specs.IndexRules.{IsSlot, Follows, LeadOn, Cover}
use Rattle.store_model.specs.Commits.{HasSlotStamps}
use Rattle.append_update.specs.Bases.{rows_at, rows_of_slots}
use Rattle.append_update.proofs.ListLemmas.{FallsOff}

-- ---- stamps and ends of a range

pub le_trans : (a b c : ℤ) → a ≤ℤ b → b ≤ℤ c → a ≤ℤ c
le_trans a b c ab bc = grind (arith, ints)

pub le_refl : (a : ℤ) → a ≤ℤ a
le_refl a = grind (arith, ints)

-- what lies at or below a stamp below the range lies below it
pub below_before : (range : Range) (t u : ℤ) → t ≤ℤ u → is_below range u ≡ true → is_below range t ≡ true
below_before range t u le e = by range.from e
  where
    by : (from : Option ℤ) → is_below (record range { from = from }) u ≡ true → is_below (record range { from = from }) t ≡ true
    by None e = e
    by (Some from) e = grind (arith, ints)

-- what lies at or above a stamp above the range lies above it
pub above_behind : (range : Range) (t u : ℤ) → t ≤ℤ u → is_above range t ≡ true → is_above range u ≡ true
above_behind range t u le e = by range.to e
  where
    by : (to : Option ℤ) → is_above (record range { to = to }) t ≡ true → is_above (record range { to = to }) u ≡ true
    by None e = e
    by (Some to) e = grind (arith, ints)

-- ---- rows whose stamps never fall

pub rising-later : (r : Row) (rows : List Row) → NeverFall (stamps_of (r ∷ rows)) → NeverFall (stamps_of rows)
rising-later r [] rising = tt
rising-later r (s ∷ rows) rising = rising.1

pub rising-drop : (n : ℕ) (rows : List Row) → NeverFall (stamps_of rows) → NeverFall (stamps_of (drop n rows))
rising-drop zero rows rising = rising
rising-drop (suc n) [] rising = tt
rising-drop (suc n) (r ∷ rows) rising = rising-drop n rows (rising-later r rows rising)

pub rising-take : (n : ℕ) (rows : List Row) → NeverFall (stamps_of rows) → NeverFall (stamps_of (take n rows))
rising-take zero rows rising = tt
rising-take (suc n) [] rising = tt
rising-take (suc zero) (r ∷ rows) rising = tt
rising-take (suc (suc n)) (r ∷ []) rising = tt
rising-take (suc (suc n)) (r ∷ s ∷ rows) rising = (rising.0, rising-take (suc n) (s ∷ rows) rising.1)

pub rising-slice : (rows : List Row) (from to : ℕ) → NeverFall (stamps_of rows) → NeverFall (stamps_of (slice_range rows from to))
rising-slice rows from to rising = rising-take (to - from) (drop from rows) (rising-drop from rows rising)

-- all lie at or below the last
pub up_to_last : (r : Row) (rows : List Row) (last : ℤ) → NeverFall (stamps_of (r ∷ rows)) → last_stamp (r ∷ rows) ≡ Some last → r.stamp ≤ℤ last
up_to_last r [] last rising e = let same : r.stamp ≡ last = cc in subst (λ t. r.stamp ≤ℤ t) same (le_refl r.stamp)
up_to_last r (s ∷ rows) last rising e = le_trans r.stamp s.stamp last rising.0 (up_to_last s rows last rising.1 e)

-- rows of which the last lies below the range all do
pub all_below : (range : Range) (rows : List Row) (last : ℤ) → NeverFall (stamps_of rows) → last_stamp rows ≡ Some last → is_below range last ≡ true → rows_below range rows ≡ rows
all_below range [] last rising e low = refl
all_below range (r ∷ []) last rising e low =
    let here : is_below range r.stamp ≡ true = below_before range r.stamp last (up_to_last r [] last rising e) low in
    rw here refl
all_below range (r ∷ s ∷ rows) last rising e low =
    let here : is_below range r.stamp ≡ true = below_before range r.stamp last (up_to_last r (s ∷ rows) last rising e) low in
    let rest = all_below range (s ∷ rows) last rising.1 e low in
    rw here (ap (λ rs. r ∷ rs) rest)

not_true : (b : Bool) → (b ≡ true → ⊥) → b ≡ false
not_true true none = absurd (none refl)
not_true false none = refl

-- behind a row that does not lie below the range none does
none_below_from : (range : Range) (t : ℤ) (rows : List Row) → NeverFall (t ∷ stamps_of rows) → is_below range t ≡ false → rows_below range rows ≡ []
none_below_from range t [] rising e = refl
none_below_from range t (r ∷ rows) rising e =
    let here : is_below range r.stamp ≡ false = not_true (is_below range r.stamp) (λ low. true≢false (sym (below_before range t r.stamp rising.0 low) ∙ e)) in
    rw here (none_below_from range r.stamp rows (tail rows rising.1) here)
  where
    tail : (rows : List Row) → NeverFall (r.stamp ∷ stamps_of rows) → NeverFall (r.stamp ∷ stamps_of rows)
    tail rows rising = rising

pub none_below : (range : Range) (rows : List Row) (first : ℤ) → NeverFall (stamps_of rows) → first_stamp rows ≡ Some first → is_below range first ≡ false → rows_below range rows ≡ []
none_below range [] first rising e high = refl
none_below range (r ∷ rows) first rising e high =
    let same : r.stamp ≡ first = cc in
    let here : is_below range r.stamp ≡ false = ap (is_below range) same ∙ high in
    rw here (none_below_from range r.stamp rows rising here)

-- rows of which the first lies above the range all do
all_above_from : (range : Range) (t : ℤ) (rows : List Row) → NeverFall (t ∷ stamps_of rows) → is_above range t ≡ true → rows_above range rows ≡ rows
all_above_from range t [] rising e = refl
all_above_from range t (r ∷ rows) rising e =
    let here : is_above range r.stamp ≡ true = above_behind range t r.stamp rising.0 e in
    rw here (ap (λ rs. r ∷ rs) (all_above_from range r.stamp rows rising.1 here))

pub all_above : (range : Range) (rows : List Row) (first : ℤ) → NeverFall (stamps_of rows) → first_stamp rows ≡ Some first → is_above range first ≡ true → rows_above range rows ≡ rows
all_above range [] first rising e high = refl
all_above range (r ∷ rows) first rising e high =
    let same : r.stamp ≡ first = cc in
    let here : is_above range r.stamp ≡ true = ap (is_above range) same ∙ high in
    rw here (ap (λ rs. r ∷ rs) (all_above_from range r.stamp rows rising here))

-- rows of which the last does not lie above the range: none does
pub none_above : (range : Range) (rows : List Row) (last : ℤ) → NeverFall (stamps_of rows) → last_stamp rows ≡ Some last → is_above range last ≡ false → rows_above range rows ≡ []
none_above range [] last rising e low = refl
none_above range (r ∷ []) last rising e low =
    let here : is_above range r.stamp ≡ false = not_true (is_above range r.stamp) (λ high. true≢false (sym (above_behind range r.stamp last (up_to_last r [] last rising e) high) ∙ low)) in
    rw here refl
none_above range (r ∷ s ∷ rows) last rising e low =
    let here : is_above range r.stamp ≡ false = not_true (is_above range r.stamp) (λ high. true≢false (sym (above_behind range r.stamp last (up_to_last r (s ∷ rows) last rising e) high) ∙ low)) in
    rw here (none_above range (s ∷ rows) last rising.1 e low)

-- ---- slots

module _ (frame : Frame) (rising : NeverFall (stamps_of frame.rows)) (range : Range) where
  at_slot : (s : Slot) → (P : List Row → Type 0) → P [] → P (slice_range frame.rows s.part.first_row (s.part.first_row + s.part.rows)) → P (rows_at frame s)
  at_slot s P none some = by (nat_eq s.part.first_col 0)
    where
      by : (b : Bool) → P (cond b (slice_range frame.rows s.part.first_row (s.part.first_row + s.part.rows)) [])
      by true = some
      by false = none

  slice_rises : (s : Slot) → NeverFall (stamps_of (slice_range frame.rows s.part.first_row (s.part.first_row + s.part.rows)))
  slice_rises s = rising-slice frame.rows s.part.first_row (s.part.first_row + s.part.rows) rising

  -- slots that end below the range have only rows below it
  pub slots_below : (slots : List Slot) → AllByRecursion (HasSlotStamps frame) slots → AllByRecursion (λ (s : Slot). is_below range s.last ≡ true) slots → rows_below range (rows_of_slots frame slots) ≡ rows_of_slots frame slots
  slots_below [] stamps low = refl
  slots_below (s ∷ more) stamps low =
      filter-append (λ (r : Row). is_below range r.stamp) (rows_at frame s) (rows_of_slots frame more)
      ∙ (ap (λ rs. rs ++ rows_below range (rows_of_slots frame more)) (at_slot s (λ rs. rows_below range rs ≡ rs) refl (all_below range _ s.last (slice_rises s) stamps.0.last low.0))
      ∙ ap (λ rs. rows_at frame s ++ rs) (slots_below more stamps.1 low.1))

  -- slots that begin not below the range have no rows below it
  pub slots_not_below : (slots : List Slot) → AllByRecursion (HasSlotStamps frame) slots → AllByRecursion (λ (s : Slot). is_below range s.first ≡ false) slots → rows_below range (rows_of_slots frame slots) ≡ []
  slots_not_below [] stamps high = refl
  slots_not_below (s ∷ more) stamps high =
      filter-append (λ (r : Row). is_below range r.stamp) (rows_at frame s) (rows_of_slots frame more)
      ∙ (ap (λ rs. rs ++ rows_below range (rows_of_slots frame more)) (at_slot s (λ rs. rows_below range rs ≡ []) refl (none_below range _ s.first (slice_rises s) stamps.0.first high.0))
      ∙ slots_not_below more stamps.1 high.1)

  -- slots that begin above the range have only rows above it
  pub slots_above : (slots : List Slot) → AllByRecursion (HasSlotStamps frame) slots → AllByRecursion (λ (s : Slot). is_above range s.first ≡ true) slots → rows_above range (rows_of_slots frame slots) ≡ rows_of_slots frame slots
  slots_above [] stamps high = refl
  slots_above (s ∷ more) stamps high =
      filter-append (λ (r : Row). is_above range r.stamp) (rows_at frame s) (rows_of_slots frame more)
      ∙ (ap (λ rs. rs ++ rows_above range (rows_of_slots frame more)) (at_slot s (λ rs. rows_above range rs ≡ rs) refl (all_above range _ s.first (slice_rises s) stamps.0.first high.0))
      ∙ ap (λ rs. rows_at frame s ++ rs) (slots_above more stamps.1 high.1))

  -- slots that end not above the range have no rows above it
  pub slots_not_above : (slots : List Slot) → AllByRecursion (HasSlotStamps frame) slots → AllByRecursion (λ (s : Slot). is_above range s.last ≡ false) slots → rows_above range (rows_of_slots frame slots) ≡ []
  slots_not_above [] stamps low = refl
  slots_not_above (s ∷ more) stamps low =
      filter-append (λ (r : Row). is_above range r.stamp) (rows_at frame s) (rows_of_slots frame more)
      ∙ (ap (λ rs. rs ++ rows_above range (rows_of_slots frame more)) (at_slot s (λ rs. rows_above range rs ≡ []) refl (none_above range _ s.last (slice_rises s) stamps.0.last low.0))
      ∙ slots_not_above more stamps.1 low.1)

  -- ---- how the tests divide the slots of an index

  rises_last : (columns : ℕ) (s t : Slot) → IsSlot columns t → Follows columns s t → s.last ≤ℤ t.last
  rises_last columns s t is (inl same) = subst (λ x. s.last ≤ℤ x) (sym same.last) (le_refl s.last)
  rises_last columns s t is (inr block) = le_trans s.last t.first t.last block.first is.ordered

  rises_first : (columns : ℕ) (s t : Slot) → IsSlot columns s → Follows columns s t → s.first ≤ℤ t.first
  rises_first columns s t is (inl same) = subst (λ x. s.first ≤ℤ x) (sym same.first) (le_refl s.first)
  rises_first columns s t is (inr block) = le_trans s.first s.last t.first is.ordered block.first

  -- a test of slots that is passed by a slot before one that passes
  module _ (rows columns : ℕ) (p : Slot → Bool) (earlier : (s t : Slot) → IsSlot columns s → IsSlot columns t → Follows columns s t → p t ≡ true → p s ≡ true) where
    falls_from : (s : Slot) (more : List Slot) → AllByRecursion (IsSlot columns) (s ∷ more) → LeadOn rows columns s more → FallsOff p (s ∷ more)
    falls_from s [] each lead = tt
    falls_from s (t ∷ more) each lead = (earlier s t each.0 each.1.0 lead.0, falls_from t more each.1 lead.1)

    pub falls : (slots : List Slot) → AllByRecursion (IsSlot columns) slots → Cover rows columns slots → FallsOff p slots
    falls [] each cover = tt
    falls (s ∷ more) each cover = falls_from s more each cover.2

  flip : (a b : Bool) → (a ≡ true → b ≡ true) → not b ≡ true → not a ≡ true
  flip true true f e = absurd (true≢false (sym e))
  flip true false f e = absurd (true≢false (sym (f refl)))
  flip false b f e = refl

  pub falls_below-last : (rows columns : ℕ) (slots : List Slot) → AllByRecursion (IsSlot columns) slots → Cover rows columns slots → FallsOff (λ (s : Slot). is_below range s.last) slots
  falls_below-last rows columns slots = falls rows columns (λ (s : Slot). is_below range s.last) (λ s t is is' follows e. below_before range s.last t.last (rises_last columns s t is' follows) e) slots

  pub falls_below-first : (rows columns : ℕ) (slots : List Slot) → AllByRecursion (IsSlot columns) slots → Cover rows columns slots → FallsOff (λ (s : Slot). is_below range s.first) slots
  falls_below-first rows columns slots = falls rows columns (λ (s : Slot). is_below range s.first) (λ s t is is' follows e. below_before range s.first t.first (rises_first columns s t is follows) e) slots

  pub falls_by-last : (rows columns : ℕ) (slots : List Slot) → AllByRecursion (IsSlot columns) slots → Cover rows columns slots → FallsOff (λ (s : Slot). not (is_above range s.last)) slots
  falls_by-last rows columns slots = falls rows columns (λ (s : Slot). not (is_above range s.last)) (λ s t is is' follows e. flip (is_above range s.last) (is_above range t.last) (above_behind range s.last t.last (rises_last columns s t is' follows)) e) slots

  pub falls_by-first : (rows columns : ℕ) (slots : List Slot) → AllByRecursion (IsSlot columns) slots → Cover rows columns slots → FallsOff (λ (s : Slot). not (is_above range s.first)) slots
  falls_by-first rows columns slots = falls rows columns (λ (s : Slot). not (is_above range s.first)) (λ s t is is' follows e. flip (is_above range s.first) (is_above range t.first) (above_behind range s.first t.first (rises_first columns s t is follows)) e) slots
