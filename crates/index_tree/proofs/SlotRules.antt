-- The rules by which slots are read are those of the format.
use Rattle.std.proofs.Common.{◌≡◌, ℕ, ◌+◌, ◌^◌, ◌<◌, ◌≤◌, ℤ, ◌≤ℤ◌, Bool, true, false, not, ◌&&◌, ◌||◌, List, [], ◌∷◌, refl, sym, ap, subst, arith, w64, inl, inr}
use Rattle.std.specs.Prelude.{nat_le, nat_eq, int_le, FitsSigned, if◌then◌else◌}
use Rattle.std.specs.List.{AllByRecursion}
use Rattle.std.specs.Ordering.{int_eq}
use Rattle.std.proofs.lemmas.Int.{ints}
use Rattle.std.proofs.lemmas.Bool.{leb-true, le-leb, eqb-true, eq-eqb, and_parts, and_from}
use Rattle.std.proofs.lemmas.Bool.Decides.{Decides-int_eq}
use Rattle.index_tree.specs.declared.index.Slot.{Slot}
use Rattle.index_tree.specs.IndexText.{Reach, GoesOn, no_reach, rules_after, reach_of}
use Rattle.index_tree.specs.IndexRules.{FitsSlot, IsSlot, SameBlock, Follows, LeadOn, Cover}
use Rattle.index_tree.proofs.SlotLaws.{takes_cols, Allowed}

-- each slot keeps the rules that follow from those before it, and the last leaves nothing to cover
abbrev pub AllowedFrom : ℕ → ℕ → Reach → List Slot → Type 0
AllowedFrom total columns reach [] = (not reach.is_open && nat_eq (reach.first_row + reach.rows) total) ≡ true
AllowedFrom total columns reach (s ∷ slots) = Allowed columns (rules_after total reach) s × AllowedFrom total columns (reach_of columns s) slots

-- ---- tests

le_is : (a b : ℤ) → int_le a b ≡ true → a ≤ℤ b
le_is a b e = grind (arith, ints)

is_le : (a b : ℤ) → a ≤ℤ b → int_le a b ≡ true
is_le a b le = grind (arith, ints)

not_same : (a b : ℕ) → a < b → nat_eq a b ≡ false
not_same a b lt = elim (nat_eq a b) as (λ e. nat_eq a b ≡ e → e ≡ false) [ true ↦ λ e. absurd (omega (arith, eqb-true a b e)) | false ↦ λ e. refl ] refl

differ : (a b : ℕ) → a ≤ b → nat_eq a b ≡ false → a < b
differ a b le e = elim (nat_eq a b) as (λ x. nat_eq a b ≡ x → x ≡ false → a < b) [ true ↦ λ t f. absurd cc | false ↦ λ t f. above t ] refl e
  where
    above : nat_eq a b ≡ false → a < b
    above f = grind arith

not_zero : (n : ℕ) → 1 ≤ n → nat_eq n 0 ≡ false
not_zero n le = elim (nat_eq n 0) as (λ e. nat_eq n 0 ≡ e → e ≡ false) [ true ↦ λ e. absurd (omega (arith, eqb-true n 0 e)) | false ↦ λ e. refl ] refl

-- the columns of a slice
record ColsKept (columns first_col cols : ℕ) : Type 0 where
  some_cols : 1 ≤ columns → 1 ≤ cols
  most_cols : cols ≤ 127
  within : first_col + cols ≤ columns

cols_kept : (columns first_col cols : ℕ) → first_col ≤ columns → takes_cols columns first_col cols ≡ true → ColsKept columns first_col cols
cols_kept columns first_col cols le e =
    elim (nat_eq columns 0) as (λ b. nat_eq columns 0 ≡ b → (if b then nat_eq cols 0 else nat_le 1 cols && nat_le cols 127 && nat_le (first_col + cols) columns) ≡ true → ColsKept columns first_col cols) [
      | true ↦ λ none z. let no_columns = eqb-true columns 0 none in
          let no_cols = eqb-true cols 0 z in
          record { some_cols = λ some. absurd (omega arith); most_cols = omega arith; within = omega arith }
      | false ↦ λ some z. let p = and_parts (nat_le 1 cols && nat_le cols 127) (nat_le (first_col + cols) columns) z in
          let q = and_parts (nat_le 1 cols) (nat_le cols 127) p.0 in
          record { some_cols = λ l. leb-true 1 cols q.0; most_cols = leb-true cols 127 q.1; within = leb-true (first_col + cols) columns p.1 }
    ] refl e

cols_taken : (columns first_col cols : ℕ) → ColsKept columns first_col cols → takes_cols columns first_col cols ≡ true
cols_taken columns first_col cols kept =
    elim (nat_eq columns 0) as (λ b. nat_eq columns 0 ≡ b → (if b then nat_eq cols 0 else nat_le 1 cols && nat_le cols 127 && nat_le (first_col + cols) columns) ≡ true) [
      | true ↦ λ none. let no_columns = eqb-true columns 0 none in
          let no_cols : cols ≡ 0 = omega (arith, kept.within) in
          eq-eqb cols 0 no_cols
      | false ↦ λ some. let positive : 1 ≤ columns = positive_from some in
          and_from (nat_le 1 cols && nat_le cols 127) (nat_le (first_col + cols) columns) (and_from (nat_le 1 cols) (nat_le cols 127) (le-leb 1 cols (kept.some_cols positive)) (le-leb cols 127 kept.most_cols)) (le-leb (first_col + cols) columns kept.within)
    ] refl
  where
    positive_from : nat_eq columns 0 ≡ false → 1 ≤ columns
    positive_from f = grind arith

-- ---- within a row block, and at the start of one

abbrev same_block : Reach → GoesOn
same_block r = record {
  first_row = λ n. nat_eq n r.first_row;
  rows = λ n. nat_eq n r.rows;
  first = λ t. int_eq t r.first;
  last = λ s t. int_eq t r.last;
  first_col = λ n. nat_eq n r.columns;
}

abbrev next_block : ℕ → Reach → GoesOn
next_block total r = record {
  first_row = λ n. nat_eq n (r.first_row + r.rows);
  rows = λ n. nat_le 1 n && nat_le n 100000 && nat_le (r.first_row + r.rows + n) total;
  first = λ t. nat_eq r.rows 0 || int_le r.last t;
  last = int_le;
  first_col = λ n. nat_eq n 0;
}

rules_by : (total : ℕ) (r : Reach) (b : Bool) → r.is_open ≡ b → rules_after total r ≡ (if b then same_block r else next_block total r)
rules_by total r b e = ap (λ (x : Bool). if x then same_block r else next_block total r) e

-- ---- what is read keeps the rules of the format

abbrev KeptFirst : ℕ → Slot → Type 0
KeptFirst columns s = IsSlot columns s × (s.part.first_row ≡ 0) × (s.part.first_col ≡ 0)

-- a slot at the start of a row block
record KeptStart (columns row : ℕ) (s : Slot) : Type 0 where
  slot : IsSlot columns s
  first_row : s.part.first_row ≡ row
  first_col : s.part.first_col ≡ 0

start_kept : (total columns : ℕ) (r : Reach) (s : Slot) → FitsSlot s → Allowed columns (next_block total r) s → KeptStart columns (r.first_row + r.rows) s
start_kept total columns r s fits a =
    let first_col : s.part.first_col ≡ 0 = eqb-true s.part.first_col 0 a.first_col in
    let rows = and_parts (nat_le 1 s.part.rows && nat_le s.part.rows 100000) (nat_le (r.first_row + r.rows + s.part.rows) total) a.rows in
    let limits = and_parts (nat_le 1 s.part.rows) (nat_le s.part.rows 100000) rows.0 in
    let first = and_parts (nat_eq r.rows 0 || int_le r.last s.first) (int_eq s.key.first s.first) a.first in
    let last = and_parts (int_le s.first s.last) (int_eq s.key.last s.last) a.last in
    let cols = cols_kept columns s.part.first_col s.part.cols (omega arith) a.cols in
    record {
      slot = record {
        is_tile = a.is_tile;
        key = fits.key;
        fields = fits.fields;
        first = (Decides-int_eq s.key.first s.first).0 first.1;
        last = (Decides-int_eq s.key.last s.last).0 last.1;
        ordered = le_is s.first s.last last.0;
        some_rows = leb-true 1 s.part.rows limits.0;
        most_rows = leb-true s.part.rows 100000 limits.1;
        some_cols = cols.some_cols;
        most_cols = cols.most_cols;
        within = cols.within;
      };
      first_row = eqb-true s.part.first_row (r.first_row + r.rows) a.first_row;
      first_col = first_col;
    }

-- the next slot
record KeptNext (columns : ℕ) (before s : Slot) : Type 0 where
  slot : IsSlot columns s
  follows : Follows columns before s

same_kept : (columns : ℕ) (before s : Slot) → IsSlot columns before → nat_eq (before.part.first_col + before.part.cols) columns ≡ false → FitsSlot s → Allowed columns (same_block (reach_of columns before)) s → KeptNext columns before s
same_kept columns before s is left fits a =
    let first_col : s.part.first_col ≡ before.part.first_col + before.part.cols = eqb-true s.part.first_col (before.part.first_col + before.part.cols) a.first_col in
    let rows : s.part.rows ≡ before.part.rows = eqb-true s.part.rows before.part.rows a.rows in
    let first = and_parts (int_eq s.first before.first) (int_eq s.key.first s.first) a.first in
    let last = and_parts (int_eq s.last before.last) (int_eq s.key.last s.last) a.last in
    let first_is : s.first ≡ before.first = (Decides-int_eq s.first before.first).0 first.0 in
    let last_is : s.last ≡ before.last = (Decides-int_eq s.last before.last).0 last.0 in
    let cols = cols_kept columns s.part.first_col s.part.cols (omega (arith, is.within)) a.cols in
    record {
      slot = record {
        is_tile = a.is_tile;
        key = fits.key;
        fields = fits.fields;
        first = (Decides-int_eq s.key.first s.first).0 first.1;
        last = (Decides-int_eq s.key.last s.last).0 last.1;
        ordered = subst (λ (t : ℤ). s.first ≤ℤ t) (sym last_is) (subst (λ (t : ℤ). t ≤ℤ before.last) (sym first_is) is.ordered);
        some_rows = omega (arith, is.some_rows);
        most_rows = omega (arith, is.most_rows);
        some_cols = cols.some_cols;
        most_cols = cols.most_cols;
        within = cols.within;
      };
      follows = inl (record {
        left = differ (before.part.first_col + before.part.cols) columns is.within left;
        first_row = eqb-true s.part.first_row before.part.first_row a.first_row;
        rows = rows;
        first = first_is;
        last = last_is;
        first_col = first_col;
      });
    }

next_kept : (total columns : ℕ) (before s : Slot) → IsSlot columns before → nat_eq (before.part.first_col + before.part.cols) columns ≡ true → FitsSlot s → Allowed columns (next_block total (reach_of columns before)) s → KeptNext columns before s
next_kept total columns before s is whole fits a =
    let start = start_kept total columns (reach_of columns before) s fits a in
    let first = and_parts (nat_eq before.part.rows 0 || int_le before.last s.first) (int_eq s.key.first s.first) a.first in
    let some : nat_eq before.part.rows 0 ≡ false = not_zero before.part.rows is.some_rows in
    let above : int_le before.last s.first ≡ true = subst (λ (b : Bool). (b || int_le before.last s.first) ≡ true) some first.0 in
    record {
      slot = start.slot;
      follows = inr (record {
        whole = eqb-true (before.part.first_col + before.part.cols) columns whole;
        first_row = start.first_row;
        first = le_is before.last s.first above;
        first_col = start.first_col;
      });
    }

slot_kept : (total columns : ℕ) (before s : Slot) → IsSlot columns before → FitsSlot s → Allowed columns (rules_after total (reach_of columns before)) s → KeptNext columns before s
slot_kept total columns before s is fits a =
    elim (nat_eq (before.part.first_col + before.part.cols) columns) as (λ b. nat_eq (before.part.first_col + before.part.cols) columns ≡ b → KeptNext columns before s) [
      | true ↦ λ whole. next_kept total columns before s is whole fits (subst (λ (rule : GoesOn). Allowed columns rule s) (rules_by total (reach_of columns before) false (ap not whole)) a)
      | false ↦ λ left. same_kept columns before s is left fits (subst (λ (rule : GoesOn). Allowed columns rule s) (rules_by total (reach_of columns before) true (ap not left)) a)
    ] refl

-- nothing is left to cover
end_kept : (total columns : ℕ) (s : Slot) → (not (not (nat_eq (s.part.first_col + s.part.cols) columns)) && nat_eq (s.part.first_row + s.part.rows) total) ≡ true → LeadOn total columns s []
end_kept total columns s e =
    let p = and_parts (not (not (nat_eq (s.part.first_col + s.part.cols) columns))) (nat_eq (s.part.first_row + s.part.rows) total) e in
    (eqb-true _ _ p.1, eqb-true _ _ (twice (nat_eq (s.part.first_col + s.part.cols) columns) p.0))
  where
    twice : (b : Bool) → not (not b) ≡ true → b ≡ true
    twice true e = refl
    twice false e = e

-- slots that keep the rules, from one on
pub record KeptFrom (total columns : ℕ) (s : Slot) (slots : List Slot) : Type 0 where
  pub each : AllByRecursion (IsSlot columns) slots
  pub lead : LeadOn total columns s slots

kept_from : (total columns : ℕ) (s : Slot) (slots : List Slot) → IsSlot columns s → AllByRecursion FitsSlot slots → AllowedFrom total columns (reach_of columns s) slots → KeptFrom total columns s slots
kept_from total columns s [] is fits allowed = record { each = tt; lead = end_kept total columns s allowed }
kept_from total columns s (next ∷ slots) is fits allowed =
    let one = slot_kept total columns s next is fits.0 allowed.0 in
    let more = kept_from total columns next slots one.slot fits.1 allowed.1 in
    record { each = (one.slot, more.each); lead = (one.follows, more.lead) }

-- all slots keep the rules
pub record KeptAll (total columns : ℕ) (slots : List Slot) : Type 0 where
  pub each : AllByRecursion (IsSlot columns) slots
  pub cover : Cover total columns slots

pub kept_all : (total columns : ℕ) (slots : List Slot) → AllByRecursion FitsSlot slots → AllowedFrom total columns no_reach slots → KeptAll total columns slots
kept_all total columns [] fits allowed = record { each = tt; cover = sym (eqb-true 0 total allowed) }
kept_all total columns (s ∷ slots) fits allowed =
    let one = start_kept total columns no_reach s fits.0 allowed.0 in
    let more = kept_from total columns s slots one.slot fits.1 allowed.1 in
    record { each = (one.slot, more.each); cover = (one.first_row, one.first_col, more.lead) }

-- ---- what keeps the rules of the format can be read

-- no slot reaches beyond the last row
lead_rows : (total columns : ℕ) (s : Slot) (slots : List Slot) → LeadOn total columns s slots → s.part.first_row + s.part.rows ≤ total
lead_rows total columns s [] lead = omega (arith, lead.0)
lead_rows total columns s (next ∷ slots) lead =
    let more = lead_rows total columns next slots lead.1 in
    elim lead.0 [
      | inl same ↦ omega (arith, more, same.first_row, same.rows)
      | inr next_one ↦ omega (arith, more, next_one.first_row)
    ]

start_allowed : (total columns : ℕ) (r : Reach) (s : Slot) → IsSlot columns s → s.part.first_row ≡ r.first_row + r.rows → (nat_eq r.rows 0 || int_le r.last s.first) ≡ true → s.part.first_col ≡ 0 → s.part.first_row + s.part.rows ≤ total → Allowed columns (next_block total r) s
start_allowed total columns r s is first_row above first_col within = record {
  is_tile = is.is_tile;
  first_row = eq-eqb s.part.first_row (r.first_row + r.rows) first_row;
  rows = and_from (nat_le 1 s.part.rows && nat_le s.part.rows 100000) (nat_le (r.first_row + r.rows + s.part.rows) total)
      (and_from (nat_le 1 s.part.rows) (nat_le s.part.rows 100000) (le-leb 1 s.part.rows is.some_rows) (le-leb s.part.rows 100000 is.most_rows))
      (le-leb (r.first_row + r.rows + s.part.rows) total (omega (arith, within, first_row)));
  first = and_from (nat_eq r.rows 0 || int_le r.last s.first) (int_eq s.key.first s.first) above ((Decides-int_eq s.key.first s.first).1 is.first);
  last = and_from (int_le s.first s.last) (int_eq s.key.last s.last) (is_le s.first s.last is.ordered) ((Decides-int_eq s.key.last s.last).1 is.last);
  first_col = eq-eqb s.part.first_col 0 first_col;
  cols = cols_taken columns s.part.first_col s.part.cols (record { some_cols = is.some_cols; most_cols = is.most_cols; within = is.within });
}

same_allowed : (columns : ℕ) (before s : Slot) → IsSlot columns s → SameBlock columns before s → Allowed columns (same_block (reach_of columns before)) s
same_allowed columns before s is same = record {
  is_tile = is.is_tile;
  first_row = eq-eqb s.part.first_row before.part.first_row same.first_row;
  rows = eq-eqb s.part.rows before.part.rows same.rows;
  first = and_from (int_eq s.first before.first) (int_eq s.key.first s.first) ((Decides-int_eq s.first before.first).1 same.first) ((Decides-int_eq s.key.first s.first).1 is.first);
  last = and_from (int_eq s.last before.last) (int_eq s.key.last s.last) ((Decides-int_eq s.last before.last).1 same.last) ((Decides-int_eq s.key.last s.last).1 is.last);
  first_col = eq-eqb s.part.first_col (before.part.first_col + before.part.cols) same.first_col;
  cols = cols_taken columns s.part.first_col s.part.cols (record { some_cols = is.some_cols; most_cols = is.most_cols; within = is.within });
}

or_true : (a b : Bool) → b ≡ true → (a || b) ≡ true
or_true true b e = refl
or_true false b e = e

slot_allowed : (total columns : ℕ) (before s : Slot) → IsSlot columns s → Follows columns before s → s.part.first_row + s.part.rows ≤ total → Allowed columns (rules_after total (reach_of columns before)) s
slot_allowed total columns before s is follows within =
    elim follows [
      | inl same ↦ subst (λ (rule : GoesOn). Allowed columns rule s) (sym (rules_by total (reach_of columns before) true (ap not (not_same (before.part.first_col + before.part.cols) columns same.left)))) (same_allowed columns before s is same)
      | inr next ↦ subst (λ (rule : GoesOn). Allowed columns rule s) (sym (rules_by total (reach_of columns before) false (ap not (eq-eqb (before.part.first_col + before.part.cols) columns next.whole))))
          (start_allowed total columns (reach_of columns before) s is next.first_row (or_true (nat_eq before.part.rows 0) (int_le before.last s.first) (is_le before.last s.first next.first)) next.first_col within)
    ]

allowed_from : (total columns : ℕ) (s : Slot) (slots : List Slot) → AllByRecursion (IsSlot columns) slots → LeadOn total columns s slots → AllowedFrom total columns (reach_of columns s) slots
allowed_from total columns s [] each lead =
    and_from (not (not (nat_eq (s.part.first_col + s.part.cols) columns))) (nat_eq (s.part.first_row + s.part.rows) total)
    (ap (λ (b : Bool). not (not b)) (eq-eqb (s.part.first_col + s.part.cols) columns lead.1)) (eq-eqb (s.part.first_row + s.part.rows) total lead.0)
allowed_from total columns s (next ∷ slots) each lead =
    (slot_allowed total columns s next each.0 lead.0 (lead_rows total columns next slots lead.1), allowed_from total columns next slots each.1 lead.1)

pub allowed_all : (total columns : ℕ) (slots : List Slot) → AllByRecursion (IsSlot columns) slots → Cover total columns slots → AllowedFrom total columns no_reach slots
allowed_all total columns [] each cover = eq-eqb 0 total (sym cover)
allowed_all total columns (s ∷ slots) each cover =
    (start_allowed total columns no_reach s each.0 cover.0 refl cover.1 (lead_rows total columns s slots cover.2), allowed_from total columns s slots each.1 cover.2)

-- the numbers of a slot fit their fields
fits_slot : (total columns : ℕ) (s : Slot) → total < 2 ^ 32 → columns < 2 ^ 16 → IsSlot columns s → s.part.first_row + s.part.rows ≤ total → FitsSlot s
fits_slot total columns s few_rows few_columns is within = record {
  key = is.key;
  fields = is.fields;
  first_row = omega (arith, within, few_rows);
  rows = omega (arith, within, few_rows);
  first = subst (λ (t : ℤ). FitsSigned w64 t) is.first is.fields.first;
  last = subst (λ (t : ℤ). FitsSigned w64 t) is.last is.fields.last;
  first_col = omega (arith, is.within, few_columns);
  cols = omega (arith, is.within, few_columns);
}

fits_from : (total columns : ℕ) (s : Slot) (slots : List Slot) → total < 2 ^ 32 → columns < 2 ^ 16 → AllByRecursion (IsSlot columns) slots → LeadOn total columns s slots → AllByRecursion FitsSlot slots
fits_from total columns s [] few_rows few_columns each lead = tt
fits_from total columns s (next ∷ slots) few_rows few_columns each lead =
    (fits_slot total columns next few_rows few_columns each.0 (lead_rows total columns next slots lead.1), fits_from total columns next slots few_rows few_columns each.1 lead.1)

pub fits_all : (total columns : ℕ) (slots : List Slot) → total < 2 ^ 32 → columns < 2 ^ 16 → AllByRecursion (IsSlot columns) slots → Cover total columns slots → AllByRecursion FitsSlot slots
fits_all total columns [] few_rows few_columns each cover = tt
fits_all total columns (s ∷ slots) few_rows few_columns each cover =
    (fits_slot total columns s few_rows few_columns each.0 (lead_rows total columns s slots cover.2), fits_from total columns s slots few_rows few_columns each.1 cover.2)
