-- A slot is read in parts: behind its key come its rows, its stamps and its columns.
use Rattle.std.proofs.Common.{◌≡◌, ℕ, ◌+◌, ℤ, Bool, true, false, ◌&&◌, List, Result, Ok, Err, refl, sym, ◌∙◌}
use Rattle.std.specs.Prelude.{nat_le, nat_eq, if◌then◌else◌}
use Rattle.std.specs.Int.{w16, w32}
use Rattle.std.specs.Ordering.{int_eq}
use Rattle.byte_fields.specs.Reading.{Reading, ◌>>=◌, wanted, number_at, signed_at}
use Rattle.key_kind.specs.declared.key.KeyKind.TheVariants as kinds
use Rattle.key_kind.specs.declared.key.Key.{Key}
use Rattle.key_kind.specs.KeyText.{key_of_at}
use Rattle.index_tree.specs.declared.index.Slot.{Slot}
use Rattle.index_tree.specs.IndexText.{Reach, GoesOn, rules_after, slot_at}
use Rattle.index_tree.specs.SlotParts.{rows_at, stamps_at, slice_at}

-- two fields, each with its rule, which may look at both
abbrev two_fields : {A B : Type 0} → Reading A → (A → Bool) → List ℕ → (List ℕ → Reading B) → (A → B → Bool) → Reading (A × B)
two_fields first rule field second both =
    first >>= λ a. wanted (rule a.0) field (second a.1) >>= λ b. wanted (both a.0 b.0) a.1 (Ok ((a.0, b.0), b.1))

-- a value after two fields is given where the rules hold
given_after : {A B C : Type 0} (first : Reading A) (rule : A → Bool) (field : List ℕ) (second : List ℕ → Reading B) (both : A → B → Bool) (next : (A × B) × List ℕ → Result C ℕ)
    → (two_fields first rule field second both >>= next)
    ≡ (first >>= λ a. wanted (rule a.0) field (second a.1) >>= λ b. wanted (both a.0 b.0) a.1 (next ((a.0, b.0), b.1)))
given_after (Err left) rule field second both next = refl
given_after {A} {B} {C} (Ok a) rule field second both next = behind (rule a.0) (second a.1)
  where
    last : (holds : Bool) (x : (A × B) × List ℕ) → (wanted holds a.1 (Ok x) >>= next) ≡ wanted holds a.1 (next x)
    last true x = refl
    last false x = refl

    behind : (holds : Bool) (more : Reading B)
        → ((wanted holds field more >>= λ b. wanted (both a.0 b.0) a.1 (Ok ((a.0, b.0), b.1))) >>= next)
        ≡ (wanted holds field more >>= λ b. wanted (both a.0 b.0) a.1 (next ((a.0, b.0), b.1)))
    behind true (Ok b) = last (both a.0 b.0) ((a.0, b.0), b.1)
    behind true (Err left) = refl
    behind false more = refl

-- a rule before two steps is a rule before the first
rule_first : {A B : Type 0} (holds : Bool) (field : List ℕ) (next : Result A ℕ) (more : A → Result B ℕ) → wanted holds field (next >>= more) ≡ (wanted holds field next >>= more)
rule_first true field next more = refl
rule_first false field next more = refl

-- two steps after two fields, of which the first is read where the rules hold
read_after : {A B C D : Type 0} (first : Reading A) (rule : A → Bool) (field : List ℕ) (second : List ℕ → Reading B) (both : A → B → Bool) (next : (A × B) × List ℕ → Result C ℕ) (more : (A × B) × List ℕ → C → Result D ℕ)
    → (two_fields first rule field second both >>= λ x. next x >>= more x)
    ≡ (first >>= λ a. wanted (rule a.0) field (second a.1) >>= λ b. wanted (both a.0 b.0) a.1 (next ((a.0, b.0), b.1)) >>= more ((a.0, b.0), b.1))
read_after first rule field second both next more =
    given_after first rule field second both (λ x. next x >>= more x)
    ∙ (λ i. first >>= λ a. wanted (rule a.0) field (second a.1) >>= λ b. rule_first (both a.0 b.0) a.1 (next ((a.0, b.0), b.1)) (more ((a.0, b.0), b.1)) i)

-- ---- the parts of a slot

-- the slot of these parts
abbrev pub slot_of_parts : Key → ℕ × ℕ → ℤ × ℤ → ℕ × ℕ → Slot
slot_of_parts key rows stamps slice = record {
  key = key;
  part = record { first_row = rows.0; rows = rows.1; first_col = slice.0; cols = slice.1 };
  first = stamps.0;
  last = stamps.1;
}

-- a slot whose slice was read
abbrev pub made_of_parts : Key → ℕ × ℕ → ℤ × ℤ → (ℕ × ℕ) × List ℕ → Reading Slot
made_of_parts key rows stamps slice = Ok (slot_of_parts key rows stamps slice.0, slice.1)

-- the parts of the next slot
abbrev pub slot_in_parts : ℕ → GoesOn → List ℕ → Reading Slot
slot_in_parts columns rule bytes = do
  key ← key_of_at kinds.TableData bytes
  rows ← rows_at rule key.1
  stamps ← stamps_at rule key.0 rows.1
  slice ← slice_at columns rule stamps.1
  made_of_parts key.0 rows.0 stamps.0 slice

-- what follows the first column, field by field
abbrev from_first_col : ℕ → GoesOn → Key → ℕ × ℕ → (ℤ × ℤ) × List ℕ → ℕ × List ℕ → Reading Slot
from_first_col columns rule key rows stamps first_col = do
  cols ← wanted (rule.first_col first_col.0) stamps.1 (number_at w16 first_col.1)
  wanted (if nat_eq columns 0 then nat_eq cols.0 0 else nat_le 1 cols.0 && nat_le cols.0 127 && nat_le (first_col.0 + cols.0) columns) first_col.1 (made_of_parts key rows stamps.0 ((first_col.0, cols.0), cols.1))

-- what follows the first stamp, field by field
abbrev from_first : ℕ → GoesOn → Key → (ℕ × ℕ) × List ℕ → ℤ × List ℕ → Reading Slot
from_first columns rule key rows first = do
  last ← wanted (rule.first first.0 && int_eq key.first first.0) rows.1 (signed_at first.1)
  first_col ← wanted (rule.last first.0 last.0 && int_eq key.last last.0) first.1 (number_at w16 last.1)
  from_first_col columns rule key rows.0 ((first.0, last.0), last.1) first_col

-- its columns
by_slice : (columns : ℕ) (rule : GoesOn) (key : Key) (rows : ℕ × ℕ) (stamps : (ℤ × ℤ) × List ℕ)
    → (slice_at columns rule stamps.1 >>= made_of_parts key rows stamps.0) ≡ (number_at w16 stamps.1 >>= from_first_col columns rule key rows stamps)
by_slice columns rule key rows stamps =
    given_after (number_at w16 stamps.1) rule.first_col stamps.1 (number_at w16)
    (λ first_col cols. if nat_eq columns 0 then nat_eq cols 0 else nat_le 1 cols && nat_le cols 127 && nat_le (first_col + cols) columns)
    (made_of_parts key rows stamps.0)

-- its stamps and its columns
by_stamps : (columns : ℕ) (rule : GoesOn) (key : Key) (rows : (ℕ × ℕ) × List ℕ)
    → (stamps_at rule key rows.1 >>= λ stamps. slice_at columns rule stamps.1 >>= made_of_parts key rows.0 stamps.0) ≡ (signed_at rows.1 >>= from_first columns rule key rows)
by_stamps columns rule key rows =
    (λ i. stamps_at rule key rows.1 >>= λ stamps. by_slice columns rule key rows.0 stamps i)
    ∙ read_after (signed_at rows.1) (λ first. rule.first first && int_eq key.first first) rows.1 signed_at (λ first last. rule.last first last && int_eq key.last last)
    (λ stamps. number_at w16 stamps.1) (from_first_col columns rule key rows.0)

-- the next slot is read in parts
pub slot_by_parts : (total columns : ℕ) (reach : Reach) (bytes : List ℕ) → slot_at total columns reach bytes ≡ slot_in_parts columns (rules_after total reach) bytes
slot_by_parts total columns reach bytes = sym (
    (λ i. key_of_at kinds.TableData bytes >>= λ key. rows_at rule key.1 >>= λ rows. by_stamps columns rule key.0 rows i)
    ∙ (λ i. key_of_at kinds.TableData bytes >>= λ key. read_after (number_at w32 key.1) rule.first_row key.1 (number_at w32) (λ first_row rows. rule.rows rows)
    (λ rows. signed_at rows.1) (from_first columns rule key.0) i)
    )
  where
    rule : GoesOn
    rule = rules_after total reach
