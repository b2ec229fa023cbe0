-- Which indexes have a spelling: those whose slots cover the frame, in order.
--     FitsSlot            a slot whose numbers fit their fields
--     IsSlot              what each slot keeps by itself
--     SameBlock, NextBlock, Follows      how a slot follows the one before it
--     LeadOn, Cover       the slots from one on, and all of them, up to the last row and column
--     IsIndex             the rules of an index
use Rattle.std.specs.Prelude.{◌≡◌, ◌<◌, ◌≤◌, ◌+◌, ◌^◌, ℕ, ◌≤ℤ◌, true, List, [], ◌∷◌, length, ◌⊎◌, FitsSigned}
use Rattle.std.specs.Int.{w64}
use Rattle.std.specs.List.{AllByRecursion}
use Rattle.frame_core.specs.Schemas.{AreColumns}
use Rattle.key_kind.specs.declared.key.KeyKind.TheVariants as kinds
use Rattle.key_kind.specs.Keys.{IsKey, FitsFields}
use Rattle.index_tree.specs.declared.index.Slot.{Slot}
use Rattle.index_tree.specs.declared.index.Index.{Index}

-- a key that keeps its rules, and numbers that fit their fields
pub record FitsSlot (s : Slot) : Type 0 where
  pub key : IsKey s.key
  pub fields : FitsFields s.key
  pub first_row : s.part.first_row < 2 ^ 32
  pub rows : s.part.rows < 2 ^ 32
  pub first : FitsSigned w64 s.first
  pub last : FitsSigned w64 s.last
  pub first_col : s.part.first_col < 2 ^ 16
  pub cols : s.part.cols < 2 ^ 16

-- the key of a tile with the slot's stamps, which do not fall; 1 to 100,000 rows; 1 to 127 of so many columns, or none
-- where there is none
pub record IsSlot (columns : ℕ) (s : Slot) : Type 0 where
  pub is_tile : s.key.kind ≡ kinds.TableData
  pub key : IsKey s.key
  pub fields : FitsFields s.key
  pub first : s.key.first ≡ s.first
  pub last : s.key.last ≡ s.last
  pub ordered : s.first ≤ℤ s.last
  pub some_rows : 1 ≤ s.part.rows
  pub most_rows : s.part.rows ≤ 100000
  pub some_cols : 1 ≤ columns → 1 ≤ s.part.cols
  pub most_cols : s.part.cols ≤ 127
  pub within : s.part.first_col + s.part.cols ≤ columns

-- columns of the row block are left: the next slot has the next of them, and the same rows and stamps
pub record SameBlock (columns : ℕ) (before next : Slot) : Type 0 where
  pub left : before.part.first_col + before.part.cols < columns
  pub first_row : next.part.first_row ≡ before.part.first_row
  pub rows : next.part.rows ≡ before.part.rows
  pub first : next.first ≡ before.first
  pub last : next.last ≡ before.last
  pub first_col : next.part.first_col ≡ before.part.first_col + before.part.cols

-- the row block is whole: the next slot begins the next one at column 0, and its stamps are not below
pub record NextBlock (columns : ℕ) (before next : Slot) : Type 0 where
  pub whole : before.part.first_col + before.part.cols ≡ columns
  pub first_row : next.part.first_row ≡ before.part.first_row + before.part.rows
  pub first : before.last ≤ℤ next.first
  pub first_col : next.part.first_col ≡ 0

-- the slot goes on with the row block of the one before, or begins the next block
abbrev pub Follows : ℕ → Slot → Slot → Type 0
Follows columns before next = SameBlock columns before next ⊎ NextBlock columns before next

-- each slot follows the one before it, and the last reaches the last row and the last column
abbrev pub LeadOn : ℕ → ℕ → Slot → List Slot → Type 0
LeadOn rows columns s [] = (s.part.first_row + s.part.rows ≡ rows) × (s.part.first_col + s.part.cols ≡ columns)
LeadOn rows columns s (next ∷ more) = Follows columns s next × LeadOn rows columns next more

-- the slots lead from row 0 and column 0 on to the last row and column; there is none where there are no rows
abbrev pub Cover : ℕ → ℕ → List Slot → Type 0
Cover rows columns [] = rows ≡ 0
Cover rows columns (s ∷ more) = (s.part.first_row ≡ 0) × (s.part.first_col ≡ 0) × LeadOn rows columns s more

-- a timed schema, numbers that fit their fields, and slots that cover the rows and columns in order
pub record IsIndex (i : Index) : Type 0 where
  pub timed : i.schema.timed ≡ true
  pub columns : AreColumns i.schema.columns
  pub few_columns : length i.schema.columns < 2 ^ 16
  pub few_rows : i.rows < 2 ^ 32
  pub few_slots : length i.slots < 2 ^ 32
  pub each : AllByRecursion (IsSlot (length i.schema.columns)) i.slots
  pub cover : Cover i.rows (length i.schema.columns) i.slots
