-- Facts that hold where it is only told that they do.
use Rattle.std.proofs.Common.{◌≡◌, ℕ, ◌≤◌, ℤ, ◌≤ℤ◌, Bool, true, List, [], ◌∷◌, Option}
use Rattle.std.specs.Prelude.{IsUtf8, FitsSigned}
use Rattle.std.specs.Int.{w64}
use Rattle.std.specs.Str.{is_utf8}
use Rattle.std.specs.List.{AllByRecursion, AllZip}
use Rattle.std.proofs.lemmas.Str.{IsUtf8-from_is_utf8, is_utf8-from_IsUtf8}
use mathlib.Core.Logic.{∥∥₁_elim, ∥∥₁_map}
use mathlib.Core.HLevel.{⊥_prop}
use denote.Struct.Props.{props}
use Rattle.frame_core.specs.declared.cell.Cell.{Cell}
use Rattle.frame_core.specs.declared.cell.Cell.TheVariants as cells
use Rattle.frame_core.specs.declared.cell.ColType.{ColType}
use Rattle.frame_core.specs.declared.refusal.Extent.{Extent}
use Rattle.frame_core.specs.Schemas.{Head, IsColName, AreColumns}
use Rattle.frame_core.specs.Frames.{Row, Frame, IsCell, IsFrame, FitsColumns, NeverFall, stamps_of, type_of}
use Rattle.frame_core.specs.Limits.{IsStorable}
use Rattle.index_tree.specs.declared.index.Slot.{Slot}
use Rattle.store_model.specs.Commits.{HasSlotStamps}

-- the fact holds where it is told
abbrev pub Told : Type 0 → Type 0
Told P = ∥ P ∥₁ → P

pub told_prop : {P : Type 0} → IsProp P → Told P
told_prop p t = ∥∥₁_elim t p (λ x. x)

pub told_both : {P Q : Type 0} → Told P → Told Q → Told (P × Q)
told_both p q t = (p (∥∥₁_map t (λ x. x.0)), q (∥∥₁_map t (λ x. x.1)))

pub told_all : {X : Type 0} (P : X → Type 0) → ((x : X) → Told (P x)) → (xs : List X) → Told (AllByRecursion P xs)
told_all P each [] t = tt
told_all P each (x ∷ xs) t = (each x (∥∥₁_map t (λ a. a.0)), told_all P each xs (∥∥₁_map t (λ a. a.1)))

pub told_zip : {X Y : Type 0} (R : X → Y → Type 0) → ((x : X) (y : Y) → Told (R x y)) → (xs : List X) (ys : List Y) → Told (AllZip R xs ys)
told_zip R each [] [] t = tt
told_zip R each [] (y ∷ ys) t = absurd (∥∥₁_elim t ⊥_prop (λ x. x))
told_zip R each (x ∷ xs) [] t = absurd (∥∥₁_elim t ⊥_prop (λ x. x))
told_zip R each (x ∷ xs) (y ∷ ys) t = (each x y (∥∥₁_map t (λ a. a.0)), told_zip R each xs ys (∥∥₁_map t (λ a. a.1)))

-- ---- numbers and texts

pub le_told : (a b : ℕ) → Told (a ≤ b)
le_told a b = told_prop (hlevel props)

int_le_told : (a b : ℤ) → Told (a ≤ℤ b)
int_le_told a b = told_prop (hlevel props)

fits_told : (n : ℤ) → Told (FitsSigned w64 n)
fits_told n = told_prop (hlevel props)

truth_told : (a b : Bool) → Told (a ≡ b)
truth_told a b = told_prop (hlevel props)

type_told : (a b : ColType) → Told (a ≡ b)
type_told a b = told_prop (hlevel props)

int_told : (a b : ℤ) → Told (a ≡ b)
int_told a b = told_prop (hlevel props)

stamp_told : (a b : Option ℤ) → Told (a ≡ b)
stamp_told a b = told_prop (hlevel props)

limit_told : (a b : Option (Extent × ℕ)) → Told (a ≡ b)
limit_told a b = told_prop (hlevel props)

utf8_told : (bs : List ℕ) → Told (IsUtf8 bs)
utf8_told bs t = IsUtf8-from_is_utf8 bs (truth_told (is_utf8 bs) true (∥∥₁_map t (is_utf8-from_IsUtf8 bs)))

-- ---- frames

name_told : (name : List ℕ) → Told (IsColName name)
name_told name t = record {
  some = le_told _ _ (∥∥₁_map t (λ x. x.some));
  most = le_told _ _ (∥∥₁_map t (λ x. x.most));
  text = utf8_told name (∥∥₁_map t (λ x. x.text));
}

columns_told : (columns : List Head) → Told (AreColumns columns)
columns_told columns t = record {
  named = told_all (λ (c : Head). IsColName c.0) (λ c. name_told c.0) columns (∥∥₁_map t (λ x. x.named));
  distinct = truth_told _ _ (∥∥₁_map t (λ x. x.distinct));
}

cell_told : (c : Cell) → Told (IsCell c)
cell_told (cells.Int n) t = fits_told n t
cell_told (cells.Flag b) t = tt
cell_told (cells.Text bs) t = utf8_told bs t
cell_told (cells.Stamp n) t = fits_told n t

row_told : (columns : List Head) (r : Row) → Told (FitsColumns columns r)
row_told columns r t = record {
  stamp = fits_told r.stamp (∥∥₁_map t (λ x. x.stamp));
  typed = told_zip (λ (c : Head) cell. type_of cell ≡ c.1) (λ c cell. type_told (type_of cell) c.1) columns r.cells (∥∥₁_map t (λ x. x.typed));
  cells = told_all IsCell cell_told r.cells (∥∥₁_map t (λ x. x.cells));
}

rising_told : (ts : List ℤ) → Told (NeverFall ts)
rising_told [] t = tt
rising_told (a ∷ []) t = tt
rising_told (a ∷ b ∷ ts) t = (int_le_told a b (∥∥₁_map t (λ x. x.0)), rising_told (b ∷ ts) (∥∥₁_map t (λ x. x.1)))

frame_told : (f : Frame) → Told (IsFrame f)
frame_told f t = record {
  columns = columns_told f.schema.columns (∥∥₁_map t (λ x. x.columns));
  ascending = rising_told (stamps_of f.rows) (∥∥₁_map t (λ x. x.ascending));
  fitting = told_all (FitsColumns f.schema.columns) (row_told f.schema.columns) f.rows (∥∥₁_map t (λ x. x.fitting));
  untimed = λ e. told_all (λ (r : Row). r.stamp ≡ _) (λ r. int_told r.stamp _) f.rows (∥∥₁_map t (λ x. x.untimed e));
}

pub storable_told : (f : Frame) → Told (IsStorable f)
storable_told f t = record {
  is_frame = frame_told f (∥∥₁_map t (λ x. x.is_frame));
  timed = truth_told _ _ (∥∥₁_map t (λ x. x.timed));
  within = limit_told _ _ (∥∥₁_map t (λ x. x.within));
}

pub stamps_told : (f : Frame) (s : Slot) → Told (HasSlotStamps f s)
stamps_told f s t = record {
  first = stamp_told _ _ (∥∥₁_map t (λ x. x.first));
  last = stamp_told _ _ (∥∥₁_map t (λ x. x.last));
}
