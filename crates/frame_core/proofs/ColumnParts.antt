-- Cells of a part of a column, and of one column behind another.
use Rattle.std.proofs.Common.{◌≡◌, ℕ, zero, suc, ◌-◌, ℤ, Bool, List, [], ◌∷◌, map, take, drop, refl, ap, ◌∙◌}
use Rattle.std.specs.Prelude.{slice_range}
use Rattle.frame_core.specs.declared.cell.Cell.TheVariants as cells
use Rattle.frame_core.specs.declared.column.Column.{Column}
use Rattle.frame_core.specs.declared.column.Column.TheVariants as columns
use Rattle.frame_core.specs.Columns.{column_cells}

take-map : {A B : Type 0} (f : A → B) (n : ℕ) (xs : List A) → map f (take n xs) ≡ take n (map f xs)
take-map f zero xs = refl
take-map f (suc n) [] = refl
take-map {A} {B} f (suc n) (x ∷ xs) = ap (λ (ys : List B). f x ∷ ys) (take-map f n xs)

drop-map : {A B : Type 0} (f : A → B) (n : ℕ) (xs : List A) → map f (drop n xs) ≡ drop n (map f xs)
drop-map f zero xs = refl
drop-map f (suc n) [] = refl
drop-map f (suc n) (x ∷ xs) = drop-map f n xs

pub slice-map : {A B : Type 0} (f : A → B) (a b : ℕ) (xs : List A) → map f (slice_range xs a b) ≡ slice_range (map f xs) a b
slice-map f a b xs = take-map f (b - a) (drop a xs) ∙ ap (take (b - a)) (drop-map f a xs)

pub part_ints : (c : Column) (v lent part : List ℤ) (a b : ℕ) → c ≡ columns.Ints v → lent ≡ v → part ≡ slice_range lent a b → map cells.Int part ≡ slice_range (column_cells c) a b
part_ints c v lent part a b is same cut = rw (is, cut, same) (slice-map cells.Int a b v)

pub part_flags : (c : Column) (v lent part : List Bool) (a b : ℕ) → c ≡ columns.Flags v → lent ≡ v → part ≡ slice_range lent a b → map cells.Flag part ≡ slice_range (column_cells c) a b
part_flags c v lent part a b is same cut = rw (is, cut, same) (slice-map cells.Flag a b v)

pub part_stamps : (c : Column) (v lent part : List ℤ) (a b : ℕ) → c ≡ columns.Stamps v → lent ≡ v → part ≡ slice_range lent a b → map cells.Stamp part ≡ slice_range (column_cells c) a b
part_stamps c v lent part a b is same cut = rw (is, cut, same) (slice-map cells.Stamp a b v)

pub part_texts : (c : Column) (v part : List (List ℕ)) (a b : ℕ) → c ≡ columns.Texts v → part ≡ slice_range v a b → map cells.Text part ≡ slice_range (column_cells c) a b
part_texts c v part a b is cut = rw (is, cut) (slice-map cells.Text a b v)
