-- The order of cells is whole, and cells that it does not tell apart are the same.
use Rattle.std.proofs.Common.{◌≡◌, refl, ap, sym, ◌∙◌, subst}
use Rattle.std.specs.Prelude.{ℕ, ℤ, pos, true, false, List, []}
use Rattle.std.specs.Cmp.{IsTotalOrder, IsEquivalence}
use Rattle.std.specs.Cmp.Lexicographic.{slice_cmp, bytes_decides, texts_ties}
use Rattle.std.specs.declared.cmp.Ordering.{Ordering}
use Rattle.std.specs.declared.cmp.Ordering.TheVariants.{Less, Equal, Greater}
use Rattle.std.specs.Ordering.{nat_cmp, int_cmp, is_eq, eq_by_cmp, on, then_cmp, ordering_then}
use Rattle.std.proofs.lemmas.Bool.{true≢false}
use Rattle.std.proofs.lemmas.Cmp.{nat_cmp_total, int_cmp_total, nat_list_cmp_total, on_total, then_total, int_ranked, eq_by_cmp_equiv}
use Rattle.frame_core.specs.declared.cell.Cell.{Cell}
use Rattle.frame_core.specs.declared.cell.Cell.TheVariants as cells
use Rattle.expr_clause.specs.Cells.{rank, cell_cmp}
use Rattle.group_clause.specs.Blocks.{cell_fed}

-- a cell as a rank, a number and a text
abbrev amount : Cell → ℤ
amount (cells.Int n) = n
amount (cells.Flag true) = pos 1
amount (cells.Stamp n) = n
amount _ = pos 0

abbrev text : Cell → List ℕ
text (cells.Text t) = t
text _ = []

abbrev by_parts : Cell → Cell → Ordering
by_parts = then_cmp (on rank nat_cmp) (then_cmp (on amount int_cmp) (on text (slice_cmp nat_cmp)))

by_parts_total : IsTotalOrder by_parts
by_parts_total = then_total (on_total rank nat_cmp_total) (then_total (on_total amount int_cmp_total) (on_total text nat_list_cmp_total))

then_level : (o : Ordering) → o ≡ ordering_then o Equal
then_level Less = refl
then_level Equal = refl
then_level Greater = refl

same_order : (a b : Cell) → cell_cmp a b ≡ by_parts a b
same_order (cells.Int a) (cells.Int b) = then_level (int_cmp a b)
same_order (cells.Flag false) (cells.Flag false) = refl
same_order (cells.Flag false) (cells.Flag true) = refl
same_order (cells.Flag true) (cells.Flag false) = refl
same_order (cells.Flag true) (cells.Flag true) = refl
same_order (cells.Text a) (cells.Text b) = refl
same_order (cells.Stamp a) (cells.Stamp b) = then_level (int_cmp a b)
same_order _ _ = refl

pub cell_cmp_total : IsTotalOrder cell_cmp
cell_cmp_total = subst IsTotalOrder (λ i a b. sym (same_order a b) i) by_parts_total

same_int : (a b : ℤ) → int_cmp a b ≡ Equal → a ≡ b
same_int a b e = int_ranked a b Equal (sym e)

pub cells_equal : (a b : Cell) → cell_cmp a b ≡ Equal → a ≡ b
cells_equal (cells.Int a) (cells.Int b) e = ap cells.Int (same_int a b e)
cells_equal (cells.Flag false) (cells.Flag false) e = refl
cells_equal (cells.Flag false) (cells.Flag true) e = absurd (true≢false (ap is_eq (sym e)))
cells_equal (cells.Flag true) (cells.Flag false) e = absurd (true≢false (ap is_eq (sym e)))
cells_equal (cells.Flag true) (cells.Flag true) e = refl
cells_equal (cells.Text a) (cells.Text b) e = ap cells.Text ((bytes_decides a b).0 (texts_ties a b ∙ ap is_eq e))
cells_equal (cells.Stamp a) (cells.Stamp b) e = ap cells.Stamp (same_int a b e)
cells_equal _ _ e = absurd (true≢false (ap is_eq (sym e)))

-- ---- equality by the order

pub keys_equiv : IsEquivalence (eq_by_cmp cell_cmp)
keys_equiv = eq_by_cmp_equiv cell_cmp_total

equal : (o : Ordering) → is_eq o ≡ true → o ≡ Equal
equal Less e = absurd (true≢false (sym e))
equal Equal e = refl
equal Greater e = absurd (true≢false (sym e))

pub keys_alike : (x y : Cell) → eq_by_cmp cell_cmp x y ≡ true → cell_fed x ≡ cell_fed y
keys_alike x y e = ap cell_fed (cells_equal x y (equal (cell_cmp x y) e))
