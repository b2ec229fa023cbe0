-- How many slots cover a frame: no more than it has cells, or rows where it has no columns.
use Rattle.std.proofs.Common.{◌≡◌, ℕ, zero, suc, ◌+◌, ◌*◌, ◌<◌, ◌≤◌, ◌^◌, max, None, List, [], ◌∷◌, length, ap, arith, inl, inr}
use Rattle.std.specs.List.{AllByRecursion}
use Rattle.std.proofs.Math.Nat.{mul-le-mul_right}
use Rattle.frame_core.specs.Frames.{Frame}
use Rattle.frame_core.specs.Limits.{frame_too_large}
use Rattle.index_tree.specs.declared.index.Slot.{Slot}
use Rattle.index_tree.specs.IndexRules.{IsSlot, LeadOn}
use Rattle.frame_write.proofs.CutLimits.{frame_within}
use Rattle.frame_write.proofs.GridCover.{at_most}
use Rattle.frame_write.proofs.Runs.{CoverFrom}

-- a slot begins at a column of the frame, or at the only place where it has none
col_below : (columns wide : ℕ) (s : Slot) → 1 ≤ wide → columns ≤ wide → IsSlot columns s → s.part.first_col < wide
col_below zero wide s some within r = omega (arith, r.within, some)
col_below (suc n) wide s some within r = omega (arith, r.within, within, r.some_cols (omega arith))

-- so many rows further there are at least the places of one row more
next_row : (a b wide : ℕ) → 1 ≤ b → a * wide + wide ≤ (a + b) * wide
next_row a b wide some =
    let less : (a + 1) * wide ≤ (a + b) * wide = mul-le-mul_right wide (omega (arith, some)) in
    let one : (a + 1) * wide ≡ a * wide + wide = omega arith in
    omega (arith, less, one)

module _ (columns wide : ℕ) (some : 1 ≤ wide) (within : columns ≤ wide) where
  -- each slot stands behind the one before it, among the places row by row
  few_from : (rows : ℕ) (s : Slot) (more : List Slot) → AllByRecursion (IsSlot columns) (s ∷ more) → LeadOn rows columns s more
      → length (s ∷ more) + (s.part.first_row * wide + s.part.first_col) ≤ rows * wide
  few_from rows s [] each l =
      let end = next_row s.part.first_row s.part.rows wide each.0.some_rows in
      let same : (s.part.first_row + s.part.rows) * wide ≡ rows * wide = ap (λ n. n * wide) l.0 in
      let col = col_below columns wide s some within each.0 in
      omega (arith, end, same, col)
  few_from rows s (t ∷ more) each l =
      let rest = few_from rows t more each.1 l.1 in
      elim l.0 [
        | inl b ↦
            let same : t.part.first_row * wide ≡ s.part.first_row * wide = ap (λ n. n * wide) b.first_row in
            let filled = each.0.some_cols (omega (arith, b.left)) in
            omega (arith, rest, same, filled, b.first_col)
        | inr b ↦
            let end = next_row s.part.first_row s.part.rows wide each.0.some_rows in
            let same : t.part.first_row * wide ≡ (s.part.first_row + s.part.rows) * wide = ap (λ n. n * wide) b.first_row in
            let col = col_below columns wide s some within each.0 in
            omega (arith, rest, end, same, col, b.first_col)
      ]

-- slots that cover a frame within the limits can be counted
pub few_slots : (f : Frame) (slots : List Slot) → frame_too_large f ≡ None → AllByRecursion (IsSlot (length f.schema.columns)) slots → CoverFrom 0 (length f.rows) (length f.schema.columns) slots → length slots < 2 ^ 32
few_slots f [] e each c = omega arith
few_slots f (s ∷ more) e each c =
    let w = frame_within f e in
    let few = few_from (length f.schema.columns) (max 1 (length f.schema.columns)) (omega arith) (omega arith) (length f.rows) s more each c.2 in
    let cells = at_most (length f.rows) (length f.schema.columns) 8000000 (omega (arith, w.rows_are)) w.cells_are in
    omega (arith, few, cells)
