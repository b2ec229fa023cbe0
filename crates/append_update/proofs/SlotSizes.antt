-- The rows of the row blocks that slots begin.
use Rattle.std.proofs.Common.{◌≡◌, ℕ, suc, ◌+◌, ◌≤◌, Bool, true, false, List, [], ◌∷◌, ◌++◌, map, refl, sym, ap, ◌∙◌, subst, arith, cond, inl, inr}
use Rattle.std.specs.Prelude.{filter, nat_eq}
use Rattle.std.specs.List.{AllByRecursion}
use Rattle.std.proofs.lemmas.Bool.{eq-eqb, ne_eqb}
use Rattle.std.proofs.lemmas.List.{map-append}
use Rattle.std.proofs.lemmas.List.Elements.{filter-append}
use Rattle.index_tree.specs.declared.index.Slot.{Slot}
use Rattle.index_tree.specs.IndexRules.{IsSlot, SameBlock, LeadOn, Cover}
use Rattle.reply_model.specs.Standing.{row_sizes}
use Rattle.append_update.proofs.BlockSizes.{total, Begin}

-- a slot begins a row block
abbrev pub begins : Slot → Bool
begins s = nat_eq s.part.first_col 0

pub row_sizes-append : (xs ys : List Slot) → row_sizes (xs ++ ys) ≡ row_sizes xs ++ row_sizes ys
row_sizes-append xs ys = ap (map (λ (s : Slot). s.part.rows)) (filter-append begins xs ys) ∙ map-append (λ (s : Slot). s.part.rows) (filter begins xs) (filter begins ys)

pub row_sizes-cons : (s : Slot) (slots : List Slot) → row_sizes (s ∷ slots) ≡ cond (begins s) (s.part.rows ∷ row_sizes slots) (row_sizes slots)
row_sizes-cons s slots =
    elim (begins s) as (λ b. map (λ (x : Slot). x.part.rows) (cond b (s ∷ filter begins slots) (filter begins slots)) ≡ cond b (s.part.rows ∷ row_sizes slots) (row_sizes slots)) [
      | true ↦ refl
      | false ↦ refl
    ]

-- of a slot that begins a row block, and of one that does not
pub at_begin : (s : Slot) (slots : List Slot) → s.part.first_col ≡ 0 → row_sizes (s ∷ slots) ≡ s.part.rows ∷ row_sizes slots
at_begin s slots first = row_sizes-cons s slots ∙ ap (λ b. cond b (s.part.rows ∷ row_sizes slots) (row_sizes slots)) (eq-eqb s.part.first_col 0 first)

within_block : (s : Slot) (slots : List Slot) → 1 ≤ s.part.first_col → row_sizes (s ∷ slots) ≡ row_sizes slots
within_block s slots some = row_sizes-cons s slots ∙ ap (λ b. cond b (s.part.rows ∷ row_sizes slots) (row_sizes slots)) (ne_eqb s.part.first_col 0 (λ e. omega (arith, some, e)))

-- what holds of the rows of each slot holds of those of each block
pub sizes_all : (P : ℕ → Type 0) (slots : List Slot) → AllByRecursion (λ (s : Slot). P s.part.rows) slots → AllByRecursion P (row_sizes slots)
sizes_all P [] all = tt
sizes_all P (s ∷ slots) all = subst (AllByRecursion P) (sym (row_sizes-cons s slots)) (elim (begins s) as (λ b. AllByRecursion P (cond b (s.part.rows ∷ row_sizes slots) (row_sizes slots))) [
  | true ↦ (all.0, sizes_all P slots all.1)
  | false ↦ sizes_all P slots all.1
])

module _ (columns : ℕ) where
  -- a slot that goes on with a row block does not begin one
  behind_first : (s t : Slot) → IsSlot columns s → SameBlock columns s t → 1 ≤ t.part.first_col
  behind_first s t is same =
      let some : 1 ≤ s.part.cols = is.some_cols (omega (arith, same.left)) in
      omega (arith, same.first_col, some)

  -- the rows behind a slot are those of the blocks behind it
  lead_total : (rows : ℕ) (s : Slot) (more : List Slot) → AllByRecursion (IsSlot columns) (s ∷ more) → LeadOn rows columns s more → s.part.first_row + s.part.rows + total (row_sizes more) ≡ rows
  lead_total rows s [] each lead = omega (arith, lead.0)
  lead_total rows s (t ∷ more) each lead =
      let rest = lead_total rows t more each.1 lead.1 in
      elim lead.0 [
        | inl same ↦
            let none : total (row_sizes (t ∷ more)) ≡ total (row_sizes more) = ap total (within_block t more (behind_first s t each.0 same)) in
            omega (arith, rest, none, same.first_row, same.rows)
        | inr block ↦
            let one : total (row_sizes (t ∷ more)) ≡ t.part.rows + total (row_sizes more) = ap total (at_begin t more block.first_col) in
            omega (arith, rest, one, block.first_row)
      ]

  pub cover_total : (rows : ℕ) (slots : List Slot) → AllByRecursion (IsSlot columns) slots → Cover rows columns slots → total (row_sizes slots) ≡ rows
  cover_total rows [] each cover = sym cover
  cover_total rows (s ∷ more) each cover =
      let one : total (row_sizes (s ∷ more)) ≡ s.part.rows + total (row_sizes more) = ap total (at_begin s more cover.1) in
      omega (arith, one, cover.0, lead_total rows s more each cover.2)

  -- a slot that begins a row block stands behind the rows of the blocks before it
  lead_at : (rows : ℕ) (s : Slot) (xs : List Slot) (t : Slot) (more : List Slot) → AllByRecursion (IsSlot columns) (s ∷ (xs ++ t ∷ more)) → LeadOn rows columns s (xs ++ t ∷ more) → t.part.first_col ≡ 0
      → t.part.first_row ≡ s.part.first_row + s.part.rows + total (row_sizes xs)
  lead_at rows s [] t more each lead first = elim lead.0 [
    | inl same ↦ absurd (omega (arith, first, behind_first s t each.0 same))
    | inr block ↦ omega (arith, block.first_row)
  ]
  lead_at rows s (u ∷ xs) t more each lead first =
      let rest = lead_at rows u xs t more each.1 lead.1 first in
      elim lead.0 [
        | inl same ↦
            let none : total (row_sizes (u ∷ xs)) ≡ total (row_sizes xs) = ap total (within_block u xs (behind_first s u each.0 same)) in
            omega (arith, rest, none, same.first_row, same.rows)
        | inr block ↦
            let one : total (row_sizes (u ∷ xs)) ≡ u.part.rows + total (row_sizes xs) = ap total (at_begin u xs block.first_col) in
            omega (arith, rest, one, block.first_row)
      ]

  pub cover_at : (rows : ℕ) (xs : List Slot) (t : Slot) (more : List Slot) → AllByRecursion (IsSlot columns) (xs ++ t ∷ more) → Cover rows columns (xs ++ t ∷ more) → t.part.first_col ≡ 0 → t.part.first_row ≡ total (row_sizes xs)
  cover_at rows [] t more each cover first = cover.0
  cover_at rows (s ∷ xs) t more each cover first =
      let one : total (row_sizes (s ∷ xs)) ≡ s.part.rows + total (row_sizes xs) = ap total (at_begin s xs cover.1) in
      omega (arith, one, cover.0, lead_at rows s xs t more each cover.2 first)

  -- the blocks of slots that begin before a row begin before it
  lead_begins : (rows b : ℕ) (s : Slot) (more : List Slot) → AllByRecursion (IsSlot columns) (s ∷ more) → LeadOn rows columns s more → AllByRecursion (λ (t : Slot). suc t.part.first_row ≤ b) more
      → Begin b (s.part.first_row + s.part.rows) (row_sizes more)
  lead_begins rows b s [] each lead all = tt
  lead_begins rows b s (t ∷ more) each lead all =
      let rest : Begin b (t.part.first_row + t.part.rows) (row_sizes more) = lead_begins rows b t more each.1 lead.1 all.1 in
      elim lead.0 [
        | inl same ↦
            let place : t.part.first_row + t.part.rows ≡ s.part.first_row + s.part.rows = omega (arith, same.first_row, same.rows) in
            subst (Begin b (s.part.first_row + s.part.rows)) (sym (within_block t more (behind_first s t each.0 same))) (subst (λ n. Begin b n (row_sizes more)) place rest)
        | inr block ↦
            subst (Begin b (s.part.first_row + s.part.rows)) (sym (at_begin t more block.first_col))
            (omega (arith, block.first_row, all.0), subst (λ n. Begin b (n + t.part.rows) (row_sizes more)) block.first_row rest)
      ]

  pub run_begins : (rows b : ℕ) (s : Slot) (more : List Slot) → AllByRecursion (IsSlot columns) (s ∷ more) → s.part.first_row ≡ 0 → s.part.first_col ≡ 0 → LeadOn rows columns s more
      → AllByRecursion (λ (t : Slot). suc t.part.first_row ≤ b) (s ∷ more) → Begin b 0 (row_sizes (s ∷ more))
  run_begins rows b s more each none first lead all =
      subst (Begin b 0) (sym (at_begin s more first)) (omega (arith, none, all.0), subst (λ n. Begin b (n + s.part.rows) (row_sizes more)) none (lead_begins rows b s more each lead all.1))
