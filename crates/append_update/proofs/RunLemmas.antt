-- What a test leaves of a run of slots, where it does not tell slots of one row block apart.
use Rattle.std.proofs.Common.{◌≡◌, ℕ, zero, suc, ◌+◌, ◌-◌, ◌≤◌, Bool, true, false, List, [], ◌∷◌, length, take, drop, refl, sym, ap, ◌∙◌, subst, arith, inl, inr, length-append}
use Rattle.std.specs.Prelude.{slice_range, filter}
use Rattle.std.specs.List.{AllByRecursion}
use Rattle.std.proofs.lemmas.Bool.{true≢false}
use Rattle.std.proofs.lemmas.List.{take-append-drop}
use Rattle.std.proofs.lemmas.List.Elements.{filter-append}
use Rattle.std.proofs.lemmas.List.Sums.{length-filter, count_by-le-length}
use Rattle.index_tree.specs.declared.index.Slot.{Slot}
use Rattle.index_tree.specs.IndexRules.{SameBlock, LeadOn}
use Rattle.frame_write.specs.Pieces.{end_of, IsRun}
use Rattle.append_update.proofs.ListLemmas.{FallsOff, passing, divided, none_passing, falls_later, take_all_of}
use Rattle.append_update.proofs.SlotLemmas.{end-lead}

-- the test says the same of slots of one row block
abbrev pub IsOfBlocks : ℕ → (Slot → Bool) → Type 0
IsOfBlocks columns p = (s t : Slot) → SameBlock columns s t → p s ≡ p t

module _ (columns : ℕ) (p : Slot → Bool) (of_blocks : IsOfBlocks columns p) where
  lead-take : (last : ℕ) (s : Slot) (more : List Slot) → LeadOn last columns s more → p s ≡ true → FallsOff p (s ∷ more)
      → LeadOn (end_of (s ∷ take (passing p more) more)) columns s (take (passing p more) more)
  lead-take last s [] lead pass falls = (refl, lead.1)
  lead-take last s (t ∷ more) lead pass falls = by (p t) refl (lead-take last t more lead.1)
    where
      by : (b : Bool) → p t ≡ b → (p t ≡ true → FallsOff p (t ∷ more) → LeadOn (end_of (t ∷ take (passing p more) more)) columns t (take (passing p more) more))
          → LeadOn (end_of (s ∷ take (passing p (t ∷ more)) (t ∷ more))) columns s (take (passing p (t ∷ more)) (t ∷ more))
      by true e rest =
          let count : passing p (t ∷ more) ≡ suc (passing p more) = rw e refl in
          subst (λ n. LeadOn (end_of (s ∷ take n (t ∷ more))) columns s (take n (t ∷ more))) (sym count) (lead.0, rest e falls.1)
      by false e rest =
          let count : passing p (t ∷ more) ≡ 0 = none_passing p t more falls.1 e in
          subst (λ n. LeadOn (end_of (s ∷ take n (t ∷ more))) columns s (take n (t ∷ more))) (sym count) (
            refl,
            elim lead.0 [
              | inl same ↦ absurd (true≢false (sym pass ∙ of_blocks s t same ∙ e))
              | inr block ↦ block.whole
            ],
          )

  lead-drop : (last : ℕ) (s : Slot) (more : List Slot) → LeadOn last columns s more → p s ≡ true → FallsOff p (s ∷ more) → IsRun columns (drop (passing p more) more)
  lead-drop last s [] lead pass falls = tt
  lead-drop last s (t ∷ more) lead pass falls = by (p t) refl (lead-drop last t more lead.1)
    where
      by : (b : Bool) → p t ≡ b → (p t ≡ true → FallsOff p (t ∷ more) → IsRun columns (drop (passing p more) more)) → IsRun columns (drop (passing p (t ∷ more)) (t ∷ more))
      by true e rest =
          let count : passing p (t ∷ more) ≡ suc (passing p more) = rw e refl in
          subst (λ n. IsRun columns (drop n (t ∷ more))) (sym count) (rest e falls.1)
      by false e rest =
          let count : passing p (t ∷ more) ≡ 0 = none_passing p t more falls.1 e in
          subst (λ n. IsRun columns (drop n (t ∷ more))) (sym count) (elim lead.0 [
            | inl same ↦ absurd (true≢false (sym pass ∙ of_blocks s t same ∙ e))
            | inr block ↦ (block.first_col, subst (λ n. LeadOn n columns t more) (sym (end-lead last columns t more lead.1)) lead.1)
          ])

  -- the slots that pass are a run
  pub run-take : (slots : List Slot) → IsRun columns slots → FallsOff p slots → IsRun columns (take (passing p slots) slots)
  run-take [] run falls = tt
  run-take (s ∷ more) run falls = by (p s) refl
    where
      by : (b : Bool) → p s ≡ b → IsRun columns (take (passing p (s ∷ more)) (s ∷ more))
      by true e =
          let count : passing p (s ∷ more) ≡ suc (passing p more) = rw e refl in
          subst (λ n. IsRun columns (take n (s ∷ more))) (sym count) (run.0, lead-take (end_of (s ∷ more)) s more run.1 e falls)
      by false e = subst (λ n. IsRun columns (take n (s ∷ more))) (sym (none_passing p s more falls e)) tt

  -- and so are those that do not
  pub run-drop : (slots : List Slot) → IsRun columns slots → FallsOff p slots → IsRun columns (drop (passing p slots) slots)
  run-drop [] run falls = tt
  run-drop (s ∷ more) run falls = by (p s) refl
    where
      by : (b : Bool) → p s ≡ b → IsRun columns (drop (passing p (s ∷ more)) (s ∷ more))
      by true e =
          let count : passing p (s ∷ more) ≡ suc (passing p more) = rw e refl in
          subst (λ n. IsRun columns (drop n (s ∷ more))) (sym count) (lead-drop (end_of (s ∷ more)) s more run.1 e falls)
      by false e = subst (λ n. IsRun columns (drop n (s ∷ more))) (sym (none_passing p s more falls e)) run

-- ---- between two tests

pub falls-drop : {X : Type 0} (q : X → Bool) (n : ℕ) (xs : List X) → FallsOff q xs → FallsOff q (drop n xs)
falls-drop q zero xs falls = falls
falls-drop q (suc n) [] falls = tt
falls-drop q (suc n) (x ∷ xs) falls = falls-drop q n xs (falls_later q x xs falls)

all_passing : {X : Type 0} (q : X → Bool) (xs : List X) → AllByRecursion (λ x. q x ≡ true) xs → passing q xs ≡ length xs
all_passing q [] all = refl
all_passing q (x ∷ xs) all = rw all.0 (ap suc (all_passing q xs all.1))

both_pass : {X : Type 0} (p q : X → Bool) (xs : List X) → AllByRecursion (λ x. p x ≡ true → q x ≡ true) xs → AllByRecursion (λ x. p x ≡ true) xs → AllByRecursion (λ x. q x ≡ true) xs
both_pass p q [] each all = tt
both_pass p q (x ∷ xs) each all = (each.0 all.0, both_pass p q xs each.1 all.1)

pub length_taken : {X : Type 0} (n : ℕ) (xs : List X) → n ≤ length xs → length (take n xs) ≡ n
length_taken zero xs le = refl
length_taken (suc n) [] le = absurd (omega (arith, le))
length_taken (suc n) (x ∷ xs) le = ap suc (length_taken n xs (omega (arith, le)))

-- how many pass the weaker test behind those that pass the other
pub passing-behind : {X : Type 0} (p q : X → Bool) (xs : List X) → AllByRecursion (λ x. p x ≡ true → q x ≡ true) xs → FallsOff p xs → passing q (drop (passing p xs) xs) ≡ passing q xs - passing p xs
passing-behind p q xs each falls =
    let pass = both_pass p q (take (passing p xs) xs) (take_all_of (λ x. p x ≡ true → q x ≡ true) (passing p xs) xs each) (divided p xs falls).pass in
    let few : passing p xs ≤ length xs = omega (arith, length-filter p xs, count_by-le-length p xs) in
    let first : passing q (take (passing p xs) xs) ≡ passing p xs = all_passing q (take (passing p xs) xs) pass ∙ length_taken (passing p xs) xs few in
    let sum : passing q xs ≡ passing q (take (passing p xs) xs) + passing q (drop (passing p xs) xs) =
    ap (passing q) (sym (take-append-drop (passing p xs) xs)) ∙ (ap length (filter-append q (take (passing p xs) xs) (drop (passing p xs) xs)) ∙ length-append (filter q (take (passing p xs) xs)) (filter q (drop (passing p xs) xs))) in
    omega (arith, first, sum)

-- the slots between the two are a run
pub run-between : (columns : ℕ) (p q : Slot → Bool) → IsOfBlocks columns p → IsOfBlocks columns q → (slots : List Slot) → AllByRecursion (λ s. p s ≡ true → q s ≡ true) slots → IsRun columns slots → FallsOff p slots → FallsOff q slots
    → IsRun columns (slice_range slots (passing p slots) (passing q slots))
run-between columns p q of_p of_q slots each run falls_p falls_q =
    subst (λ n. IsRun columns (take n (drop (passing p slots) slots))) (passing-behind p q slots each falls_p)
    (run-take columns q of_q (drop (passing p slots) slots) (run-drop columns p of_p slots run falls_p) (falls-drop q (passing p slots) slots falls_q))
