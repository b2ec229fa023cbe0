-- Lists with the same elements, each as often.
use Rattle.std.proofs.Common.{◌≡◌, ◌+◌, ◌<◌, Bool, true, false, ◌&&◌, ◌||◌, List, [], ◌∷◌, ◌++◌, refl, ap, sym, ◌∙◌, subst, cond, arith}
use Rattle.std.specs.Prelude.{count_by, filter}
use Rattle.std.specs.List.{list_any}
use Rattle.std.proofs.lemmas.Bool.{true≢false, or_parts}
use Rattle.segment_cut.proofs.Lists.{count_by-cons, count_by-yes, count_by-no}
use Rattle.store_model.specs.Commits.{AsOften}

module _ {X : Type 0} where
  pub often_self : (xs : List X) → AsOften xs xs
  often_self xs test = refl

  pub often_as : (xs ys : List X) → xs ≡ ys → AsOften xs ys
  often_as xs ys same test = ap (count_by test) same

  pub often_then : (xs ys zs : List X) → AsOften xs ys → AsOften ys zs → AsOften xs zs
  often_then xs ys zs a b test = a test ∙ b test

  pub often_cons : (x : X) (xs ys : List X) → AsOften xs ys → AsOften (x ∷ xs) (x ∷ ys)
  often_cons x xs ys a test = count_by-cons test x xs ∙ (ap (λ n. cond (test x) 1 0 + n) (a test) ∙ sym (count_by-cons test x ys))

  -- behind the same elements
  pub often_behind : (front xs ys : List X) → AsOften xs ys → AsOften (front ++ xs) (front ++ ys)
  often_behind [] xs ys a = a
  often_behind (x ∷ front) xs ys a = often_cons x (front ++ xs) (front ++ ys) (often_behind front xs ys a)

  -- those that pass a test, of those that pass another
  count_filter : (test keep : X → Bool) (xs : List X) → count_by test (filter keep xs) ≡ count_by (λ x. keep x && test x) xs
  count_filter test keep [] = refl
  count_filter test keep (x ∷ xs) =
      elim (keep x) as (λ b. keep x ≡ b → count_by test (cond b (x ∷ filter keep xs) (filter keep xs)) ≡ count_by (λ x. keep x && test x) (x ∷ xs)) [
        | true ↦ λ e.
            count_by-cons test x (filter keep xs) ∙ (ap (λ n. cond (test x) 1 0 + n) (count_filter test keep xs)
            ∙ sym (count_by-cons (λ x. keep x && test x) x xs ∙ ap (λ b. cond (b && test x) 1 0 + count_by (λ x. keep x && test x) xs) e))
        | false ↦ λ e. count_filter test keep xs ∙ sym (count_by-no (λ x. keep x && test x) x xs (ap (λ b. b && test x) e))
      ] refl

  pub often_filter : (keep : X → Bool) (xs ys : List X) → AsOften xs ys → AsOften (filter keep xs) (filter keep ys)
  often_filter keep xs ys a test = count_filter test keep xs ∙ (a (λ x. keep x && test x) ∙ sym (count_filter test keep ys))

  -- a test that one element passes counts more than none
  any_counts : (test : X → Bool) (xs : List X) → list_any test xs ≡ true → 0 < count_by test xs
  any_counts test [] e = absurd (true≢false (sym e))
  any_counts test (x ∷ xs) e =
      elim (test x) as (λ b. test x ≡ b → (b || list_any test xs) ≡ true → 0 < count_by test (x ∷ xs)) [
        | true ↦ λ f g. subst (λ n. 0 < n) (sym (count_by-yes test x xs f)) (omega arith)
        | false ↦ λ f g. subst (λ n. 0 < n) (sym (count_by-no test x xs f)) (any_counts test xs g)
      ] refl e

  none_counts : (test : X → Bool) (xs : List X) → list_any test xs ≡ false → count_by test xs ≡ 0
  none_counts test [] e = refl
  none_counts test (x ∷ xs) e =
      let parts = or_parts (test x) (list_any test xs) e in
      count_by-no test x xs parts.0 ∙ none_counts test xs parts.1

  -- so a test that an element of the one passes, an element of the other passes
  pub often_any : (xs ys : List X) → AsOften xs ys → (test : X → Bool) → list_any test xs ≡ list_any test ys
  often_any xs ys a test =
      elim (list_any test xs) as (λ b. list_any test xs ≡ b → b ≡ list_any test ys) [
        | true ↦ λ e. elim (list_any test ys) as (λ c. list_any test ys ≡ c → true ≡ c) [
          | true ↦ λ f. refl
          | false ↦ λ f. absurd (omega (arith, any_counts test xs e, a test, none_counts test ys f))
        ] refl
        | false ↦ λ e. elim (list_any test ys) as (λ c. list_any test ys ≡ c → false ≡ c) [
          | true ↦ λ f. absurd (omega (arith, any_counts test ys f, a test, none_counts test xs e))
          | false ↦ λ f. refl
        ] refl
      ] refl
