-- Lists of first entries of one list.
use Rattle.std.proofs.Common.{◌≡◌, ℕ, ◌<◌, ◌≤◌, List, [], ◌∷◌, ◌++◌, length, sym, refl, ap, ◌∙◌, arith, append_assoc, append-nil, length-append, subst}
use mathlib.Core.List.{IsPrefix}
use mathlib.Core.Option.{some}
use lib.ListN.{get_elem?}
use Rattle.atomic_table.proofs.Lists.{at_longer}
use Rattle.turn_cell.proofs.Places.{at_some}

module _ {A : Type 0} where
  pub prefix_refl : (xs : List A) → IsPrefix xs xs
  prefix_refl xs = ([], append-nil xs)

  pub prefix_longer : (xs ys : List A) (e : A) → IsPrefix xs ys → IsPrefix xs (ys ++ e ∷ [])
  prefix_longer xs ys e p = (p.0 ++ e ∷ [], sym (append_assoc xs p.0 (e ∷ [])) ∙ ap (λ l. l ++ e ∷ []) p.1)

  pub prefix_trans : (xs ys zs : List A) → IsPrefix xs ys → IsPrefix ys zs → IsPrefix xs zs
  prefix_trans xs ys zs p q = (p.0 ++ q.0, sym (append_assoc xs p.0 q.0) ∙ (ap (λ l. l ++ q.0) p.1 ∙ q.1))

  pub prefix_length : (xs ys : List A) → IsPrefix xs ys → length xs ≤ length ys
  prefix_length xs ys p = omega (arith, length-append xs p.0, ap length p.1)

  whole_by : (xs ys t : List A) → xs ++ t ≡ ys → length ys ≤ length xs → xs ≡ ys
  whole_by xs ys [] e h = sym (append-nil xs) ∙ e
  whole_by xs ys (z ∷ zs) e h = absurd (omega (arith, length-append xs (z ∷ zs), ap length e))

  -- first entries that are as many is the whole
  pub prefix_whole : (xs ys : List A) → IsPrefix xs ys → length ys ≤ length xs → xs ≡ ys
  prefix_whole xs ys p h = whole_by xs ys p.0 p.1 h

  heads : (x y : A) (xs ys : List A) → x ∷ xs ≡ y ∷ ys → x ≡ y
  heads x y xs ys e = cc

  tails : (x y : A) (xs ys : List A) → x ∷ xs ≡ y ∷ ys → xs ≡ ys
  tails x y xs ys e = cc

  -- of two beginnings of one list the shorter begins the longer one
  pub prefix_between : (xs ys zs : List A) → IsPrefix xs zs → IsPrefix ys zs → length xs ≤ length ys → IsPrefix xs ys
  prefix_between [] ys zs p q h = (ys, refl)
  prefix_between (x ∷ xs) [] zs p q h = absurd (omega arith)
  prefix_between (x ∷ xs) (y ∷ ys) [] p q h = absurd (let e = p.1 in cc)
  prefix_between (x ∷ xs) (y ∷ ys) (z ∷ zs) p q h =
      let r = prefix_between xs ys zs (p.0, tails x z (xs ++ p.0) zs p.1) (q.0, tails y z (ys ++ q.0) zs q.1) (omega arith) in
      (r.0, λ i. (heads x z (xs ++ p.0) zs p.1 ∙ sym (heads y z (ys ++ q.0) zs q.1)) i ∷ r.1 i)

  pub at_prefix : (xs ys : List A) (k : ℕ) (e : A) → IsPrefix xs ys → get_elem? xs k ≡ some e → get_elem? ys k ≡ some e
  at_prefix xs ys k e p at = subst (λ l. get_elem? l k ≡ some e) p.1 (at_longer xs p.0 k e at)

  -- an element of the whole list within the length of the first entries
  pub at_shorter : (xs ys : List A) (k : ℕ) (e : A) → IsPrefix xs ys → k < length xs → get_elem? ys k ≡ some e → get_elem? xs k ≡ some e
  at_shorter xs ys k e p lt at = let x = at_some xs k lt in x.1 ∙ sym (at_prefix xs ys k x.0 p x.1) ∙ at
