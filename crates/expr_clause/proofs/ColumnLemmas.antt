-- A column in the place of another.
use Rattle.std.proofs.Common.{◌≡◌, ℕ, ◌+◌, ◌-◌, ◌<◌, List, [], ◌∷◌, ◌++◌, length, take, drop, refl, sym, ap, ◌∙◌, add-one}
use Rattle.std.specs.Prelude.{slice_set}
use Rattle.std.proofs.lemmas.List.{set_split, take_rest}
use Rattle.frame_core.specs.Schemas.{Head}

one_more : (front : List Head) (x : Head) (back : List Head) → (front ++ x ∷ []) ++ back ≡ front ++ x ∷ back
one_more [] x back = refl
one_more (h ∷ front) x back = ap (λ more. h ∷ more) (one_more front x back)

-- the columns before it, itself, and the columns behind it
pub put_in_place : (columns : List Head) (k : ℕ) (x : Head) → k < length columns
    → (take k columns ++ x ∷ []) ++ take (length columns - (k + 1)) (drop (k + 1) columns) ≡ slice_set columns k x
put_in_place columns k x lt =
    ap (λ back. (take k columns ++ x ∷ []) ++ back) (take_rest columns (k + 1))
    ∙ one_more (take k columns) x (drop (k + 1) columns) ∙ ap (λ m. take k columns ++ x ∷ drop m columns) (add-one k) ∙ sym (set_split columns k x lt)
