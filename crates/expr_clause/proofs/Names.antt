-- Names of columns behind other names.
use Rattle.std.proofs.Common.{◌≡◌, refl, ap, List, [], ◌∷◌, ◌++◌}
use Rattle.frame_core.specs.Texts.{Text}

pub add_none : (names : List Text) → names ≡ names ++ []
add_none [] = refl
add_none (name ∷ names) = ap (λ more. name ∷ more) (add_none names)

pub add_both : (names left right : List Text) → (names ++ left) ++ right ≡ names ++ (left ++ right)
add_both [] left right = refl
add_both (name ∷ names) left right = ap (λ more. name ∷ more) (add_both names left right)
