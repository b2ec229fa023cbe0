-- Loops that write the spellings of a list, one behind another.
use Rattle.std.proofs.Common.{◌≡◌, ℕ, ◌+◌, ◌<◌, ◌≤◌, List, [], ◌∷◌, ◌++◌, length, get_or, take, refl, sym, ap, subst, ◌∙◌, append_assoc}
use Rattle.std.specs.List.{flat_map}
use Rattle.std.proofs.lemmas.List.{take_more, take_all, append-nil}
use Rattle.std.proofs.lemmas.List.Concat.{flat_map-append, flat_map-cons}

-- behind `old` stand the spellings of these
abbrev pub Written : {A : Type 0} → (A → List ℕ) → List A → List ℕ → List ℕ → Type 0
Written text xs old out = out ≡ old ++ flat_map text xs

pub written_none : {A : Type 0} (text : A → List ℕ) (old : List ℕ) → Written text [] old old
written_none text old = sym (append-nil old)

-- the next one is written
pub written_more : {A : Type 0} (text : A → List ℕ) (xs : List A) (i : ℕ) (d : A) (old out : List ℕ) → i < length xs → Written text (take i xs) old out → Written text (take (i + 1) xs) old (out ++ text (get_or xs i d))
written_more text xs i d old out lt w =
    let x = get_or xs i d in
    let one : flat_map text (x ∷ []) ≡ text x = flat_map-cons text x [] ∙ append-nil (text x) in
    let joined : flat_map text (take (i + 1) xs) ≡ flat_map text (take i xs) ++ text x = ap (flat_map text) (take_more xs i d lt) ∙ flat_map-append text (take i xs) (x ∷ []) ∙ ap (λ (t : List ℕ). flat_map text (take i xs) ++ t) one in
    ap (λ (t : List ℕ). t ++ text x) w ∙ append_assoc old (flat_map text (take i xs)) (text x) ∙ ap (λ (t : List ℕ). old ++ t) (sym joined)

-- all are written
pub written_all : {A : Type 0} (text : A → List ℕ) (xs : List A) (n : ℕ) (old out : List ℕ) → length xs ≤ n → Written text (take n xs) old out → Written text xs old out
written_all {A} text xs n old out le w = subst (λ (ys : List A). Written text ys old out) (take_all n xs le) w
