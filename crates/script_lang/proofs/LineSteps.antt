-- Lists of a line that are read value by value.
use Rattle.std.proofs.Common.{◌≡◌, ℕ, suc, ◌+◌, ◌-◌, ◌<◌, ◌≤◌, List, [], ◌∷◌, ◌++◌, Option, Some, None, refl, sym, ap, ◌∙◌, append_assoc, add-one, arith}
use Rattle.std.specs.Prelude.{option_map}
use Rattle.std.proofs.lemmas.List.{append-nil}
use Rattle.frame_core.specs.Texts.{Text}
use Rattle.script_lang.specs.Fronts.{Front, ◌>>=◌, field_at, stop_before, line_at}

-- values that were read before, and those that are read now
abbrev pub behind : {A : Type 0} → List A → Option (List A × Text) → Option (List A × Text)
behind front read = option_map (λ x. (front ++ x.0, x.1)) read

some_pair : {A : Type 0} → List A → Text → Option (List A × Text)
some_pair xs rest = Some (xs, rest)

regroup : {A : Type 0} (front : List A) (x : A) (read : Option (List A × Text)) → behind front (read >>= λ more. Some (x ∷ more.0, more.1)) ≡ behind (front ++ x ∷ []) read
unfolding some_pair
regroup front x None = refl
regroup front x (Some y) = ap (λ (xs : List _). some_pair xs y.1) (sym (append_assoc front (x ∷ []) y.0))

-- at the start nothing was read before
pub behind-nil : {A : Type 0} (read : Option (List A × Text)) → behind [] read ≡ read
behind-nil None = refl
behind-nil (Some x) = refl

-- a value was read
pub line_on : {A : Type 0} (form : Front A) (n i : ℕ) (text after : Text) (front : List A) (x : A) (total : Option (List A × Text)) → i < n →
    field_at form (stop_before (n - i - 1)) text ≡ Some (x, after) → behind front (line_at form (n - i) text) ≡ total → behind (front ++ x ∷ []) (line_at form (n - (i + 1)) after) ≡ total
unfolding line_at
line_on form n i text after front x total lt h so_far =
    let k : n - i ≡ suc (n - suc i) = omega arith in
    let stop : n - i - 1 ≡ n - suc i = omega arith in
    let here = rw stop at h in
    let one : behind front (line_at form (n - i) text) ≡ behind (front ++ x ∷ []) (line_at form (n - suc i) after) = rw (k, here) (regroup front x (line_at form (n - suc i) after)) in
    rw add-one (sym one ∙ so_far)

-- no value could be read
pub line_bad : {A : Type 0} (form : Front A) (n i : ℕ) (text : Text) (front : List A) (total : Option (List A × Text)) → i < n →
    field_at form (stop_before (n - i - 1)) text ≡ None → behind front (line_at form (n - i) text) ≡ total → total ≡ None
unfolding line_at
line_bad form n i text front total lt h so_far =
    let k : n - i ≡ suc (n - suc i) = omega arith in
    let stop : n - i - 1 ≡ n - suc i = omega arith in
    let here = rw stop at h in
    let one : behind front (line_at form (n - i) text) ≡ None = rw (k, here) refl in
    sym so_far ∙ one

-- all values were read
pub line_end : {A : Type 0} (form : Front A) (n i : ℕ) (text : Text) (front : List A) (total : Option (List A × Text)) → n ≤ i →
    behind front (line_at form (n - i) text) ≡ total → total ≡ Some (front, text)
unfolding line_at some_pair
line_end form n i text front total le so_far =
    let k : n - i ≡ 0 = omega arith in
    let one : behind front (line_at form (n - i) text) ≡ Some (front, text) = rw k (ap (λ (xs : List _). some_pair xs text) (append-nil front)) in
    sym so_far ∙ one
