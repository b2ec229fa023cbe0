-- Lists of fields of one form.
use Rattle.std.proofs.Common.{◌≡◌, ℕ, zero, suc, ◌+◌, ◌*◌, List, [], ◌∷◌, ◌++◌, length, Result, Ok, refl, ap, subst, ◌∙◌, append_assoc, arith}
use Rattle.std.specs.Prelude.{FitsSigned}
use Rattle.std.specs.Int.{w64}
use Rattle.std.specs.List.{flat_map, AllByRecursion}
use Rattle.std.proofs.lemmas.List.{length-append}
use Rattle.std.proofs.lemmas.List.Concat.{flat_map-cons}
use Rattle.byte_fields.specs.Reading.{Reading, ◌>>=◌, list_at, signed_at, signed_text}
use Rattle.byte_fields.proofs.Numbers.{signed_takes, signed_again}
use Rattle.byte_fields.specs.Readers.{IsBytes}
use Rattle.byte_fields.proofs.Steps.{done, ok_is, bind_ok, bind_is, Takes, Takes-nothing, Takes-then}

-- a field of which each value has one spelling, where P holds of it
pub record IsField {A : Type 0} (item : List ℕ → Reading A) (text : A → List ℕ) (P : A → Type 0) : Type 0 where
  pub takes : (bytes : List ℕ) (x : A) (rest : List ℕ) → IsBytes bytes → item bytes ≡ Ok (x, rest) → Takes bytes (text x) rest × P x
  pub again : (x : A) (rest : List ℕ) → P x → item (text x ++ rest) ≡ Ok (x, rest)

-- n values were taken
pub record ListRead {A : Type 0} (text : A → List ℕ) (P : A → Type 0) (bytes : List ℕ) (n : ℕ) (xs : List A) (rest : List ℕ) : Type 0 where
  pub takes : Takes bytes (flat_map text xs) rest
  pub len : length xs ≡ n
  pub each : AllByRecursion P xs

pub list_takes : {A : Type 0} (item : List ℕ → Reading A) (text : A → List ℕ) (P : A → Type 0) → IsField item text P → (n : ℕ) (bytes : List ℕ) (x : List A × List ℕ) → IsBytes bytes → list_at item n bytes ≡ Ok x → ListRead text P bytes n x.0 x.1
list_takes {A} item text P field zero bytes x fits e =
    subst (λ (y : List A × List ℕ). ListRead text P bytes 0 y.0 y.1) (ok_is ([], bytes) x e) (record { takes = Takes-nothing bytes fits; len = refl; each = tt })
list_takes {A} item text P field (suc n) bytes x fits e =
    let a = bind_ok (item bytes) (λ y. list_at item n y.1 >>= λ more. Ok (y.0 ∷ more.0, more.1)) x e in
    let b = bind_ok (list_at item n a.0.1) (λ more. Ok (a.0.0 ∷ more.0, more.1)) x a.2 in
    let first = field.takes bytes a.0.0 a.0.1 fits a.1 in
    let second = list_takes item text P field n a.0.1 b.0 first.0.rest_fits b.1 in
    let both = Takes-then bytes (text a.0.0) a.0.1 (flat_map text b.0.0) b.0.1 first.0 second.takes in
    let made : List A × List ℕ = (a.0.0 ∷ b.0.0, b.0.1) in
    subst (λ (y : List A × List ℕ). ListRead text P bytes (suc n) y.0 y.1) (ok_is made x b.2) (record { takes = rw flat_map-cons both; len = ap suc second.len; each = (first.1, second.each) })

-- the first text, and then the others
pub flat_map-front : {A : Type 0} (text : A → List ℕ) (x : A) (xs : List A) (rest : List ℕ) → flat_map text (x ∷ xs) ++ rest ≡ text x ++ (flat_map text xs ++ rest)
flat_map-front text x xs rest = ap (λ (t : List ℕ). t ++ rest) (flat_map-cons text x xs) ∙ append_assoc (text x) (flat_map text xs) rest

pub list_again : {A : Type 0} (item : List ℕ → Reading A) (text : A → List ℕ) (P : A → Type 0) → IsField item text P → (xs : List A) (rest : List ℕ) → AllByRecursion P xs → list_at item (length xs) (flat_map text xs ++ rest) ≡ Ok (xs, rest)
list_again item text P field [] rest each = refl
list_again item text P field (x ∷ xs) rest each =
    let first = field.again x (flat_map text xs ++ rest) each.0 in
    let others = list_again item text P field xs rest each.1 in
    ap (list_at item (suc (length xs))) (flat_map-front text x xs rest)
    ∙ bind_is (item (text x ++ (flat_map text xs ++ rest))) (x, flat_map text xs ++ rest) (λ y. list_at item (length xs) y.1 >>= λ more. Ok (y.0 ∷ more.0, more.1)) first
    ∙ bind_is (list_at item (length xs) (flat_map text xs ++ rest)) (xs, rest) (λ more. Ok (x ∷ more.0, more.1)) others

pub length-flat_map : {A : Type 0} (text : A → List ℕ) (width : ℕ) → ((x : A) → length (text x) ≡ width) → (xs : List A) → length (flat_map text xs) ≡ width * length xs
length-flat_map text width each [] = omega arith
length-flat_map text width each (x ∷ xs) = rw flat_map-cons (omega (arith, length-append (text x) (flat_map text xs), each x, length-flat_map text width each xs))

-- a number with a sign is such a field
pub signed_field : IsField signed_at signed_text (FitsSigned w64)
signed_field = record {
  takes = λ bytes z rest fits e. let t = signed_takes bytes z rest fits e in (t.takes, t.fits);
  again = signed_again;
}
