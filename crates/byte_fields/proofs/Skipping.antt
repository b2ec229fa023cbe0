-- Loops that read a list of fields and keep none of them.
use Rattle.std.proofs.Common.{◌≡◌, ℕ, zero, suc, ◌+◌, ◌-◌, ◌*◌, ◌%◌, ◌<◌, ◌≤◌, List, [], ◌∷◌, length, take, drop, leb, true, false, Result, Ok, Err, refl, sym, ap, subst, ◌∙◌, arith, inl, inr, w64}
use Rattle.std.specs.Prelude.{nat_le}
use Rattle.std.specs.Int.{from_be_bytes, cast_signed}
use Rattle.std.proofs.lemmas.Bool.{cases_lt, le-leb, lt-leb}
use Rattle.std.proofs.lemmas.List.{length-drop, drop-drop}
use Rattle.byte_fields.specs.Reading.{Reading, ◌>>=◌, number_at, signed_at, list_at}
use Rattle.byte_fields.specs.Readers.{seen_by, rest_of}
use Rattle.byte_fields.proofs.Steps.{seen_ok, seen_err}

-- the rest does not depend on what is kept
rest_kept : {A : Type 0} (x : A) (r : Reading (List A)) → rest_of (r >>= λ more. Ok (x ∷ more.0, more.1)) ≡ rest_of r
rest_kept x (Ok more) = refl
rest_kept x (Err left) = refl

pub rest-list_at : {A : Type 0} (item : List ℕ → Reading A) (n : ℕ) (bytes : List ℕ) → rest_of (list_at item (suc n) bytes) ≡ (rest_of (item bytes) >>= λ rest. rest_of (list_at item n rest))
rest-list_at {A} item n bytes =
    elim (item bytes) as (λ r. rest_of (r >>= λ x. list_at item n x.1 >>= λ more. Ok (x.0 ∷ more.0, more.1)) ≡ (rest_of r >>= λ rest. rest_of (list_at item n rest))) [
      | Ok x ↦ rest_kept x.0 (list_at item n x.1)
      | Err left ↦ refl
    ]

-- one field more is passed
pub list_on : {A : Type 0} (item : List ℕ → Reading A) (n i : ℕ) (bytes rest : List ℕ) (total : Result (List ℕ) ℕ) → i < n → rest_of (item bytes) ≡ Ok rest → rest_of (list_at item (n - i) bytes) ≡ total → rest_of (list_at item (n - (i + 1)) rest) ≡ total
list_on item n i bytes rest total lt h so_far =
    let k : n - i ≡ suc (n - (i + 1)) = omega arith in
    sym (ap (λ (m : ℕ). rest_of (list_at item m bytes)) k ∙ rest-list_at item (n - (i + 1)) bytes ∙ ap (λ r. r >>= λ after. rest_of (list_at item (n - (i + 1)) after)) h) ∙ so_far

-- a field is at fault
pub list_fails : {A : Type 0} (item : List ℕ → Reading A) (n i : ℕ) (bytes : List ℕ) (left : ℕ) (total : Result (List ℕ) ℕ) → i < n → rest_of (item bytes) ≡ Err left → rest_of (list_at item (n - i) bytes) ≡ total → total ≡ Err left
list_fails item n i bytes left total lt h so_far =
    let k : n - i ≡ suc (n - (i + 1)) = omega arith in
    sym so_far ∙ ap (λ (m : ℕ). rest_of (list_at item m bytes)) k ∙ rest-list_at item (n - (i + 1)) bytes ∙ ap (λ r. r >>= λ after. rest_of (list_at item (n - (i + 1)) after)) h

-- all are passed
pub list_ends : {A : Type 0} (item : List ℕ → Reading A) (n i : ℕ) (bytes : List ℕ) (total : Result (List ℕ) ℕ) → n ≤ i → rest_of (list_at item (n - i) bytes) ≡ total → total ≡ Ok bytes
list_ends item n i bytes total le so_far = let k : n - i ≡ 0 = omega arith in sym so_far ∙ ap (λ (m : ℕ). rest_of (list_at item m bytes)) k

-- fields that leave the same leave the same in a list
pub same_rests : {A B : Type 0} (item : List ℕ → Reading A) (other : List ℕ → Reading B) → ((bytes : List ℕ) → rest_of (item bytes) ≡ rest_of (other bytes)) → (n : ℕ) (bytes : List ℕ) → rest_of (list_at item n bytes) ≡ rest_of (list_at other n bytes)
same_rests item other same zero bytes = refl
same_rests item other same (suc n) bytes =
    rest-list_at item n bytes ∙ ap (λ r. r >>= λ rest. rest_of (list_at item n rest)) (same bytes)
    ∙ (elim (rest_of (other bytes)) as (λ r. (r >>= λ rest. rest_of (list_at item n rest)) ≡ (r >>= λ rest. rest_of (list_at other n rest))) [
      | Ok rest ↦ same_rests item other same n rest
      | Err left ↦ refl
    ])
    ∙ sym (rest-list_at other n bytes)

-- ---- numbers of eight bytes each, that are passed at once

signed_short : (bytes : List ℕ) → length bytes < 8 → rest_of (signed_at bytes) ≡ Err (length bytes)
signed_short bytes lt = let no : nat_le 8 (length bytes) ≡ false = lt-leb _ _ lt in rw no refl

signed_long : (bytes : List ℕ) → 8 ≤ length bytes → rest_of (signed_at bytes) ≡ Ok (drop 8 bytes)
signed_long bytes le = let ok : nat_le 8 (length bytes) ≡ true = le-leb _ _ le in rw ok refl

pub numbers_short : (n : ℕ) (bytes : List ℕ) → length bytes < 8 * n → rest_of (list_at signed_at n bytes) ≡ Err (length bytes % 8)
numbers_short zero bytes lt = absurd (omega arith)
numbers_short (suc n) bytes lt =
    rest-list_at signed_at n bytes
    ∙ (elim (cases_lt (length bytes) 8) [
      | inl small ↦ let same : length bytes % 8 ≡ length bytes = omega arith in ap (λ r. r >>= λ rest. rest_of (list_at signed_at n rest)) (signed_short bytes small) ∙ ap (λ (k : ℕ). Err k) (sym same)
      | inr large ↦ let left : length (drop 8 bytes) ≡ length bytes - 8 = length-drop 8 bytes in
          let same : length (drop 8 bytes) % 8 ≡ length bytes % 8 = omega arith in
          ap (λ r. r >>= λ rest. rest_of (list_at signed_at n rest)) (signed_long bytes large) ∙ numbers_short n (drop 8 bytes) (omega arith) ∙ ap (λ (k : ℕ). Err k) same
    ])

pub numbers_long : (n : ℕ) (bytes : List ℕ) → 8 * n ≤ length bytes → rest_of (list_at signed_at n bytes) ≡ Ok (drop (8 * n) bytes)
numbers_long zero bytes le = refl
numbers_long (suc n) bytes le =
    let left : length (drop 8 bytes) ≡ length bytes - 8 = length-drop 8 bytes in
    let eights : 8 + 8 * n ≡ 8 * suc n = omega arith in
    rest-list_at signed_at n bytes
    ∙ ap (λ r. r >>= λ rest. rest_of (list_at signed_at n rest)) (signed_long bytes (omega arith))
    ∙ numbers_long n (drop 8 bytes) (omega arith)
    ∙ ap (λ (t : List ℕ). Ok t) (drop-drop (8 * n) 8 bytes ∙ ap (λ (k : ℕ). drop k bytes) eights)
