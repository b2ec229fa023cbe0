-- Bytes of which none breaks a rule are a name.
use Rattle.std.proofs.Common.{◌≡◌, ℕ, ◌≤◌, Bool, true, false, cond, not, List, length, get_or, Some, None, refl, arith, inl, inr}
use Rattle.std.specs.Prelude.{nat_lt, nat_le}
use Rattle.std.specs.List.{position, position_or_len, list_all}
use Rattle.std.specs.Str.{IsUtf8}
use Rattle.std.proofs.lemmas.Str.{IsUtf8-from_ascii}
use Rattle.std.proofs.lemmas.List.{get_or_past}
use Rattle.std.proofs.lemmas.List.Sums.{fails_before_first, AllPass-from_list_all}
use Rattle.std.proofs.lemmas.Bool.{cases_lt, and_parts, leb-true, ltb-false}
use Rattle.key_kind.specs.Names.{IsName, is_graphic}

-- no element passes before a first one that is not there
none_before : {X : Type 0} (p : X → Bool) (xs : List X) → position p xs ≡ None → length xs ≤ position_or_len p xs
none_before p xs none =
    elim (nat_lt (position_or_len p xs) (length xs)) as (λ b. nat_lt (position_or_len p xs) (length xs) ≡ b → cond b (Some (position_or_len p xs)) None ≡ None → length xs ≤ position_or_len p xs) [
      | true ↦ λ e some. absurd (cc)
      | false ↦ λ e same. ltb-false _ _ e
    ] refl none

graphic_from : (b : Bool) → not b ≡ false → b ≡ true
graphic_from true e = refl
graphic_from false e = absurd (cc)

-- bytes of a good length, none of which is bad
pub IsName-from : (bytes : List ℕ) → 1 ≤ length bytes → length bytes ≤ 255 → position (λ c. not (is_graphic c)) bytes ≡ None → IsName bytes
IsName-from bytes some most good = record {
  some = some;
  most = most;
  graphic = λ k d h.
      let at : not (is_graphic (get_or bytes k d)) ≡ false = fails_before_first (λ c. not (is_graphic c)) bytes k d (omega (arith, none_before (λ c. not (is_graphic c)) bytes good)) in
      let both = and_parts (nat_le 0x21 (get_or bytes k d)) (nat_le (get_or bytes k d) 0x7E) (graphic_from _ at) in
      (leb-true _ _ both.0, leb-true _ _ both.1);
}

-- graphic bytes are a text
pub IsUtf8-graphic : (bytes : List ℕ) → list_all is_graphic bytes ≡ true → IsUtf8 bytes
IsUtf8-graphic bytes all = IsUtf8-from_ascii bytes (λ i.
    elim (cases_lt i (length bytes)) [
      | inl lt ↦ let both = and_parts (nat_le 0x21 (get_or bytes i 0)) (nat_le (get_or bytes i 0) 0x7E) (AllPass-from_list_all is_graphic bytes all i 0 lt) in omega (arith, leb-true _ _ both.1)
      | inr le ↦ rw (get_or_past bytes i 0 le) (omega arith)
    ])
