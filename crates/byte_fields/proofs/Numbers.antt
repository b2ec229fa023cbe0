-- A field that is read was spelled so, and what is spelled is read again.
use Rattle.std.proofs.Common.{◌≡◌, ℕ, ◌+◌, ◌^◌, ◌<◌, ◌≤◌, ℤ, Bool, true, List, [], ◌∷◌, ◌++◌, length, get_or, take, drop, leb, Result, Ok, refl, sym, ap, subst, ◌∙◌, arith, rules, w64, SFits}
use Rattle.std.specs.Prelude.{FitsSigned, nat_le, nat_eq}
use Rattle.std.specs.Cmp.Lexicographic.{pointwise}
use Rattle.std.specs.Int.{Width, w8, w16, w32, byte_len, to_be_bytes, from_be_bytes, cast_signed, cast_unsigned}
use Rattle.std.proofs.lemmas.Bool.{leb-true, le-leb}
use Rattle.std.proofs.lemmas.List.{take_at, drop_at, take-append-drop, length-append, length-take}
use Rattle.std.proofs.lemmas.Nat.{be_bytes_2, be_bytes_4, be_bytes_8, from_be_bytes-to_be_bytes_2, from_be_bytes-to_be_bytes_4, from_be_bytes-to_be_bytes_8}
use Rattle.std.proofs.lemmas.Slice.Eq.{bytes_eq-Decides}
use Rattle.std.proofs.lemmas.Int.{ints, to_z-of_z, of_z-to_z}
use Rattle.byte_fields.specs.Reading.{Reading, ◌>>=◌, wanted, number_at, signed_at, bytes_at, magic_at, signed_text}
use Rattle.byte_fields.specs.Readers.{IsBytes}
use Rattle.byte_fields.proofs.Steps.{IsBytes-drop, IsBytes-take, done, ok_is, bind_ok, bind_is, wanted_ok, wanted_is, Takes}

-- ---- bytes

-- so many bytes were taken
pub record BytesRead (bytes : List ℕ) (n : ℕ) (front rest : List ℕ) : Type 0 where
  pub takes : Takes bytes front rest
  pub len : length front ≡ n
  pub front_fits : IsBytes front

pub bytes_takes : (n : ℕ) (bytes front rest : List ℕ) → IsBytes bytes → bytes_at n bytes ≡ Ok (front, rest) → BytesRead bytes n front rest
bytes_takes n bytes front rest fits e =
    let g = wanted_ok (nat_le n (length bytes)) bytes (done (take n bytes, drop n bytes)) (front, rest) e in
    let long : n ≤ length bytes = leb-true n (length bytes) g.0 in
    subst (λ (p : List ℕ × List ℕ). BytesRead bytes n p.0 p.1) (ok_is (take n bytes, drop n bytes) (front, rest) g.1) (record {
      takes = record { parts = sym (take-append-drop n bytes); rest_fits = IsBytes-drop n bytes fits };
      len = omega (arith, length-take n bytes);
      front_fits = IsBytes-take n bytes fits;
    })

pub bytes_again : (front rest : List ℕ) → bytes_at (length front) (front ++ rest) ≡ Ok (front, rest)
bytes_again front rest =
    let long : nat_le (length front) (length (front ++ rest)) ≡ true = le-leb _ _ (omega (arith, length-append front rest)) in
    rw (long, take_at front rest (length front) refl, drop_at front rest (length front) refl) refl

-- ---- numbers without a sign

-- a width: numbers below `limit` have one spelling of so many bytes
pub record IsWide (w : Width) (limit : ℕ) : Type 0 where
  pub len : (n : ℕ) → length (to_be_bytes w n) ≡ byte_len w
  pub back : (bytes : List ℕ) → length bytes ≡ byte_len w → IsBytes bytes → to_be_bytes w (from_be_bytes w bytes) ≡ bytes
  pub again : (n : ℕ) → n < limit → from_be_bytes w (to_be_bytes w n) ≡ n
  pub below : (bytes : List ℕ) → IsBytes bytes → from_be_bytes w bytes < limit

pub wide16 : IsWide w16 (2 ^ 16)
wide16 = record {
  len = λ n. refl;
  back = λ bytes len fits. be_bytes_2 bytes _ len fits refl;
  again = λ n lt. from_be_bytes-to_be_bytes_2 n lt;
  below = λ bytes fits. omega (arith, fits 0, fits 1);
}

pub wide32 : IsWide w32 (2 ^ 32)
wide32 = record {
  len = λ n. refl;
  back = λ bytes len fits. be_bytes_4 bytes _ len fits refl;
  again = λ n lt. from_be_bytes-to_be_bytes_4 n lt;
  below = λ bytes fits. omega (arith, fits 0, fits 1, fits 2, fits 3);
}

pub wide64 : IsWide w64 (2 ^ 64)
wide64 = record {
  len = λ n. refl;
  back = λ bytes len fits. be_bytes_8 bytes _ len fits refl;
  again = λ n lt. from_be_bytes-to_be_bytes_8 n lt;
  below = λ bytes fits. omega (arith, fits 0, fits 1, fits 2, fits 3, fits 4, fits 5, fits 6, fits 7);
}

-- a number was taken
pub record NumberRead (w : Width) (limit : ℕ) (bytes : List ℕ) (n : ℕ) (rest : List ℕ) : Type 0 where
  pub takes : Takes bytes (to_be_bytes w n) rest
  pub below : n < limit

pub number_takes : (w : Width) (limit : ℕ) (wide : IsWide w limit) (bytes : List ℕ) (n : ℕ) (rest : List ℕ) → IsBytes bytes → number_at w bytes ≡ Ok (n, rest) → NumberRead w limit bytes n rest
number_takes w limit wide bytes n rest fits e =
    let g = wanted_ok (nat_le (byte_len w) (length bytes)) bytes (done (from_be_bytes w (take (byte_len w) bytes), drop (byte_len w) bytes)) (n, rest) e in
    let long : byte_len w ≤ length bytes = leb-true _ _ g.0 in
    let front : to_be_bytes w (from_be_bytes w (take (byte_len w) bytes)) ≡ take (byte_len w) bytes = wide.back (take (byte_len w) bytes) (omega (arith, length-take (byte_len w) bytes)) (IsBytes-take (byte_len w) bytes fits) in
    subst (λ (p : ℕ × List ℕ). NumberRead w limit bytes p.0 p.1) (ok_is (from_be_bytes w (take (byte_len w) bytes), drop (byte_len w) bytes) (n, rest) g.1) (record {
      takes = record { parts = sym (take-append-drop (byte_len w) bytes) ∙ ap (λ (t : List ℕ). t ++ drop (byte_len w) bytes) (sym front); rest_fits = IsBytes-drop (byte_len w) bytes fits };
      below = wide.below (take (byte_len w) bytes) (IsBytes-take (byte_len w) bytes fits);
    })

pub number_again : (w : Width) (limit : ℕ) (wide : IsWide w limit) (n : ℕ) (rest : List ℕ) → n < limit → number_at w (to_be_bytes w n ++ rest) ≡ Ok (n, rest)
number_again w limit wide n rest lt =
    let len = wide.len n in
    let long : nat_le (byte_len w) (length (to_be_bytes w n ++ rest)) ≡ true = le-leb _ _ (omega (arith, length-append (to_be_bytes w n) rest)) in
    rw (long, take_at (to_be_bytes w n) rest (byte_len w) len, drop_at (to_be_bytes w n) rest (byte_len w) len, wide.again n lt) refl

-- a byte was taken
pub record ByteRead (bytes : List ℕ) (n : ℕ) (rest : List ℕ) : Type 0 where
  pub takes : Takes bytes (n ∷ []) rest
  pub below : n < 256

pub byte_takes : (bytes : List ℕ) (n : ℕ) (rest : List ℕ) → IsBytes bytes → number_at w8 bytes ≡ Ok (n, rest) → ByteRead bytes n rest
byte_takes [] n rest fits e = absurd cc
byte_takes (b ∷ bytes) n rest fits e =
    let g = wanted_ok (nat_le 1 (length (b ∷ bytes))) (b ∷ bytes) (done (from_be_bytes w8 (b ∷ []), bytes)) (n, rest) e in
    let same : from_be_bytes w8 (b ∷ []) ≡ b = omega arith in
    subst (λ (p : ℕ × List ℕ). ByteRead (b ∷ bytes) p.0 p.1) (ok_is (from_be_bytes w8 (b ∷ []), bytes) (n, rest) g.1) (rw same (record {
      takes = record { parts = refl; rest_fits = IsBytes-drop 1 (b ∷ bytes) fits };
      below = fits 0;
    }))

pub byte_again : (n : ℕ) (rest : List ℕ) → number_at w8 (n ∷ rest) ≡ Ok (n, rest)
byte_again n rest =
    let long : nat_le 1 (length (n ∷ rest)) ≡ true = le-leb _ _ (omega arith) in
    let same : from_be_bytes w8 (n ∷ []) ≡ n = omega arith in
    rw (long, same) refl

-- ---- numbers with a sign

-- a number with a sign was taken
pub record SignedRead (bytes : List ℕ) (z : ℤ) (rest : List ℕ) : Type 0 where
  pub takes : Takes bytes (signed_text z) rest
  pub fits : FitsSigned w64 z

signed_fits : (n : ℕ) → n < 2 ^ 64 → FitsSigned w64 (cast_signed w64 n)
signed_fits n lt = search (rules, ints)

unsigned_below : (z : ℤ) → FitsSigned w64 z → cast_unsigned w64 z < 2 ^ 64
unsigned_below z fits = omega (arith, ints)

pub signed_takes : (bytes : List ℕ) (z : ℤ) (rest : List ℕ) → IsBytes bytes → signed_at bytes ≡ Ok (z, rest) → SignedRead bytes z rest
unfolding signed_text
signed_takes bytes z rest fits e =
    let a = bind_ok (number_at w64 bytes) (λ m. Ok (cast_signed w64 m.0, m.1)) (z, rest) e in
    let t = number_takes w64 (2 ^ 64) wide64 bytes a.0.0 a.0.1 fits a.1 in
    let same : cast_unsigned w64 (cast_signed w64 a.0.0) ≡ a.0.0 = of_z-to_z w64 a.0.0 t.below in
    let made : ℤ × List ℕ = (cast_signed w64 a.0.0, a.0.1) in
    subst (λ (p : ℤ × List ℕ). SignedRead bytes p.0 p.1) (ok_is made (z, rest) a.2) (record { takes = rw same t.takes; fits = signed_fits a.0.0 t.below })

pub signed_again : (z : ℤ) (rest : List ℕ) → FitsSigned w64 z → signed_at (signed_text z ++ rest) ≡ Ok (z, rest)
unfolding signed_text
signed_again z rest fits = rw (number_again w64 (2 ^ 64) wide64 (cast_unsigned w64 z) rest (unsigned_below z fits), to_z-of_z w64 z fits) refl

pub length-signed_text : (z : ℤ) → length (signed_text z) ≡ 8
unfolding signed_text
length-signed_text z = refl

-- ---- a magic

pub magic_takes : (magic bytes front rest : List ℕ) → IsBytes bytes → magic_at magic bytes ≡ Ok (front, rest) → Takes bytes magic rest
magic_takes magic bytes front rest fits e =
    let a = bind_ok (bytes_at (length magic) bytes) (λ m. wanted (pointwise nat_eq m.0 magic) bytes (Ok m)) (front, rest) e in
    let g = wanted_ok (pointwise nat_eq a.0.0 magic) bytes (done a.0) (front, rest) a.2 in
    let t = bytes_takes (length magic) bytes a.0.0 a.0.1 fits a.1 in
    let same : a.0.0 ≡ magic = (bytes_eq-Decides a.0.0 magic).0 g.0 in
    let after : a.0.1 ≡ rest = ap (λ (p : List ℕ × List ℕ). p.1) (ok_is a.0 (front, rest) g.1) in
    subst (λ (r : List ℕ). Takes bytes magic r) after (subst (λ (m : List ℕ). Takes bytes m a.0.1) same t.takes)

pub magic_again : (magic rest : List ℕ) → magic_at magic (magic ++ rest) ≡ Ok (magic, rest)
magic_again magic rest =
    let same : pointwise nat_eq magic magic ≡ true = (bytes_eq-Decides magic magic).1 refl in
    bind_is (bytes_at (length magic) (magic ++ rest)) (magic, rest) (λ m. wanted (pointwise nat_eq m.0 magic) (magic ++ rest) (Ok m)) (bytes_again magic rest)
    ∙ wanted_is (pointwise nat_eq magic magic) (magic ++ rest) (done (magic, rest)) same
