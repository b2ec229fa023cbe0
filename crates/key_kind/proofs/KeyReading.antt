-- A spelled key is read again, whatever follows; and what is read as a key was spelled so.
use Rattle.std.proofs.Common.{◌≡◌, ℕ, ◌^◌, ℤ, pos, Bool, true, false, cond, ◌||◌, List, [], ◌∷◌, ◌++◌, ◌+◌, ◌-◌, length, drop, refl, sym, ap, subst, ◌∙◌, append_assoc, arith, Ok, Some, None, Option, nat_eq, rules}
use Rattle.std.specs.Int.{w8, w32, w64, to_be_bytes}
use Rattle.std.specs.Prelude.{nat_le, find}
use Rattle.std.specs.List.{list_all}
use Rattle.std.specs.Ordering.{int_eq}
use Rattle.std.proofs.lemmas.List.{append-nil, length-append, drop_at}
use Rattle.std.proofs.lemmas.List.Sums.{list_all-from_AllPass, AllPass-from_list_all}
use Rattle.std.proofs.lemmas.Bool.Decides.{Decides-int_eq}
use Rattle.std.proofs.lemmas.Bool.{and_from, and_parts, eq-eqb, eqb-true, le-leb, leb-true}
use Rattle.byte_fields.specs.Reading.{Reading, wanted, number_at, signed_at, bytes_at, signed_text}
use Rattle.byte_fields.specs.Readers.{IsBytes}
use Rattle.byte_fields.proofs.Steps.{done, ok_is, bind_ok, bind_is, wanted_ok, wanted_is, Takes, Takes-then}
use Rattle.byte_fields.proofs.Numbers.{bytes_takes, bytes_again, byte_takes, byte_again, wide32, wide64, number_takes, number_again, signed_takes, signed_again}
use Rattle.key_kind.specs.declared.key.KeyKind.{KeyKind}
use Rattle.key_kind.specs.declared.key.Key.{Key}
use Rattle.key_kind.specs.Names.{Name, IsName, is_graphic}
use Rattle.key_kind.specs.Keys.{IsKey, FitsFields, kind_code, same_kind, is_put, has_version, has_stamps}
use Rattle.key_kind.specs.KeyText.{key_text, name_text, key_at, key_of_at, kind_at, kind_found, kind_of, all_kinds, name_at, zero_unless, int_zero_unless}
use Rattle.key_kind.proofs.KeyTests.{kind_back, same_kind_is}

-- ---- a spelled field is read again

-- a kind
kind_again : (kind : KeyKind) (rest : List ℕ) → kind_at (kind_code kind ∷ rest) ≡ Ok (kind, rest)
kind_again kind rest =
    bind_is (number_at w8 (kind_code kind ∷ rest)) (kind_code kind, rest) (λ code. kind_found (kind_code kind ∷ rest) code.1 (kind_of code.0)) (byte_again (kind_code kind) rest)
    ∙ ap (kind_found (kind_code kind ∷ rest) rest) (kind_back kind)

-- a number that may have to be 0
zero_again : (free : Bool) (field : List ℕ) (reading : Reading ℕ) (n : ℕ) (rest : List ℕ) → reading ≡ Ok (n, rest) → (free || nat_eq n 0) ≡ true → zero_unless free field reading ≡ Ok (n, rest)
zero_again free field reading n rest e rule =
    bind_is reading (n, rest) (λ x. wanted (free || nat_eq x.0 0) field (Ok x)) e ∙ wanted_is (free || nat_eq n 0) field (Ok (n, rest)) rule

-- a signed number that may have to be 0
int_zero_again : (free : Bool) (field : List ℕ) (reading : Reading ℤ) (n : ℤ) (rest : List ℕ) → reading ≡ Ok (n, rest) → (free || int_eq n (pos 0)) ≡ true → int_zero_unless free field reading ≡ Ok (n, rest)
int_zero_again free field reading n rest e rule =
    bind_is reading (n, rest) (λ x. wanted (free || int_eq x.0 (pos 0)) field (Ok x)) e ∙ wanted_is (free || int_eq n (pos 0)) field (Ok (n, rest)) rule

-- a name
pub name_again : (name rest : List ℕ) → IsName name → name_at (length name ∷ (name ++ rest)) ≡ Ok (name, rest)
name_again name rest rules =
    bind_is (number_at w8 (length name ∷ (name ++ rest))) (length name, name ++ rest) _ (byte_again (length name) (name ++ rest))
    ∙ (bind_is (wanted (nat_le 1 (length name)) (length name ∷ (name ++ rest)) (bytes_at (length name) (name ++ rest))) (name, rest) _
    (wanted_is (nat_le 1 (length name)) _ (bytes_at (length name) (name ++ rest)) (le-leb 1 (length name) rules.some) ∙ bytes_again name rest)
    ∙ wanted_is (list_all is_graphic name) (name ++ rest) (Ok (name, rest)) graphic)
  where
    graphic : list_all is_graphic name ≡ true
    graphic = list_all-from_AllPass is_graphic name (λ k d h. let r = rules.graphic k d h in and_from _ _ (le-leb 0x21 _ r.0) (le-leb _ 0x7E r.1))

-- a number is 0, unless it may be another
free_or_zero : (free : Bool) (n : ℕ) → (free ≡ false → n ≡ 0) → (free || nat_eq n 0) ≡ true
free_or_zero true n rule = refl
free_or_zero false n rule = eq-eqb n 0 (rule refl)

-- a signed number is 0, unless it may be another
free_or_int_zero : (free : Bool) (n : ℤ) → (free ≡ false → n ≡ pos 0) → (free || int_eq n (pos 0)) ≡ true
free_or_int_zero true n rule = refl
free_or_int_zero false n rule = (Decides-int_eq n (pos 0)).1 (rule refl)

-- a key, whatever follows
pub key_again : (k : Key) (rest : List ℕ) → IsKey k → FitsFields k → key_at (key_text k ++ rest) ≡ Ok (k, rest)
unfolding key_at key_text
key_again k rest rules fits =
    let t6 = signed_text k.last ++ rest in
    let t5 = signed_text k.first ++ t6 in
    let t4 = to_be_bytes w64 k.version ++ t5 in
    let t3 = to_be_bytes w64 k.serial ++ t4 in
    let t2 = to_be_bytes w32 k.client ++ t3 in
    let t1 = length k.name ∷ (k.name ++ t2) in
    let whole : key_text k ++ rest ≡ kind_code k.kind ∷ t1 = ap (λ xs. kind_code k.kind ∷ length k.name ∷ xs) (regrouped k.name (to_be_bytes w32 k.client) (to_be_bytes w64 k.serial) (to_be_bytes w64 k.version) (signed_text k.first) (signed_text k.last) rest) in
    ap key_at whole
    ∙ (bind_is (kind_at (kind_code k.kind ∷ t1)) (k.kind, t1) _ (kind_again k.kind t1)
    ∙ (bind_is (name_at t1) (k.name, t2) _ (name_again k.name t2 rules.name)
    ∙ (bind_is (zero_unless (is_put k.kind) t2 (number_at w32 t2)) (k.client, t3) _ (zero_again (is_put k.kind) t2 (number_at w32 t2) k.client t3 (number_again w32 (2 ^ 32) wide32 k.client t3 fits.client) (free_or_zero (is_put k.kind) k.client (λ e. (rules.made e).0)))
    ∙ (bind_is (zero_unless (is_put k.kind) t3 (number_at w64 t3)) (k.serial, t4) _ (zero_again (is_put k.kind) t3 (number_at w64 t3) k.serial t4 (number_again w64 (2 ^ 64) wide64 k.serial t4 fits.serial) (free_or_zero (is_put k.kind) k.serial (λ e. (rules.made e).1)))
    ∙ (bind_is (zero_unless (has_version k.kind) t4 (number_at w64 t4)) (k.version, t5) _ (zero_again (has_version k.kind) t4 (number_at w64 t4) k.version t5 (number_again w64 (2 ^ 64) wide64 k.version t5 fits.version) (free_or_zero (has_version k.kind) k.version rules.version))
    ∙ (bind_is (int_zero_unless (has_stamps k.kind) t5 (signed_at t5)) (k.first, t6) _ (int_zero_again (has_stamps k.kind) t5 (signed_at t5) k.first t6 (signed_again k.first t6 fits.first) (free_or_int_zero (has_stamps k.kind) k.first (λ e. (rules.stamps e).0)))
    ∙ bind_is (int_zero_unless (has_stamps k.kind) t6 (signed_at t6)) (k.last, rest) _ (int_zero_again (has_stamps k.kind) t6 (signed_at t6) k.last rest (signed_again k.last rest fits.last) (free_or_int_zero (has_stamps k.kind) k.last (λ e. (rules.stamps e).1)))))))))
  where
    regrouped : (a b c d e f g : List ℕ) → (((((a ++ b) ++ c) ++ d) ++ e) ++ f) ++ g ≡ a ++ (b ++ (c ++ (d ++ (e ++ (f ++ g)))))
    regrouped a b c d e f g = simp append_assoc

-- ---- a field that is read was spelled so

-- the kind that is found has this number
kind_code-found : (code : ℕ) (kinds : List KeyKind) (kind : KeyKind) → find (λ k. nat_eq (kind_code k) code) kinds ≡ Some kind → kind_code kind ≡ code
kind_code-found code [] kind e = absurd cc
kind_code-found code (k ∷ ks) kind e =
    elim (nat_eq (kind_code k) code) as (λ b. nat_eq (kind_code k) code ≡ b → cond b (Some k) (find (λ x. nat_eq (kind_code x) code) ks) ≡ Some kind → kind_code kind ≡ code) [
      | true ↦ λ same found. subst (λ x. kind_code x ≡ code) (some_is k kind found) (eqb-true (kind_code k) code same)
      | false ↦ λ same found. kind_code-found code ks kind found
    ] refl e
  where
    some_is : (a b : KeyKind) → Some a ≡ Some b → a ≡ b
    some_is a b e = cc

-- a kind
kind_takes : (bytes : List ℕ) (kind : KeyKind) (rest : List ℕ) → IsBytes bytes → kind_at bytes ≡ Ok (kind, rest) → Takes bytes (kind_code kind ∷ []) rest
kind_takes bytes kind rest fits e =
    let a = bind_ok (number_at w8 bytes) (λ code. kind_found bytes code.1 (kind_of code.0)) (kind, rest) e in
    let t = byte_takes bytes a.0.0 a.0.1 fits a.1 in
    let f = found (kind_of a.0.0) a.0.1 a.2 in
    subst (λ (r : List ℕ). Takes bytes (kind_code kind ∷ []) r) f.1 (subst (λ (n : ℕ). Takes bytes (n ∷ []) a.0.1) (sym (kind_code-found a.0.0 all_kinds kind f.0)) t.takes)
  where
    found : (o : Option KeyKind) (after : List ℕ) → kind_found bytes after o ≡ Ok (kind, rest) → (o ≡ Some kind) × (after ≡ rest)
    found None after e = absurd cc
    found (Some k) after e = let both : (k, after) ≡ (kind, rest) = ok_is (k, after) (kind, rest) e in (ap (λ (p : KeyKind × List ℕ). Some p.0) both, ap (λ (p : KeyKind × List ℕ). p.1) both)

-- a name was taken
pub record NameRead (bytes : List ℕ) (name : Name) (rest : List ℕ) : Type 0 where
  pub takes : Takes bytes (name_text name) rest
  pub is_name : IsName name

-- a name
pub name_takes : (bytes : List ℕ) (name rest : List ℕ) → IsBytes bytes → name_at bytes ≡ Ok (name, rest) → NameRead bytes name rest
name_takes bytes name rest fits e =
    let a = bind_ok (number_at w8 bytes) _ (name, rest) e in
    let one = byte_takes bytes a.0.0 a.0.1 fits a.1 in
    let b = bind_ok (wanted (nat_le 1 a.0.0) bytes (bytes_at a.0.0 a.0.1)) (λ x. wanted (list_all is_graphic x.0) a.0.1 (Ok x)) (name, rest) a.2 in
    let some = wanted_ok (nat_le 1 a.0.0) bytes (bytes_at a.0.0 a.0.1) b.0 b.1 in
    let many = bytes_takes a.0.0 a.0.1 b.0.0 b.0.1 one.takes.rest_fits some.1 in
    let good = wanted_ok (list_all is_graphic b.0.0) a.0.1 (done b.0) (name, rest) b.2 in
    let both = Takes-then bytes (a.0.0 ∷ []) a.0.1 b.0.0 b.0.1 one.takes many.takes in
    subst (λ (p : List ℕ × List ℕ). NameRead bytes p.0 p.1) (ok_is b.0 (name, rest) good.1) (record {
      takes = subst (λ (n : ℕ). Takes bytes (n ∷ b.0.0) b.0.1) (sym many.len) both;
      is_name = record {
        some = omega (arith, many.len, leb-true 1 a.0.0 some.0);
        most = omega (arith, many.len, one.below);
        graphic = λ k d h. let r = and_parts _ _ (AllPass-from_list_all is_graphic b.0.0 good.0 k d h) in (leb-true _ _ r.0, leb-true _ _ r.1);
      };
    })

-- a number that may have to be 0
zero_read : (free : Bool) (field : List ℕ) (reading : Reading ℕ) (n : ℕ) (rest : List ℕ) → zero_unless free field reading ≡ Ok (n, rest) → (reading ≡ Ok (n, rest)) × (free ≡ false → n ≡ 0)
zero_read free field reading n rest e =
    let a = bind_ok reading (λ x. wanted (free || nat_eq x.0 0) field (Ok x)) (n, rest) e in
    let w = wanted_ok (free || nat_eq a.0.0 0) field (done a.0) (n, rest) a.2 in
    let same : a.0 ≡ (n, rest) = ok_is a.0 (n, rest) w.1 in
    (a.1 ∙ ap (λ (p : ℕ × List ℕ). Ok p) same, λ bound. ap (λ (p : ℕ × List ℕ). p.0) (sym same) ∙ eqb-true a.0.0 0 (subst (λ b. (b || nat_eq a.0.0 0) ≡ true) bound w.0))

-- a signed number that may have to be 0
int_zero_read : (free : Bool) (field : List ℕ) (reading : Reading ℤ) (n : ℤ) (rest : List ℕ) → int_zero_unless free field reading ≡ Ok (n, rest) → (reading ≡ Ok (n, rest)) × (free ≡ false → n ≡ pos 0)
int_zero_read free field reading n rest e =
    let a = bind_ok reading (λ x. wanted (free || int_eq x.0 (pos 0)) field (Ok x)) (n, rest) e in
    let w = wanted_ok (free || int_eq a.0.0 (pos 0)) field (done a.0) (n, rest) a.2 in
    let same : a.0 ≡ (n, rest) = ok_is a.0 (n, rest) w.1 in
    (a.1 ∙ ap (λ (p : ℤ × List ℕ). Ok p) same, λ bound. ap (λ (p : ℤ × List ℕ). p.0) (sym same) ∙ (Decides-int_eq a.0.0 (pos 0)).0 (subst (λ b. (b || int_eq a.0.0 (pos 0)) ≡ true) bound w.0))

-- a key was taken
pub record KeyRead (bytes : List ℕ) (k : Key) (rest : List ℕ) : Type 0 where
  pub takes : Takes bytes (key_text k) rest
  pub is_key : IsKey k
  pub fits : FitsFields k

-- a key
pub key_takes : (bytes : List ℕ) (k : Key) (rest : List ℕ) → IsBytes bytes → key_at bytes ≡ Ok (k, rest) → KeyRead bytes k rest
unfolding key_at key_text
key_takes bytes k rest fits e =
    let a1 = bind_ok (kind_at bytes) _ (k, rest) e in
    let kind = a1.0.0 in
    let t1 = kind_takes bytes kind a1.0.1 fits a1.1 in
    let a2 = bind_ok (name_at a1.0.1) _ (k, rest) a1.2 in
    let t2 = name_takes a1.0.1 a2.0.0 a2.0.1 t1.rest_fits a2.1 in
    let a3 = bind_ok (zero_unless (is_put kind) a2.0.1 (number_at w32 a2.0.1)) _ (k, rest) a2.2 in
    let z3 = zero_read (is_put kind) a2.0.1 (number_at w32 a2.0.1) a3.0.0 a3.0.1 a3.1 in
    let t3 = number_takes w32 (2 ^ 32) wide32 a2.0.1 a3.0.0 a3.0.1 t2.takes.rest_fits z3.0 in
    let a4 = bind_ok (zero_unless (is_put kind) a3.0.1 (number_at w64 a3.0.1)) _ (k, rest) a3.2 in
    let z4 = zero_read (is_put kind) a3.0.1 (number_at w64 a3.0.1) a4.0.0 a4.0.1 a4.1 in
    let t4 = number_takes w64 (2 ^ 64) wide64 a3.0.1 a4.0.0 a4.0.1 t3.takes.rest_fits z4.0 in
    let a5 = bind_ok (zero_unless (has_version kind) a4.0.1 (number_at w64 a4.0.1)) _ (k, rest) a4.2 in
    let z5 = zero_read (has_version kind) a4.0.1 (number_at w64 a4.0.1) a5.0.0 a5.0.1 a5.1 in
    let t5 = number_takes w64 (2 ^ 64) wide64 a4.0.1 a5.0.0 a5.0.1 t4.takes.rest_fits z5.0 in
    let a6 = bind_ok (int_zero_unless (has_stamps kind) a5.0.1 (signed_at a5.0.1)) _ (k, rest) a5.2 in
    let z6 = int_zero_read (has_stamps kind) a5.0.1 (signed_at a5.0.1) a6.0.0 a6.0.1 a6.1 in
    let t6 = signed_takes a5.0.1 a6.0.0 a6.0.1 t5.takes.rest_fits z6.0 in
    let a7 = bind_ok (int_zero_unless (has_stamps kind) a6.0.1 (signed_at a6.0.1)) _ (k, rest) a6.2 in
    let z7 = int_zero_read (has_stamps kind) a6.0.1 (signed_at a6.0.1) a7.0.0 a7.0.1 a7.1 in
    let t7 = signed_takes a6.0.1 a7.0.0 a7.0.1 t6.takes.rest_fits z7.0 in
    let made : Key × List ℕ = (record { kind = kind; name = a2.0.0; client = a3.0.0; serial = a4.0.0; version = a5.0.0; first = a6.0.0; last = a7.0.0 }, a7.0.1) in
    subst (λ (p : Key × List ℕ). KeyRead bytes p.0 p.1) (ok_is made (k, rest) a7.2) (record {
      takes =
          Takes-then bytes _ a6.0.1 (signed_text a7.0.0) a7.0.1 (Takes-then bytes _ a5.0.1 (signed_text a6.0.0) a6.0.1 (Takes-then bytes _ a4.0.1 (to_be_bytes w64 a5.0.0) a5.0.1 (Takes-then bytes _ a3.0.1 (to_be_bytes w64 a4.0.0) a4.0.1
          (Takes-then bytes _ a2.0.1 (to_be_bytes w32 a3.0.0) a3.0.1 (Takes-then bytes (kind_code kind ∷ []) a1.0.1 (name_text a2.0.0) a2.0.1 t1 t2.takes) t3.takes) t4.takes) t5.takes) t6.takes) t7.takes;
      is_key = record { name = t2.is_name; made = λ free. (z3.1 free, z4.1 free); version = z5.1; stamps = λ free. (z6.1 free, z7.1 free) };
      fits = record { client = t3.below; serial = t4.below; version = t5.below; first = t6.fits; last = t7.fits };
    })

-- ---- keys of one kind

-- a spelled key begins with its kind
kind_first : (k : Key) (rest : List ℕ) → (after : List ℕ) × (kind_at (key_text k ++ rest) ≡ Ok (k.kind, after))
unfolding key_text
kind_first k rest = let after = name_text k.name ++ to_be_bytes w32 k.client ++ to_be_bytes w64 k.serial ++ to_be_bytes w64 k.version ++ signed_text k.first ++ signed_text k.last ++ rest in (after, kind_again k.kind after)

-- a key of its kind, whatever follows
pub key_of_again : (k : Key) (rest : List ℕ) → IsKey k → FitsFields k → key_of_at k.kind (key_text k ++ rest) ≡ Ok (k, rest)
key_of_again k rest rules fits =
    let first = kind_first k rest in
    bind_is (kind_at (key_text k ++ rest)) (k.kind, first.0) (λ x. wanted (same_kind x.0 k.kind) (key_text k ++ rest) (key_at (key_text k ++ rest))) first.1
    ∙ (wanted_is (same_kind k.kind k.kind) (key_text k ++ rest) (key_at (key_text k ++ rest)) (eq-eqb (kind_code k.kind) (kind_code k.kind) refl)
    ∙ key_again k rest rules fits)

-- a key of a kind was taken
pub record KeyOfRead (kind : KeyKind) (bytes : List ℕ) (k : Key) (rest : List ℕ) : Type 0 where
  pub kind_is : k.kind ≡ kind
  pub read : KeyRead bytes k rest

-- a key of a kind
pub key_of_takes : (kind : KeyKind) (bytes : List ℕ) (k : Key) (rest : List ℕ) → IsBytes bytes → key_of_at kind bytes ≡ Ok (k, rest) → KeyOfRead kind bytes k rest
key_of_takes kind bytes k rest fits e =
    let a = bind_ok (kind_at bytes) (λ x. wanted (same_kind x.0 kind) bytes (key_at bytes)) (k, rest) e in
    let w = wanted_ok (same_kind a.0.0 kind) bytes (key_at bytes) (k, rest) a.2 in
    let read = key_takes bytes k rest fits w.1 in
    let first = kind_first k rest in
    let same : (k.kind, first.0) ≡ a.0 = ok_is (k.kind, first.0) a.0 (sym first.1 ∙ (ap kind_at (sym read.takes.parts) ∙ a.1)) in
    record { kind_is = ap (λ (p : KeyKind × List ℕ). p.0) same ∙ same_kind_is a.0.0 kind w.0; read = read }

-- ---- spellings do not begin each other

-- the same key, and nothing more
pub key_text-front : (a b : Key) (rest : List ℕ) → IsKey a → FitsFields a → IsKey b → FitsFields b → key_text b ≡ key_text a ++ rest → (a ≡ b) × (rest ≡ [])
key_text-front a b rest is_a fits_a is_b fits_b e =
    let once : Ok (a, rest) ≡ Ok (b, []) = sym (key_again a rest is_a fits_a) ∙ (ap key_at (sym e ∙ sym (append-nil (key_text b))) ∙ key_again b [] is_b fits_b) in
    let both : (a, rest) ≡ (b, []) = ok_is (a, rest) (b, []) once in
    (ap (λ (p : Key × List ℕ). p.0) both, ap (λ (p : Key × List ℕ). p.1) both)

-- what was read, as the front of the bytes and the rest
pub record KeyFound (bytes : List ℕ) (k : Key) (n : ℕ) : Type 0 where
  pub read : key_at bytes ≡ Ok (k, drop n bytes)
  pub spelled : bytes ≡ key_text k ++ drop n bytes
  pub len : n ≡ length (key_text k)

-- so many bytes were read
pub key_found : (bytes : List ℕ) (k : Key) (rest : List ℕ) → KeyRead bytes k rest → key_at bytes ≡ Ok (k, rest) → KeyFound bytes k (length bytes - length rest)
key_found bytes k rest r e =
    let long : length bytes ≡ length (key_text k) + length rest = ap length r.takes.parts ∙ length-append (key_text k) rest in
    let len : length bytes - length rest ≡ length (key_text k) = omega arith in
    let after : rest ≡ drop (length bytes - length rest) bytes = sym (ap (λ n. drop n bytes) len ∙ (ap (drop (length (key_text k))) r.takes.parts ∙ drop_at (key_text k) rest (length (key_text k)) refl)) in
    record { read = e ∙ ap (λ (t : List ℕ). Ok (k, t)) after; spelled = r.takes.parts ∙ ap (λ (t : List ℕ). key_text k ++ t) after; len = len }
