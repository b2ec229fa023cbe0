-- Slots that are spelled one behind another are read again.
use Rattle.std.proofs.Common.{◌≡◌, ℕ, zero, suc, ◌+◌, ◌-◌, ◌*◌, ◌^◌, ◌<◌, ◌≤◌, List, [], ◌∷◌, ◌++◌, length, take, drop, map, Result, Ok, Err, Some, refl, sym, ap, subst, ◌∙◌, append_assoc, arith}
use Rattle.std.specs.Prelude.{slice_get, slice_index_or}
use Rattle.std.specs.Int.{w16, w32, to_be_bytes}
use Rattle.std.specs.List.{flat_map, AllByRecursion}
use Rattle.std.specs.Result.{result_unwrap_or}
use Rattle.std.proofs.lemmas.List.{append-nil, length-append, length-map, map-append, take_all, take_at, drop_at}
use Rattle.std.proofs.lemmas.List.Concat.{flat_map-cons, flat_map-append}
use Rattle.byte_fields.specs.Reading.{Reading, ◌>>=◌, number_at, signed_at, list_at, signed_text}
use Rattle.byte_fields.proofs.Steps.{bind_is, ok_is}
use Rattle.byte_fields.proofs.Numbers.{wide16, wide32, number_again, signed_again, length-signed_text}
use Rattle.byte_fields.proofs.Lists.{flat_map-front}
use Rattle.key_kind.specs.declared.key.Key.{Key}
use Rattle.key_kind.specs.KeyText.{key_text, key_at}
use Rattle.key_kind.proofs.KeyReading.{key_again}
use Rattle.index_tree.specs.declared.index.Slot.{Slot}
use Rattle.index_tree.specs.declared.span.Span.{Span}
use Rattle.index_tree.specs.IndexText.{slot_text}
use Rattle.index_tree.specs.IndexRules.{FitsSlot}
use Rattle.index_tree.specs.SlotTexts.{span_of, span_text, span_at, slot_with, plain_slot_at, slots_in, SpellSlots, moved, MayMove}

-- ---- one slot

regrouped : (b c d f g h rest : List ℕ) → (((((b ++ c) ++ d) ++ f) ++ g) ++ h) ++ rest ≡ b ++ (c ++ (d ++ (f ++ (g ++ (h ++ rest)))))
regrouped b c d f g h rest = simp append_assoc

split : (a b c d f g h rest : List ℕ) → ((((((a ++ b) ++ c) ++ d) ++ f) ++ g) ++ h) ++ rest ≡ a ++ ((((((b ++ c) ++ d) ++ f) ++ g) ++ h) ++ rest)
split a b c d f g h rest = simp append_assoc

-- a slot is spelled as its key, and what is behind it
pub slot_split : (s : Slot) (rest : List ℕ) → slot_text s ++ rest ≡ key_text s.key ++ (span_text (span_of s) ++ rest)
slot_split s rest = split (key_text s.key) (to_be_bytes w32 s.part.first_row) (to_be_bytes w32 s.part.rows) (signed_text s.first) (signed_text s.last) (to_be_bytes w16 s.part.first_col) (to_be_bytes w16 s.part.cols) rest

pub span_again : (s : Slot) (rest : List ℕ) → FitsSlot s → span_at (span_text (span_of s) ++ rest) ≡ Ok (span_of s, rest)
span_again s rest fits =
    let b6 = to_be_bytes w16 s.part.cols ++ rest in
    let b5 = to_be_bytes w16 s.part.first_col ++ b6 in
    let b4 = signed_text s.last ++ b5 in
    let b3 = signed_text s.first ++ b4 in
    let b2 = to_be_bytes w32 s.part.rows ++ b3 in
    let b1 = to_be_bytes w32 s.part.first_row ++ b2 in
    let h1 : number_at w32 b1 ≡ Ok (s.part.first_row, b2) = number_again w32 (2 ^ 32) wide32 s.part.first_row b2 fits.first_row in
    let h2 : number_at w32 b2 ≡ Ok (s.part.rows, b3) = number_again w32 (2 ^ 32) wide32 s.part.rows b3 fits.rows in
    let h3 : signed_at b3 ≡ Ok (s.first, b4) = signed_again s.first b4 fits.first in
    let h4 : signed_at b4 ≡ Ok (s.last, b5) = signed_again s.last b5 fits.last in
    let h5 : number_at w16 b5 ≡ Ok (s.part.first_col, b6) = number_again w16 (2 ^ 16) wide16 s.part.first_col b6 fits.first_col in
    let h6 : number_at w16 b6 ≡ Ok (s.part.cols, rest) = number_again w16 (2 ^ 16) wide16 s.part.cols rest fits.cols in
    ap span_at (regrouped (to_be_bytes w32 s.part.first_row) (to_be_bytes w32 s.part.rows) (signed_text s.first) (signed_text s.last) (to_be_bytes w16 s.part.first_col) (to_be_bytes w16 s.part.cols) rest)
    ∙ rw (h1, h2, h3, h4, h5, h6) refl

pub plain_slot_again : (s : Slot) (rest : List ℕ) → FitsSlot s → plain_slot_at (slot_text s ++ rest) ≡ Ok (s, rest)
plain_slot_again s rest fits =
    let behind = span_text (span_of s) ++ rest in
    ap plain_slot_at (slot_split s rest)
    ∙ bind_is (key_at (key_text s.key ++ behind)) (s.key, behind) (λ key. span_at key.1 >>= λ span. Ok (slot_with key.0 span.0, span.1)) (key_again s.key behind fits.key fits.fields)
    ∙ bind_is (span_at behind) (span_of s, rest) (λ span. Ok (slot_with s.key span.0, span.1)) (span_again s rest fits)

pub length-span_text : (span : Span) → length (span_text span) ≡ 28
length-span_text span =
    let a = to_be_bytes w32 span.part.first_row ++ to_be_bytes w32 span.part.rows in
    simp length-append (omega (arith, length-signed_text span.first, length-signed_text span.last))

pub length-slot_text : (s : Slot) → 28 ≤ length (slot_text s)
length-slot_text s =
    let whole : length (slot_text s ++ []) ≡ length (key_text s.key ++ (span_text (span_of s) ++ [])) = ap length (slot_split s []) in
    let span = length-span_text (span_of s) in
    omega (arith, whole, span, length-append (slot_text s) [], length-append (key_text s.key) (span_text (span_of s) ++ []), length-append (span_text (span_of s)) [])

-- a key's spelling has 38 bytes beside its name, whose length is its second byte
length-key_text : (k : Key) → length (key_text k) ≡ 38 + length k.name
unfolding key_text
length-key_text k = simp length-append (omega (arith, length-signed_text k.first, length-signed_text k.last))

-- so what is behind the key of a slot is found by that byte
pub key_passed : (s : Slot) (bytes more : List ℕ) → bytes ≡ slot_text s ++ more → drop (38 + slice_index_or bytes 1 0) bytes ≡ span_text (span_of s) ++ more
unfolding key_text
key_passed s bytes more is =
    let whole : bytes ≡ key_text s.key ++ (span_text (span_of s) ++ more) = is ∙ slot_split s more in
    let second : slice_index_or bytes 1 0 ≡ length s.key.name = ap (λ (b : List ℕ). slice_index_or b 1 0) whole in
    (λ i. drop (38 + second i) (whole i)) ∙ drop_at (key_text s.key) (span_text (span_of s) ++ more) (38 + length s.key.name) (length-key_text s.key)

-- ---- slots

slots_again : (slots : List Slot) (rest : List ℕ) → AllByRecursion FitsSlot slots → list_at plain_slot_at (length slots) (flat_map slot_text slots ++ rest) ≡ Ok (slots, rest)
slots_again [] rest fits = refl
slots_again (s ∷ slots) rest fits =
    ap (list_at plain_slot_at (suc (length slots))) (flat_map-front slot_text s slots rest)
    ∙ bind_is (plain_slot_at (slot_text s ++ (flat_map slot_text slots ++ rest))) (s, flat_map slot_text slots ++ rest) (λ slot. list_at plain_slot_at (length slots) slot.1 >>= λ more. Ok (slot.0 ∷ more.0, more.1)) (plain_slot_again s (flat_map slot_text slots ++ rest) fits.0)
    ∙ bind_is (list_at plain_slot_at (length slots) (flat_map slot_text slots ++ rest)) (slots, rest) (λ more. Ok (s ∷ more.0, more.1)) (slots_again slots rest fits.1)

-- the slots that are spelled are those that are read
pub slots_are : (count : ℕ) (bytes : List ℕ) (slots : List Slot) → SpellSlots count bytes slots → slots_in count bytes ≡ slots
unfolding slots_in
slots_are count bytes slots spelled =
    let read : list_at plain_slot_at count bytes ≡ Ok (slots, []) =
    (λ i. list_at plain_slot_at (sym spelled.len i) ((spelled.text ∙ sym (append-nil (flat_map slot_text slots))) i)) ∙ slots_again slots [] spelled.fits in
    ap (λ (r : Reading (List Slot)). (result_unwrap_or r ([], [])).0) read

-- so what spells slots spells those that are read
pub spell_read : (count : ℕ) (bytes : List ℕ) (slots : List Slot) → SpellSlots count bytes slots → SpellSlots count bytes (slots_in count bytes)
spell_read count bytes slots spelled = subst (λ (l : List Slot). SpellSlots count bytes l) (sym (slots_are count bytes slots spelled)) spelled

-- there are no more slots than bytes
pub spell_few : (count : ℕ) (bytes : List ℕ) (slots : List Slot) → SpellSlots count bytes slots → 28 * count ≤ length bytes
spell_few count bytes slots spelled = omega (arith, each slots, ap length spelled.text, spelled.len)
  where
    each : (xs : List Slot) → 28 * length xs ≤ length (flat_map slot_text xs)
    each [] = omega arith
    each (x ∷ xs) = rw flat_map-cons (omega (arith, length-append (slot_text x) (flat_map slot_text xs), length-slot_text x, each xs))

-- ---- slot by slot

-- the slot at a place, of which P holds, and how the slots up to it and behind it stand to it
pub record SlotAt (P : Slot → Type 0) (slots : List Slot) (i : ℕ) : Type 0 where
  pub slot : Slot
  pub text : flat_map slot_text (drop i slots) ≡ slot_text slot ++ flat_map slot_text (drop (i + 1) slots)
  pub taken : take (i + 1) slots ≡ take i slots ++ slot ∷ []
  pub holds : P slot

pub slot_at : (P : Slot → Type 0) (slots : List Slot) (i : ℕ) → i < length slots → AllByRecursion P slots → SlotAt P slots i
slot_at P [] i lt all = absurd (omega arith)
slot_at P (s ∷ slots) zero lt all = record { slot = s; text = flat_map-cons slot_text s slots; taken = refl; holds = all.0 }
slot_at P (s ∷ slots) (suc i) lt all =
    let more = slot_at P slots i (omega arith) all.1 in
    let place : suc i + 1 ≡ suc (i + 1) = omega arith in
    record {
      slot = more.slot;
      text = more.text ∙ ap (λ (n : ℕ). slot_text more.slot ++ flat_map slot_text (drop n (s ∷ slots))) (sym place);
      taken = ap (λ (n : ℕ). take n (s ∷ slots)) place ∙ ap (λ (l : List Slot). s ∷ l) more.taken;
      holds = more.holds;
    }

-- what was read of a slot
pub record ReadSlot (s : Slot) (more : List ℕ) (key : Key) (span : Span) (rest : List ℕ) : Type 0 where
  pub slot_is : slot_with key span ≡ s
  pub span_is : span ≡ span_of s
  pub rest_is : rest ≡ more

pub slot_read_is : (s : Slot) (bytes more : List ℕ) (key : Key) (span : Span) (rest : List ℕ) → FitsSlot s → bytes ≡ slot_text s ++ more → plain_slot_at bytes ≡ Ok (slot_with key span, rest) → ReadSlot s more key span rest
slot_read_is s bytes more key span rest fits text read =
    let same : (slot_with key span, rest) ≡ (s, more) = ok_is (slot_with key span, rest) (s, more) (sym read ∙ ap plain_slot_at text ∙ plain_slot_again s more fits) in
    record {
      slot_is = ap (λ (x : Slot × List ℕ). x.0) same;
      span_is = ap (λ (x : Slot × List ℕ). span_of x.0) same;
      rest_is = ap (λ (x : Slot × List ℕ). x.1) same;
    }

-- ---- the ends

-- the slots have a first
pub first_is : (count : ℕ) (bytes : List ℕ) (slots : List Slot) → SpellSlots count bytes slots → 0 < count → (s : Slot) × (more : List ℕ) × (slice_get slots 0 ≡ Some s) × FitsSlot s × (bytes ≡ slot_text s ++ more)
first_is count bytes [] spelled lt = absurd (omega (arith, spelled.len))
first_is count bytes (s ∷ slots) spelled lt = (s, flat_map slot_text slots, refl, spelled.fits.0, spelled.text ∙ flat_map-cons slot_text s slots)

-- and a last, which ends their bytes
last_text : (s : Slot) (slots : List Slot) → AllByRecursion FitsSlot (s ∷ slots) → (t : Slot) × (front : List ℕ) × (slice_get (s ∷ slots) (length slots) ≡ Some t) × FitsSlot t × (flat_map slot_text (s ∷ slots) ≡ front ++ span_text (span_of t))
last_text s [] fits = (s, key_text s.key, refl, fits.0, flat_map-cons slot_text s [] ∙ (slot_split s [] ∙ ap (λ (t : List ℕ). key_text s.key ++ t) (append-nil (span_text (span_of s)))))
last_text s (t ∷ slots) fits =
    let more = last_text t slots fits.1 in
    (more.0, slot_text s ++ more.1, more.2, more.3, flat_map-cons slot_text s (t ∷ slots) ∙ (ap (λ (l : List ℕ). slot_text s ++ l) more.4 ∙ sym (append_assoc (slot_text s) more.1 (span_text (span_of more.0)))))

pub last_is : (count : ℕ) (bytes : List ℕ) (slots : List Slot) → SpellSlots count bytes slots → 0 < count → (s : Slot) × (slice_get slots (length slots - 1) ≡ Some s) × (span_at (drop (length bytes - 28) bytes) ≡ Ok (span_of s, []))
last_is count bytes [] spelled lt = absurd (omega (arith, spelled.len))
last_is count bytes (s ∷ slots) spelled lt =
    let last = last_text s slots spelled.fits in
    let place : length (s ∷ slots) - 1 ≡ length slots = omega arith in
    let whole : bytes ≡ last.1 ++ span_text (span_of last.0) = spelled.text ∙ last.4 in
    let long : length last.1 ≡ length bytes - 28 = omega (arith, ap length whole, length-append last.1 (span_text (span_of last.0)), length-span_text (span_of last.0)) in
    let end : drop (length bytes - 28) bytes ≡ span_text (span_of last.0) = ap (drop (length bytes - 28)) whole ∙ drop_at last.1 (span_text (span_of last.0)) (length bytes - 28) long in
    (last.0, ap (slice_get (s ∷ slots)) place ∙ last.2, ap span_at (end ∙ sym (append-nil (span_text (span_of last.0)))) ∙ span_again last.0 [] last.3)

-- ---- a moved slot

-- the spelling of a moved slot: its key, its new first row, and the rest as it was
pub moved_text : (from to : ℕ) (s : Slot) → slot_text (moved from to s) ≡ (key_text s.key ++ to_be_bytes w32 ((s.part.first_row - from) + to)) ++ drop 4 (span_text (span_of s))
moved_text from to s =
    let t = moved from to s in
    let others = to_be_bytes w32 s.part.rows ++ signed_text s.first ++ signed_text s.last ++ to_be_bytes w16 s.part.first_col ++ to_be_bytes w16 s.part.cols in
    let behind : span_text (span_of s) ≡ to_be_bytes w32 s.part.first_row ++ others = regrouped_front (to_be_bytes w32 s.part.first_row) (to_be_bytes w32 s.part.rows) (signed_text s.first) (signed_text s.last) (to_be_bytes w16 s.part.first_col) (to_be_bytes w16 s.part.cols) in
    let tail : drop 4 (span_text (span_of s)) ≡ others = ap (drop 4) behind ∙ drop_at (to_be_bytes w32 s.part.first_row) others 4 refl in
    split_front (key_text s.key) (to_be_bytes w32 t.part.first_row) (to_be_bytes w32 s.part.rows) (signed_text s.first) (signed_text s.last) (to_be_bytes w16 s.part.first_col) (to_be_bytes w16 s.part.cols)
    ∙ ap (λ (l : List ℕ). (key_text s.key ++ to_be_bytes w32 t.part.first_row) ++ l) (sym tail)
  where
    regrouped_front : (b c d f g h : List ℕ) → ((((b ++ c) ++ d) ++ f) ++ g) ++ h ≡ b ++ ((((c ++ d) ++ f) ++ g) ++ h)
    regrouped_front b c d f g h = simp append_assoc

    split_front : (a b c d f g h : List ℕ) → (((((a ++ b) ++ c) ++ d) ++ f) ++ g) ++ h ≡ (a ++ b) ++ ((((c ++ d) ++ f) ++ g) ++ h)
    split_front a b c d f g h = simp append_assoc

-- the bytes of a slot before others
pub text_was_taken : (s : Slot) (bytes more : List ℕ) (rest text : List ℕ) → bytes ≡ slot_text s ++ more → rest ≡ more → text ≡ take (length bytes - length rest) bytes → text ≡ slot_text s
text_was_taken s bytes more rest text is rest_is t =
    let long : length (slot_text s) ≡ length bytes - length rest = omega (arith, ap length is, ap length rest_is, length-append (slot_text s) more) in
    t ∙ (ap (take (length bytes - length rest)) is ∙ take_at (slot_text s) more (length bytes - length rest) long)

-- the bytes of a slot were split into its key and what is behind it
pub record SplitSlot (s : Slot) (text key fields : List ℕ) : Type 0 where
  pub key_is : key ≡ key_text s.key
  pub fields_are : fields ≡ span_text (span_of s)

pub slot_was_split : (s : Slot) (text key fields : List ℕ) → text ≡ slot_text s → key ≡ take (length text - 28) text → fields ≡ drop (length text - 28) text → SplitSlot s text key fields
slot_was_split s text key fields is k f =
    let parts : slot_text s ≡ key_text s.key ++ span_text (span_of s) = sym (append-nil (slot_text s)) ∙ (slot_split s [] ∙ ap (λ (l : List ℕ). key_text s.key ++ l) (append-nil (span_text (span_of s)))) in
    let whole : text ≡ key_text s.key ++ span_text (span_of s) = is ∙ parts in
    let place : length (key_text s.key) ≡ length text - 28 = omega (arith, ap length whole, length-append (key_text s.key) (span_text (span_of s)), length-span_text (span_of s)) in
    record {
      key_is = k ∙ (ap (take (length text - 28)) whole ∙ take_at (key_text s.key) (span_text (span_of s)) (length text - 28) place);
      fields_are = f ∙ (ap (drop (length text - 28)) whole ∙ drop_at (key_text s.key) (span_text (span_of s)) (length text - 28) place);
    }

-- the moved slot was put behind the others
pub moved_was_put : (from to : ℕ) (s : Slot) (text key fields others old with_key with_row all : List ℕ) (row : ℕ) → SplitSlot s text key fields → others ≡ drop 4 fields → row ≡ s.part.first_row
    → with_key ≡ old ++ key → with_row ≡ with_key ++ to_be_bytes w32 ((row - from) + to) → all ≡ with_row ++ others → all ≡ old ++ slot_text (moved from to s)
moved_was_put from to s text key fields others old with_key with_row all row split o r e1 e2 e3 =
    let tail : others ≡ drop 4 (span_text (span_of s)) = o ∙ ap (drop 4) split.fields_are in
    e3 ∙ ((λ i. (e2 ∙ ap (λ (l : List ℕ). l ++ to_be_bytes w32 ((row - from) + to)) e1) i ++ others)
    ∙ ((λ i. ((old ++ split.key_is i) ++ to_be_bytes w32 ((r i - from) + to)) ++ tail i)
    ∙ (three old (key_text s.key) (to_be_bytes w32 ((s.part.first_row - from) + to)) (drop 4 (span_text (span_of s))) ∙ ap (λ (l : List ℕ). old ++ l) (sym (moved_text from to s)))))
  where
    three : (a b c d : List ℕ) → ((a ++ b) ++ c) ++ d ≡ a ++ ((b ++ c) ++ d)
    three a b c d = simp append_assoc

-- a reading that gives a value is no fault
pub no_fault : {A : Type 0} (reading : Result A ℕ) (x : A) (left : ℕ) → reading ≡ Ok x → reading ≡ Err left → ⊥
no_fault reading x left e f = cc

-- ---- the loop over a moved run

-- a moved slot fits its fields
moved_fits : (from to : ℕ) (s : Slot) → FitsSlot s → MayMove from to s → FitsSlot (moved from to s)
moved_fits from to s fits may = record { key = fits.key; fields = fits.fields; first_row = may.1; rows = fits.rows; first = fits.first; last = fits.last; first_col = fits.first_col; cols = fits.cols }

all_moved : (from to : ℕ) (slots : List Slot) → AllByRecursion FitsSlot slots → AllByRecursion (MayMove from to) slots → AllByRecursion FitsSlot (map (moved from to) slots)
all_moved from to [] fits may = tt
all_moved from to (s ∷ slots) fits may = (moved_fits from to s fits.0 may.0, all_moved from to slots fits.1 may.1)

-- slots that fit their fields and may be moved
pub all_both : {A : Type 0} (P Q : A → Type 0) (xs : List A) → AllByRecursion P xs → AllByRecursion Q xs → AllByRecursion (λ x. P x × Q x) xs
all_both P Q [] p q = tt
all_both P Q (x ∷ xs) p q = ((p.0, q.0), all_both P Q xs p.1 q.1)

-- one moved slot more
pub moved_more : (from to : ℕ) (xs : List Slot) (s : Slot) → flat_map slot_text (map (moved from to) (xs ++ s ∷ [])) ≡ flat_map slot_text (map (moved from to) xs) ++ slot_text (moved from to s)
moved_more from to xs s =
    let t = moved from to s in
    ap (flat_map slot_text) (map-append (moved from to) xs (s ∷ []))
    ∙ (flat_map-append slot_text (map (moved from to) xs) (t ∷ [])
    ∙ ap (λ (l : List ℕ). flat_map slot_text (map (moved from to) xs) ++ l) (flat_map-cons slot_text t [] ∙ append-nil (slot_text t)))

-- all slots were moved
pub moved_all : (count i : ℕ) (bytes : List ℕ) (from to : ℕ) (slots : List Slot) → length slots ≡ count → count ≤ i → bytes ≡ flat_map slot_text (map (moved from to) (take i slots)) → AllByRecursion FitsSlot slots → AllByRecursion (MayMove from to) slots → SpellSlots count bytes (map (moved from to) slots)
moved_all count i bytes from to slots len le text fits may = record {
  text = text ∙ ap (λ (l : List Slot). flat_map slot_text (map (moved from to) l)) (take_all i slots (omega arith));
  len = length-map slots (moved from to) ∙ len;
  fits = all_moved from to slots fits may;
}

-- a run that is moved to where it begins stays as it is
pub unmoved : (from to : ℕ) (slots : List Slot) → from ≡ to → AllByRecursion (MayMove from to) slots → slots ≡ map (moved from to) slots
unmoved from to [] same may = refl
unmoved from to (s ∷ slots) same may =
    let row : s.part.first_row ≡ (s.part.first_row - from) + to = omega (arith, may.0.0) in
    let first : s ≡ moved from to s = ap (λ (n : ℕ). record s { part = record s.part { first_row = n } }) row in
    λ i. first i ∷ unmoved from to slots same may.1 i
