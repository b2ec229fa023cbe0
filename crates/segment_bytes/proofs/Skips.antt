-- Readers that pass over cells.
use Rattle.std.proofs.Common.{◌≡◌, ℕ, zero, suc, ◌+◌, ◌-◌, ◌*◌, ◌<◌, ◌≤◌, Bool, true, false, ◌&&◌, List, [], ◌∷◌, length, take, drop, Result, Ok, Err, refl, sym, ap, ◌∙◌, arith}
use Rattle.std.specs.Prelude.{nat_le, nat_eq, IsUtf8}
use Rattle.std.specs.Str.{is_utf8}
use Rattle.std.specs.Int.{w8, w32, from_be_bytes}
use Rattle.std.specs.List.{flat_map}
use Rattle.std.proofs.lemmas.Bool.{le-leb}
use Rattle.std.proofs.lemmas.Str.{IsUtf8-from_is_utf8, is_utf8-from_IsUtf8}
use Rattle.std.proofs.lemmas.List.{length-append, length-drop}
use Rattle.std.proofs.lemmas.List.Concat.{flat_map-cons}
use Rattle.byte_fields.specs.Reading.{Reading, ◌>>=◌, wanted, number_at, signed_at, bytes_at, list_at}
use Rattle.byte_fields.specs.Readers.{IsBytes, seen_by, rest_of}
use Rattle.byte_fields.proofs.Steps.{done, ok_is, bind_ok, bind_is, wanted_ok, wanted_is, seen_ok, seen_err}
use Rattle.byte_fields.proofs.Lists.{length-flat_map}
use Rattle.byte_fields.proofs.Skipping.{same_rests}
use Rattle.frame_core.specs.declared.cell.ColType.{ColType}
use Rattle.frame_core.specs.declared.cell.ColType.TheVariants as types
use Rattle.frame_core.specs.declared.cell.Cell.{Cell}
use Rattle.frame_core.specs.declared.cell.Cell.TheVariants as cells
use Rattle.segment_bytes.specs.Heads.{text_at}
use Rattle.segment_bytes.specs.CellTexts.{text_of, end_text, joined, int_cell_at, stamp_cell_at, flag_cell_at, end_at, ends_at, texts_at, cells_at}
use Rattle.segment_bytes.specs.Skipping.{counted, last_end, last_from, ends_in}
use Rattle.segment_bytes.proofs.CellLaws.{ends_take, texts_take, last_end-ends_from}

-- ---- texts

pub text_found : (n : ℕ) (bytes front rest text : List ℕ) → bytes_at n bytes ≡ Ok (front, rest) → IsUtf8 front → text ≡ front → text_at n bytes ≡ Ok (text, rest)
unfolding text_at
text_found n bytes front rest text e utf8 same =
    bind_is (bytes_at n bytes) (front, rest) (λ t. wanted (is_utf8 t.0) bytes (Ok t)) e
    ∙ wanted_is (is_utf8 front) bytes (done (front, rest)) (is_utf8-from_IsUtf8 front utf8)
    ∙ ap (λ (t : List ℕ). done (t, rest)) (sym same)

pub text_broken : (n : ℕ) (bytes front rest : List ℕ) → bytes_at n bytes ≡ Ok (front, rest) → (IsUtf8 front → ⊥) → text_at n bytes ≡ Err (length bytes)
unfolding text_at
text_broken n bytes front rest e broken =
    let no : is_utf8 front ≡ false = from_not (is_utf8 front) (λ t. broken (IsUtf8-from_is_utf8 front t)) in
    bind_is (bytes_at n bytes) (front, rest) (λ t. wanted (is_utf8 t.0) bytes (Ok t)) e ∙ rw no refl
  where
    from_not : (b : Bool) → (b ≡ true → ⊥) → b ≡ false
    from_not true f = absurd (f refl)
    from_not false f = refl

-- ---- cells without text

seen_more : (x : Cell × List ℕ) (r : Reading (List Cell)) → text_of x.0 ≡ [] → seen_by counted r ≡ (rest_of r >>= λ rest. Ok (0, rest)) → seen_by counted (r >>= λ more. Ok (x.0 ∷ more.0, more.1)) ≡ (rest_of (r >>= λ more. Ok (x.0 ∷ more.0, more.1)) >>= λ rest. Ok (0, rest))
seen_more x (Ok more) empty h =
    let zero_more : length (joined more.0) ≡ 0 = ap (λ (p : ℕ × List ℕ). p.0) (ok_is (length (joined more.0), more.1) (0, more.1) h) in
    let grown : length (joined (x.0 ∷ more.0)) ≡ 0 = ap length (flat_map-cons text_of x.0 more.0) ∙ length-append (text_of x.0) (joined more.0) ∙ omega (arith, ap length empty, zero_more) in
    ap (λ (k : ℕ). done (k, more.1)) grown
seen_more x (Err left) empty h = refl

none_counted : (item : List ℕ → Reading Cell) → ((bytes : List ℕ) (x : Cell × List ℕ) → item bytes ≡ Ok x → text_of x.0 ≡ []) → (n : ℕ) (bytes : List ℕ) → seen_by counted (list_at item n bytes) ≡ (rest_of (list_at item n bytes) >>= λ rest. Ok (0, rest))
none_counted item plain zero bytes = refl
none_counted item plain (suc n) bytes =
    elim (item bytes) as (λ r. item bytes ≡ r → seen_by counted (r >>= λ x. list_at item n x.1 >>= λ more. Ok (x.0 ∷ more.0, more.1)) ≡ (rest_of (r >>= λ x. list_at item n x.1 >>= λ more. Ok (x.0 ∷ more.0, more.1)) >>= λ rest. Ok (0, rest))) [
      | Ok x ↦ λ e. seen_more x (list_at item n x.1) (plain bytes x e) (none_counted item plain n x.1)
      | Err left ↦ λ e. refl
    ] refl

int_plain : (bytes : List ℕ) (x : Cell × List ℕ) → int_cell_at bytes ≡ Ok x → text_of x.0 ≡ []
int_plain bytes x e = let a = bind_ok (signed_at bytes) (λ n. Ok (cells.Int n.0, n.1)) x e in ap (λ (p : Cell × List ℕ). text_of p.0) (sym (ok_is (cells.Int a.0.0, a.0.1) x a.2))

stamp_plain : (bytes : List ℕ) (x : Cell × List ℕ) → stamp_cell_at bytes ≡ Ok x → text_of x.0 ≡ []
stamp_plain bytes x e = let a = bind_ok (signed_at bytes) (λ n. Ok (cells.Stamp n.0, n.1)) x e in ap (λ (p : Cell × List ℕ). text_of p.0) (sym (ok_is (cells.Stamp a.0.0, a.0.1) x a.2))

int_rest : (bytes : List ℕ) → rest_of (int_cell_at bytes) ≡ rest_of (signed_at bytes)
int_rest bytes = elim (signed_at bytes) as (λ r. rest_of (r >>= λ n. Ok (cells.Int n.0, n.1)) ≡ rest_of r) [ Ok x ↦ refl | Err left ↦ refl ]

stamp_rest : (bytes : List ℕ) → rest_of (stamp_cell_at bytes) ≡ rest_of (signed_at bytes)
stamp_rest bytes = elim (signed_at bytes) as (λ r. rest_of (r >>= λ n. Ok (cells.Stamp n.0, n.1)) ≡ rest_of r) [ Ok x ↦ refl | Err left ↦ refl ]

flag_plain : (bytes : List ℕ) (x : Cell × List ℕ) → flag_cell_at bytes ≡ Ok x → text_of x.0 ≡ []
flag_plain bytes x e =
    let a = bind_ok (number_at w8 bytes) (λ n. wanted (nat_le n.0 1) bytes (Ok (cells.Flag (nat_eq n.0 1), n.1))) x e in
    let made : Cell × List ℕ = (cells.Flag (nat_eq a.0.0 1), a.0.1) in
    let g = wanted_ok (nat_le a.0.0 1) bytes (done made) x a.2 in
    ap (λ (p : Cell × List ℕ). text_of p.0) (sym (ok_is made x g.1))

-- what is passed without text, at a fault and at the end
pub none_err : (total : Result (ℕ × List ℕ) ℕ) (r : Result (List ℕ) ℕ) (left : ℕ) → total ≡ (r >>= λ rest. Ok (0, rest)) → r ≡ Err left → total ≡ Err left
none_err total r left e h = e ∙ ap (λ q. q >>= λ rest. done (0, rest)) h

pub none_ok : (total : Result (ℕ × List ℕ) ℕ) (r : Result (List ℕ) ℕ) (rest : List ℕ) → total ≡ (r >>= λ after. Ok (0, after)) → r ≡ Ok rest → total ≡ Ok (0, rest)
none_ok total r rest e h = e ∙ ap (λ q. q >>= λ after. done (0, after)) h

pub ints_counted : (kind : ColType) (is : kind ≡ types.Int) (so_far n : ℕ) (bytes : List ℕ) → seen_by counted (cells_at kind so_far n bytes) ≡ (rest_of (list_at signed_at n bytes) >>= λ rest. Ok (0, rest))
unfolding cells_at
ints_counted kind is so_far n bytes = ap (λ (k : ColType). seen_by counted (cells_at k so_far n bytes)) is ∙ none_counted int_cell_at int_plain n bytes ∙ ap (λ r. r >>= λ rest. done (0, rest)) (same_rests int_cell_at signed_at int_rest n bytes)

pub stamps_counted : (kind : ColType) (is : kind ≡ types.Stamp) (so_far n : ℕ) (bytes : List ℕ) → seen_by counted (cells_at kind so_far n bytes) ≡ (rest_of (list_at signed_at n bytes) >>= λ rest. Ok (0, rest))
unfolding cells_at
stamps_counted kind is so_far n bytes = ap (λ (k : ColType). seen_by counted (cells_at k so_far n bytes)) is ∙ none_counted stamp_cell_at stamp_plain n bytes ∙ ap (λ r. r >>= λ rest. done (0, rest)) (same_rests stamp_cell_at signed_at stamp_rest n bytes)

pub flags_counted : (kind : ColType) (is : kind ≡ types.Flag) (so_far n : ℕ) (bytes : List ℕ) → seen_by counted (cells_at kind so_far n bytes) ≡ (rest_of (list_at flag_cell_at n bytes) >>= λ rest. Ok (0, rest))
unfolding cells_at
flags_counted kind is so_far n bytes = ap (λ (k : ColType). seen_by counted (cells_at k so_far n bytes)) is ∙ none_counted flag_cell_at flag_plain n bytes

-- ---- the ends of texts

last_more : (start e : ℕ) (r : Reading (List ℕ)) → seen_by (last_from start) (r >>= λ more. Ok (e ∷ more.0, more.1)) ≡ seen_by (last_from e) r
last_more start e (Ok more) = refl
last_more start e (Err left) = refl

pub ends_on : (so_far n i start : ℕ) (bytes : List ℕ) (e : ℕ) (rest : List ℕ) (total : Result (ℕ × List ℕ) ℕ) → i < n → end_at so_far start bytes ≡ Ok (e, rest) → seen_by (last_from start) (ends_at so_far start (n - i) bytes) ≡ total → seen_by (last_from e) (ends_at so_far e (n - (i + 1)) rest) ≡ total
unfolding ends_at
ends_on so_far n i start bytes e rest total lt h so_far_total =
    let k : n - i ≡ suc (n - (i + 1)) = omega arith in
    let one : seen_by (last_from start) (ends_at so_far start (n - i) bytes) ≡ seen_by (last_from e) (ends_at so_far e (n - (i + 1)) rest) = rw (k, h) (last_more start e (ends_at so_far e (n - (i + 1)) rest)) in
    sym one ∙ so_far_total

pub ends_fail : (so_far n i start : ℕ) (bytes : List ℕ) (left : ℕ) (total : Result (ℕ × List ℕ) ℕ) → i < n → end_at so_far start bytes ≡ Err left → seen_by (last_from start) (ends_at so_far start (n - i) bytes) ≡ total → total ≡ Err left
unfolding ends_at
ends_fail so_far n i start bytes left total lt h so_far_total =
    let k : n - i ≡ suc (n - (i + 1)) = omega arith in
    let one : seen_by (last_from start) (ends_at so_far start (n - i) bytes) ≡ Err left = rw (k, h) refl in
    sym so_far_total ∙ one

pub ends_end : (so_far n i start : ℕ) (bytes : List ℕ) (total : Result (ℕ × List ℕ) ℕ) → n ≤ i → seen_by (last_from start) (ends_at so_far start (n - i) bytes) ≡ total → total ≡ Ok (start, bytes)
unfolding ends_at
ends_end so_far n i start bytes total le so_far_total =
    let k : n - i ≡ 0 = omega arith in
    let one : seen_by (last_from start) (ends_at so_far start (n - i) bytes) ≡ Ok (start, bytes) = rw k refl in
    sym so_far_total ∙ one

-- ---- texts by their ends

pub text_rest : (x : List ℕ) (r : Reading (List Cell)) → rest_of (r >>= λ more. Ok (cells.Text x ∷ more.0, more.1)) ≡ rest_of r
text_rest x (Ok more) = refl
text_rest x (Err left) = refl

-- a number of four bytes that is there
pub four_there : (bytes : List ℕ) → 4 ≤ length bytes → number_at w32 bytes ≡ Ok (from_be_bytes w32 (take 4 bytes), drop 4 bytes)
four_there bytes le = let ok : nat_le 4 (length bytes) ≡ true = le-leb 4 (length bytes) le in rw ok refl

pub texts_on : (n i start : ℕ) (ends bytes : List ℕ) (e : ℕ) (others text rest : List ℕ) (total : Result (List ℕ) ℕ) → i < n → 4 * (n - i) ≤ length ends → number_at w32 ends ≡ Ok (e, others) → text_at (e - start) bytes ≡ Ok (text, rest) → rest_of (texts_at start (ends_in (n - i) ends) bytes) ≡ total → (4 * (n - (i + 1)) ≤ length others) × (rest_of (texts_at e (ends_in (n - (i + 1)) others) rest) ≡ total)
unfolding texts_at
texts_on n i start ends bytes e others text rest total lt long number h so_far =
    let k : n - i ≡ suc (n - (i + 1)) = omega arith in
    let same = ok_is (from_be_bytes w32 (take 4 ends), drop 4 ends) (e, others) (sym (four_there ends (omega arith)) ∙ number) in
    let end_is : from_be_bytes w32 (take 4 ends) ≡ e = ap (λ (p : ℕ × List ℕ). p.0) same in
    let others_are : drop 4 ends ≡ others = ap (λ (p : ℕ × List ℕ). p.1) same in
    let ends_are : ends_in (n - i) ends ≡ e ∷ ends_in (n - (i + 1)) others = ap (λ (m : ℕ). ends_in m ends) k ∙ (λ j. end_is j ∷ ends_in (n - (i + 1)) (others_are j)) in
    let one : rest_of (texts_at start (ends_in (n - i) ends) bytes) ≡ rest_of (texts_at e (ends_in (n - (i + 1)) others) rest) =
    ap (λ (es : List ℕ). rest_of (texts_at start es bytes)) ends_are
    ∙ ap (λ r. rest_of (r >>= λ t. texts_at e (ends_in (n - (i + 1)) others) t.1 >>= λ more. Ok (cells.Text t.0 ∷ more.0, more.1))) h
    ∙ text_rest text (texts_at e (ends_in (n - (i + 1)) others) rest) in
    (omega (arith, length-drop 4 ends, ap length others_are), sym one ∙ so_far)

pub texts_fail : (n i start : ℕ) (ends bytes : List ℕ) (e : ℕ) (others : List ℕ) (left : ℕ) (total : Result (List ℕ) ℕ) → i < n → 4 * (n - i) ≤ length ends → number_at w32 ends ≡ Ok (e, others) → text_at (e - start) bytes ≡ Err left → rest_of (texts_at start (ends_in (n - i) ends) bytes) ≡ total → total ≡ Err left
unfolding texts_at
texts_fail n i start ends bytes e others left total lt long number h so_far =
    let k : n - i ≡ suc (n - (i + 1)) = omega arith in
    let same = ok_is (from_be_bytes w32 (take 4 ends), drop 4 ends) (e, others) (sym (four_there ends (omega arith)) ∙ number) in
    let end_is : from_be_bytes w32 (take 4 ends) ≡ e = ap (λ (p : ℕ × List ℕ). p.0) same in
    let ends_are : ends_in (n - i) ends ≡ e ∷ ends_in (n - (i + 1)) (drop 4 ends) = ap (λ (m : ℕ). ends_in m ends) k ∙ ap (λ (m : ℕ). m ∷ ends_in (n - (i + 1)) (drop 4 ends)) end_is in
    sym so_far
    ∙ ap (λ (es : List ℕ). rest_of (texts_at start es bytes)) ends_are
    ∙ ap (λ r. rest_of (r >>= λ t. texts_at e (ends_in (n - (i + 1)) (drop 4 ends)) t.1 >>= λ more. Ok (cells.Text t.0 ∷ more.0, more.1))) h

pub texts_end : (n i start : ℕ) (ends bytes : List ℕ) (total : Result (List ℕ) ℕ) → n ≤ i → rest_of (texts_at start (ends_in (n - i) ends) bytes) ≡ total → total ≡ Ok bytes
unfolding texts_at
texts_end n i start ends bytes total le so_far = let k : n - i ≡ 0 = omega arith in sym so_far ∙ ap (λ (m : ℕ). rest_of (texts_at start (ends_in m ends) bytes)) k

-- ---- text cells

-- an end is a number of four bytes
end_number : (so_far start : ℕ) (bytes : List ℕ) (x : ℕ × List ℕ) → end_at so_far start bytes ≡ Ok x → (from_be_bytes w32 (take 4 bytes) ≡ x.0) × (drop 4 bytes ≡ x.1)
unfolding end_at
end_number so_far start bytes x e =
    let a = bind_ok (number_at w32 bytes) (λ m. wanted (nat_le start m.0 && nat_le m.0 (start + 65535) && nat_le (so_far + m.0) 67108864) bytes (Ok m)) x e in
    let g = wanted_ok (nat_le start a.0.0 && nat_le a.0.0 (start + 65535) && nat_le (so_far + a.0.0) 67108864) bytes (done a.0) x a.2 in
    let f = wanted_ok (nat_le 4 (length bytes)) bytes (done (from_be_bytes w32 (take 4 bytes), drop 4 bytes)) a.0 a.1 in
    let same = ok_is (from_be_bytes w32 (take 4 bytes), drop 4 bytes) a.0 f.1 ∙ ok_is a.0 x g.1 in
    (ap (λ (p : ℕ × List ℕ). p.0) same, ap (λ (p : ℕ × List ℕ). p.1) same)

-- the ends that were read are the numbers at the front
pub ends_are_in : (so_far start n : ℕ) (bytes : List ℕ) (x : List ℕ × List ℕ) → ends_at so_far start n bytes ≡ Ok x → x.0 ≡ ends_in n bytes
unfolding ends_at
ends_are_in so_far start zero bytes x e = ap (λ (p : List ℕ × List ℕ). p.0) (sym (ok_is ([], bytes) x e))
ends_are_in so_far start (suc n) bytes x e =
    let a = bind_ok (end_at so_far start bytes) (λ m. ends_at so_far m.0 n m.1 >>= λ more. Ok (m.0 ∷ more.0, more.1)) x e in
    let b = bind_ok (ends_at so_far a.0.0 n a.0.1) (λ more. Ok (a.0.0 ∷ more.0, more.1)) x a.2 in
    let first = end_number so_far start bytes a.0 a.1 in
    let others : b.0.0 ≡ ends_in n (drop 4 bytes) = ends_are_in so_far a.0.0 n a.0.1 b.0 b.1 ∙ ap (ends_in n) (sym first.1) in
    let made : List ℕ × List ℕ = (a.0.0 ∷ b.0.0, b.0.1) in
    ap (λ (p : List ℕ × List ℕ). p.0) (sym (ok_is made x b.2)) ∙ (λ i. sym first.0 i ∷ others i)

-- the ends are there
pub ends_known : (so_far n : ℕ) (bytes : List ℕ) (len : ℕ) (texts : List ℕ) → IsBytes bytes → seen_by (last_from 0) (ends_at so_far 0 n bytes) ≡ Ok (len, texts) → 4 * n ≤ length bytes
ends_known so_far n bytes len texts fits e =
    let a = seen_ok (last_from 0) (ends_at so_far 0 n bytes) (len, texts) e in
    let r = ends_take so_far 0 n bytes a.0 fits a.1 in
    omega (arith, ap length r.takes.parts, length-append (flat_map end_text a.0.0) a.0.1, length-flat_map end_text 4 (λ k. refl) a.0.0, r.len)

pub text_cells : (so_far n : ℕ) (bytes : List ℕ) (len : ℕ) (texts rest : List ℕ) → IsBytes bytes → seen_by (last_from 0) (ends_at so_far 0 n bytes) ≡ Ok (len, texts) → rest_of (texts_at 0 (ends_in n bytes) texts) ≡ Ok rest → seen_by counted (cells_at types.Text so_far n bytes) ≡ Ok (len, rest)
unfolding cells_at
text_cells so_far n bytes len texts rest fits h0 h1 =
    let a = seen_ok (last_from 0) (ends_at so_far 0 n bytes) (len, texts) h0 in
    let b = seen_ok (λ (x : List Cell × List ℕ). x.1) (texts_at 0 (ends_in n bytes) texts) rest h1 in
    let read : texts_at 0 a.0.0 a.0.1 ≡ Ok b.0 = (λ i. texts_at 0 (ends_are_in so_far 0 n bytes a.0 a.1 i) (ap (λ (p : ℕ × List ℕ). p.1) a.2 i)) ∙ b.1 in
    let ends = ends_take so_far 0 n bytes a.0 fits a.1 in
    let column = texts_take so_far 0 a.0.0 a.0.1 b.0 ends.climb ends.takes.rest_fits read in
    let last : len ≡ 0 + length (joined b.0.0) = ap (λ (p : ℕ × List ℕ). p.0) (sym a.2) ∙ ap (last_end 0) column.ends_are ∙ last_end-ends_from 0 b.0.0 in
    let length_is : length (joined b.0.0) ≡ len = omega arith in
    ap (λ r. seen_by counted (r >>= λ es. texts_at 0 es.0 es.1)) a.1 ∙ ap (seen_by counted) read ∙ (λ i. done (length_is i, b.2 i))

pub text_cells_ends : (so_far n : ℕ) (bytes : List ℕ) (left : ℕ) → seen_by (last_from 0) (ends_at so_far 0 n bytes) ≡ Err left → seen_by counted (cells_at types.Text so_far n bytes) ≡ Err left
unfolding cells_at
text_cells_ends so_far n bytes left h = rw (seen_err (last_from 0) (ends_at so_far 0 n bytes) left h) refl

pub text_cells_texts : (so_far n : ℕ) (bytes : List ℕ) (len : ℕ) (texts : List ℕ) (left : ℕ) → seen_by (last_from 0) (ends_at so_far 0 n bytes) ≡ Ok (len, texts) → rest_of (texts_at 0 (ends_in n bytes) texts) ≡ Err left → seen_by counted (cells_at types.Text so_far n bytes) ≡ Err left
unfolding cells_at
text_cells_texts so_far n bytes len texts left h0 h1 =
    let a = seen_ok (last_from 0) (ends_at so_far 0 n bytes) (len, texts) h0 in
    let read : texts_at 0 a.0.0 a.0.1 ≡ Err left = (λ i. texts_at 0 (ends_are_in so_far 0 n bytes a.0 a.1 i) (ap (λ (p : ℕ × List ℕ). p.1) a.2 i)) ∙ seen_err (λ (x : List Cell × List ℕ). x.1) (texts_at 0 (ends_in n bytes) texts) left h1 in
    ap (λ r. seen_by counted (r >>= λ es. texts_at 0 es.0 es.1)) a.1 ∙ ap (seen_by counted) read
