-- Texts of ASCII bytes, which are UTF-8 wherever they end.
use Rattle.std.proofs.Common.{◌≡◌, ℕ, zero, suc, ◌+◌, ◌-◌, ◌≤◌, List, [], ◌∷◌, length, take, drop, Result, Ok, refl, sym, ap, ◌∙◌, subst, arith, length-drop}
use Rattle.std.specs.Prelude.{nat_le}
use Rattle.std.specs.Str.{IsAscii}
use Rattle.std.proofs.lemmas.Bool.{le-leb}
use Rattle.std.proofs.lemmas.Str.{IsUtf8-from_ascii, IsAscii-take, IsAscii-drop}
use Rattle.std.proofs.lemmas.List.{drop-drop, take-take, drop-take}
use Rattle.byte_fields.specs.Reading.{Reading, ◌>>=◌, bytes_at}
use Rattle.byte_fields.specs.Readers.{IsBytes, seen_by, rest_of}
use Rattle.byte_fields.proofs.Steps.{done, wanted_is, seen_ok}
use Rattle.frame_core.specs.declared.cell.ColType.TheVariants as types
use Rattle.frame_core.specs.declared.cell.Cell.TheVariants as cells
use Rattle.segment_bytes.specs.Heads.{text_at}
use Rattle.segment_bytes.specs.CellTexts.{ends_at, texts_at, cells_at}
use Rattle.segment_bytes.specs.Skipping.{counted, last_end, last_from, ends_in}
use Rattle.segment_bytes.proofs.CellLaws.{Climb, ends_take}
use Rattle.segment_bytes.proofs.Skips.{text_found, text_rest, ends_are_in, text_cells}

-- the last end lies no lower than the first begin
climbs : (so_far start : ℕ) (ends : List ℕ) → Climb so_far start ends → start ≤ last_end start ends
climbs so_far start [] climb = omega arith
climbs so_far start (e ∷ ends) climb = omega (arith, climb.0, climbs so_far e ends climb.3)

-- texts of ASCII bytes are there, wherever each ends
ascii_texts : (so_far start : ℕ) (ends bytes : List ℕ) → Climb so_far start ends → last_end start ends - start ≤ length bytes → IsAscii (take (last_end start ends - start) bytes) → rest_of (texts_at start ends bytes) ≡ Ok (drop (last_end start ends - start) bytes)
unfolding texts_at
ascii_texts so_far start [] bytes climb long ascii = let none : start - start ≡ 0 = omega arith in rw none refl
ascii_texts so_far start (e ∷ ends) bytes climb long ascii =
    let n = e - start in
    let last = last_end e ends in
    let above : e ≤ last = climbs so_far e ends climb.3 in
    let there : n ≤ length bytes = omega (arith, climb.0, above, long) in
    let less : n ≤ last - start = omega (arith, climb.0, above) in
    let front : bytes_at n bytes ≡ Ok (take n bytes, drop n bytes) = wanted_is (nat_le n (length bytes)) bytes (done (take n bytes, drop n bytes)) (le-leb n (length bytes) there) in
    let first : IsAscii (take n bytes) = subst IsAscii (take-take n (last - start) bytes less) (IsAscii-take (take (last - start) bytes) n ascii) in
    let text : text_at n bytes ≡ Ok (take n bytes, drop n bytes) = text_found n bytes (take n bytes) (drop n bytes) (take n bytes) front (IsUtf8-from_ascii (take n bytes) first) refl in
    let split : last - start ≡ n + (last - e) = omega (arith, climb.0, above) in
    let moved : drop n (take (last - start) bytes) ≡ take (last - e) (drop n bytes) = ap (λ (m : ℕ). drop n (take m bytes)) split ∙ drop-take n (last - e) bytes in
    let rest_ascii : IsAscii (take (last - e) (drop n bytes)) = subst IsAscii moved (IsAscii-drop (take (last - start) bytes) n ascii) in
    let more = ascii_texts so_far e ends (drop n bytes) climb.3 (omega (arith, climb.0, above, long, length-drop n bytes)) rest_ascii in
    let one : rest_of (texts_at start (e ∷ ends) bytes) ≡ rest_of (texts_at e ends (drop n bytes)) =
    ap (λ r. rest_of (r >>= λ t. texts_at e ends t.1 >>= λ more. Ok (cells.Text t.0 ∷ more.0, more.1))) text ∙ text_rest (take n bytes) (texts_at e ends (drop n bytes)) in
    one ∙ more ∙ ap done (drop-drop (last - e) n bytes ∙ ap (λ (m : ℕ). drop m bytes) (sym split))

-- so the cells are there
pub ascii_cells : (so_far n : ℕ) (bytes : List ℕ) (len : ℕ) (texts : List ℕ) → IsBytes bytes → seen_by (last_from 0) (ends_at so_far 0 n bytes) ≡ Ok (len, texts) → len ≤ length texts → IsAscii (take len texts) → seen_by counted (cells_at types.Text so_far n bytes) ≡ Ok (len, drop len texts)
ascii_cells so_far n bytes len texts fits read long ascii =
    let a = seen_ok (last_from 0) (ends_at so_far 0 n bytes) (len, texts) read in
    let ends = ends_take so_far 0 n bytes a.0 fits a.1 in
    let last : last_end 0 a.0.0 ≡ len = ap (λ (p : ℕ × List ℕ). p.0) a.2 in
    let width : last_end 0 a.0.0 - 0 ≡ len = omega (arith, last) in
    let all = ascii_texts so_far 0 a.0.0 texts ends.climb (omega (arith, width, long)) (subst (λ (m : ℕ). IsAscii (take m texts)) (sym width) ascii) in
    let ends_are : a.0.0 ≡ ends_in n bytes = ends_are_in so_far 0 n bytes a.0 a.1 in
    text_cells so_far n bytes len texts (drop len texts) fits read (ap (λ (es : List ℕ). rest_of (texts_at 0 es texts)) (sym ends_are) ∙ all ∙ ap (λ (m : ℕ). done (drop m texts)) width)
