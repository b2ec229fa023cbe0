-- Stamps that are passed over, and columns that are found again.
use Rattle.std.proofs.Common.{◌≡◌, ℕ, zero, suc, ◌+◌, ◌-◌, ◌*◌, ◌^◌, ◌<◌, ◌≤◌, ℤ, Bool, true, false, List, [], ◌∷◌, ◌++◌, map, length, get_or, take, drop, Option, Some, Result, Ok, Err, refl, sym, ap, subst, ◌∙◌, append_assoc, arith, add-one}
use Rattle.std.specs.Prelude.{nat_eq, slice_get, if◌then◌else◌}
use Rattle.std.proofs.lemmas.Option.{get_or_from_slice_get}
use Rattle.std.specs.Int.{w8, w32}
use Rattle.std.specs.List.{flat_map, AllByRecursion, list_any}
use Rattle.std.proofs.lemmas.Bool.{eqb-true, eq-eqb}
use Rattle.std.proofs.lemmas.List.{length-append, take_all, append-nil}
use Rattle.std.proofs.lemmas.List.Concat.{flat_map-cons}
use Rattle.std.proofs.lemmas.List.Folds.{list_any_more, list_any_at}
use Rattle.byte_fields.specs.Reading.{Reading, ◌>>=◌, number_at, bytes_at}
use Rattle.byte_fields.specs.Readers.{rest_of}
use Rattle.byte_fields.proofs.Steps.{done, ok_is, bind_is}
use Rattle.byte_fields.proofs.Numbers.{wide32, number_again, bytes_again, byte_again, length-signed_text}
use Rattle.byte_fields.proofs.Lists.{flat_map-front, length-flat_map}
use Rattle.frame_core.specs.declared.cell.ColType.{ColType}
use Rattle.frame_core.specs.declared.cell.ColType.TheVariants as types
use Rattle.frame_core.specs.declared.cell.Cell.{Cell}
use Rattle.frame_core.specs.declared.cell.Cell.TheVariants as cells
use Rattle.frame_core.specs.Texts.{Text, same_text}
use Rattle.frame_core.proofs.Rows.{drop_at_place}
use Rattle.segment_bytes.specs.Heads.{type_code, type_at}
use Rattle.segment_bytes.specs.CellTexts.{cell_text, text_of, ends_from, end_text, joined, cells_text}
use Rattle.segment_bytes.specs.Sheets.{Series, series_text, stamp_at, stamps_at}
use Rattle.segment_bytes.specs.Kept.{IsCellOf, IsStored}
use Rattle.segment_bytes.specs.Skipping.{last_end, width_at, texts_width, skip_at}
use Rattle.segment_bytes.proofs.HeadLaws.{type_again}
use Rattle.segment_bytes.proofs.CellLaws.{last_end-ends_from, length-ends_from}

-- ---- stamps

stamp_rest : (t : ℤ) (r : Reading (List ℤ)) → rest_of (r >>= λ more. Ok (t ∷ more.0, more.1)) ≡ rest_of r
stamp_rest t (Ok more) = refl
stamp_rest t (Err left) = refl

pub stamps_on : (n i : ℕ) (before : Option ℤ) (bytes : List ℕ) (t : ℤ) (rest : List ℕ) (total : Result (List ℕ) ℕ) → i < n → stamp_at before bytes ≡ Ok (t, rest) → rest_of (stamps_at (n - i) before bytes) ≡ total → rest_of (stamps_at (n - (i + 1)) (Some t) rest) ≡ total
unfolding stamps_at
stamps_on n i before bytes t rest total lt h so_far =
    let k : n - i ≡ suc (n - (i + 1)) = omega arith in
    let one : rest_of (stamps_at (n - i) before bytes) ≡ rest_of (stamps_at (n - (i + 1)) (Some t) rest) = rw (k, h) (stamp_rest t (stamps_at (n - (i + 1)) (Some t) rest)) in
    sym one ∙ so_far

pub stamps_fail : (n i : ℕ) (before : Option ℤ) (bytes : List ℕ) (left : ℕ) (total : Result (List ℕ) ℕ) → i < n → stamp_at before bytes ≡ Err left → rest_of (stamps_at (n - i) before bytes) ≡ total → total ≡ Err left
unfolding stamps_at
stamps_fail n i before bytes left total lt h so_far =
    let k : n - i ≡ suc (n - (i + 1)) = omega arith in
    let one : rest_of (stamps_at (n - i) before bytes) ≡ Err left = rw (k, h) refl in
    sym so_far ∙ one

pub stamps_end : (n i : ℕ) (before : Option ℤ) (bytes : List ℕ) (total : Result (List ℕ) ℕ) → n ≤ i → rest_of (stamps_at (n - i) before bytes) ≡ total → total ≡ Ok bytes
unfolding stamps_at
stamps_end n i before bytes total le so_far =
    let k : n - i ≡ 0 = omega arith in
    let one : rest_of (stamps_at (n - i) before bytes) ≡ Ok bytes = rw k refl in
    sym so_far ∙ one

-- ---- a spelled column that is found again

wide_cells : (kind : ColType) (width : ℕ) → ((c : Cell) → IsCellOf kind c → length (cell_text c) ≡ width) → (column : List Cell) → AllByRecursion (IsCellOf kind) column → length (flat_map cell_text column) ≡ width * length column
wide_cells kind width one [] each = omega arith
wide_cells kind width one (c ∷ column) each = rw flat_map-cons (omega (arith, length-append (cell_text c) (flat_map cell_text column), one c each.0, wide_cells kind width one column each.1))

pub int_wide : (c : Cell) → IsCellOf types.Int c → length (cell_text c) ≡ 8
int_wide (cells.Int n) is = length-signed_text n
int_wide (cells.Flag b) is = absurd (let e = is.typed in cc)
int_wide (cells.Text t) is = absurd (let e = is.typed in cc)
int_wide (cells.Stamp n) is = absurd (let e = is.typed in cc)

pub stamp_wide : (c : Cell) → IsCellOf types.Stamp c → length (cell_text c) ≡ 8
stamp_wide (cells.Stamp n) is = length-signed_text n
stamp_wide (cells.Flag b) is = absurd (let e = is.typed in cc)
stamp_wide (cells.Text t) is = absurd (let e = is.typed in cc)
stamp_wide (cells.Int n) is = absurd (let e = is.typed in cc)

pub flag_wide : (c : Cell) → IsCellOf types.Flag c → length (cell_text c) ≡ 1
flag_wide (cells.Flag true) is = refl
flag_wide (cells.Flag false) is = refl
flag_wide (cells.Int n) is = absurd (let e = is.typed in cc)
flag_wide (cells.Text t) is = absurd (let e = is.typed in cc)
flag_wide (cells.Stamp n) is = absurd (let e = is.typed in cc)

-- ends: all but the last, and the last
last_split : (start e : ℕ) (ends : List ℕ) → (front : List ℕ) × (flat_map end_text (e ∷ ends) ≡ front ++ end_text (last_end start (e ∷ ends))) × (length front ≡ 4 * length ends)
last_split start e [] = ([], flat_map-cons end_text e [] ∙ append-nil (end_text e), omega arith)
last_split start e (f ∷ ends) =
    let r = last_split e f ends in
    (end_text e ++ r.0, flat_map-cons end_text e (f ∷ ends) ∙ ap (λ (t : List ℕ). end_text e ++ t) r.1 ∙ sym (append_assoc (end_text e) r.0 (end_text (last_end e (f ∷ ends)))), omega (arith, length-append (end_text e) r.0, r.2))

len_map : (column : List Cell) → length (map text_of column) ≡ length column
len_map [] = refl
len_map (c ∷ column) = ap suc (len_map column)

-- the bytes of text cells: the ends before the last, the last, the texts and what follows
four_parts : (ends front last texts tail : List ℕ) → ends ≡ front ++ last → (ends ++ texts) ++ tail ≡ front ++ (last ++ (texts ++ tail))
four_parts ends front last texts tail e = ap (λ (es : List ℕ). (es ++ texts) ++ tail) e ∙ regrouped
  where
    regrouped : ((front ++ last) ++ texts) ++ tail ≡ front ++ (last ++ (texts ++ tail))
    regrouped = simp append_assoc

texts_wide : (rows : ℕ) (c : Cell) (column : List Cell) (tail : List ℕ) → length (c ∷ column) ≡ rows → length (joined (c ∷ column)) ≤ 67108864 → texts_width rows ((flat_map end_text (ends_from 0 (map text_of (c ∷ column))) ++ joined (c ∷ column)) ++ tail) ≡ Ok (length (flat_map end_text (ends_from 0 (map text_of (c ∷ column))) ++ joined (c ∷ column)))
texts_wide rows c column tail len within =
    let e : ℕ = 0 + length (text_of c) in
    let ends : List ℕ = ends_from e (map text_of column) in
    let split = last_split 0 e ends in
    let count : length ends ≡ length column = length-ends_from e (map text_of column) ∙ len_map column in
    let last : ℕ = last_end 0 (e ∷ ends) in
    let last_is : last ≡ 0 + length (joined (c ∷ column)) = last_end-ends_from 0 (c ∷ column) in
    let rest : List ℕ = joined (c ∷ column) ++ tail in
    let width : 4 * rows - 4 ≡ length split.0 = omega (arith, split.2, count, len) in
    let front : bytes_at (4 * rows - 4) (split.0 ++ (end_text last ++ rest)) ≡ Ok (split.0, end_text last ++ rest) = ap (λ (n : ℕ). bytes_at n (split.0 ++ (end_text last ++ rest))) width ∙ bytes_again split.0 (end_text last ++ rest) in
    let below : last < 2 ^ 32 = omega (arith, last_is) in
    let number : number_at w32 (end_text last ++ rest) ≡ Ok (last, rest) = number_again w32 (2 ^ 32) wide32 last rest below in
    let long : length (flat_map end_text (e ∷ ends)) ≡ 4 * length (e ∷ ends) = length-flat_map end_text 4 (λ k. refl) (e ∷ ends) in
    let total : 4 * rows + last ≡ length (flat_map end_text (e ∷ ends) ++ joined (c ∷ column)) = omega (arith, length-append (flat_map end_text (e ∷ ends)) (joined (c ∷ column)), long, count, len, last_is) in
    ap (texts_width rows) (four_parts (flat_map end_text (e ∷ ends)) split.0 (end_text last) (joined (c ∷ column)) tail split.1)
    ∙ bind_is (bytes_at (4 * rows - 4) (split.0 ++ (end_text last ++ rest))) (split.0, end_text last ++ rest) (λ es. number_at w32 es.1 >>= λ l. Ok (4 * rows + l.0)) front
    ∙ bind_is (number_at w32 (end_text last ++ rest)) (last, rest) (λ l. Ok (4 * rows + l.0)) number
    ∙ ap (λ (n : ℕ). done n) total

texts_known : (rows : ℕ) (column : List Cell) (tail : List ℕ) → length column ≡ rows → length (joined column) ≤ 67108864 → (if nat_eq rows 0 then Ok 0 else texts_width rows ((flat_map end_text (ends_from 0 (map text_of column)) ++ joined column) ++ tail)) ≡ Ok (length (flat_map end_text (ends_from 0 (map text_of column)) ++ joined column))
texts_known rows [] tail len within = let zero_rows : nat_eq rows 0 ≡ true = eq-eqb rows 0 (sym len) in rw zero_rows refl
texts_known rows (c ∷ column) tail len within =
    let some_rows : nat_eq rows 0 ≡ false = not_zero rows (omega arith) in
    rw some_rows (texts_wide rows c column tail len within)
  where
    not_zero : (n : ℕ) → 1 ≤ n → nat_eq n 0 ≡ false
    not_zero n le = elim (nat_eq n 0) as (λ b. nat_eq n 0 ≡ b → b ≡ false) [ true ↦ λ e. absurd (omega (arith, eqb-true n 0 e)) | false ↦ λ e. refl ] refl

width_known : (kind : ColType) (rows : ℕ) (column : List Cell) (tail : List ℕ) → length column ≡ rows → AllByRecursion (IsCellOf kind) column → length (joined column) ≤ 67108864 → width_at kind rows (cells_text kind column ++ tail) ≡ Ok (length (cells_text kind column))
unfolding width_at cells_text
width_known types.Int rows column tail len each within = let wide = wide_cells types.Int 8 int_wide column each in let same : 8 * rows ≡ length (flat_map cell_text column) = omega arith in ap (λ (n : ℕ). done n) same
width_known types.Flag rows column tail len each within = let wide = wide_cells types.Flag 1 flag_wide column each in let same : rows ≡ length (flat_map cell_text column) = omega arith in ap (λ (n : ℕ). done n) same
width_known types.Text rows column tail len each within = texts_known rows column tail len within
width_known types.Stamp rows column tail len each within = let wide = wide_cells types.Stamp 8 stamp_wide column each in let same : 8 * rows ≡ length (flat_map cell_text column) = omega arith in ap (λ (n : ℕ). done n) same

pub skip_known : (rows : ℕ) (column : Series) (tail : List ℕ) → IsStored rows column → skip_at rows (series_text column ++ tail) ≡ Ok ((column.0.1, column.0.0, cells_text column.0.1 column.1), tail)
unfolding skip_at
skip_known rows column tail is =
    let kind = column.0.1 in
    let name = column.0.0 in
    let text = cells_text column.0.1 column.1 in
    let whole : series_text column ++ tail ≡ type_code kind ∷ (length name ∷ (name ++ (text ++ tail))) = ap (λ (t : List ℕ). type_code kind ∷ (length name ∷ t)) (append_assoc name text tail) in
    let h0 : type_at (type_code kind ∷ (length name ∷ (name ++ (text ++ tail)))) ≡ Ok (kind, length name ∷ (name ++ (text ++ tail))) = type_again kind (length name ∷ (name ++ (text ++ tail))) in
    let h1 : number_at w8 (length name ∷ (name ++ (text ++ tail))) ≡ Ok (length name, name ++ (text ++ tail)) = byte_again (length name) (name ++ (text ++ tail)) in
    let h2 : bytes_at (length name) (name ++ (text ++ tail)) ≡ Ok (name, text ++ tail) = bytes_again name (text ++ tail) in
    let h3 : width_at kind rows (text ++ tail) ≡ Ok (length text) = width_known kind rows column.1 tail is.series.len is.series.each is.within in
    let h4 : bytes_at (length text) (text ++ tail) ≡ Ok (text, tail) = bytes_again text tail in
    ap (skip_at rows) whole
    ∙ bind_is (type_at (type_code kind ∷ (length name ∷ (name ++ (text ++ tail))))) (kind, length name ∷ (name ++ (text ++ tail))) (λ k. number_at w8 k.1 >>= λ n. bytes_at n.0 n.1 >>= λ m. width_at k.0 rows m.1 >>= λ w. bytes_at w m.1 >>= λ cs. Ok ((k.0, m.0, cs.0), cs.1)) h0
    ∙ bind_is (number_at w8 (length name ∷ (name ++ (text ++ tail)))) (length name, name ++ (text ++ tail)) (λ n. bytes_at n.0 n.1 >>= λ m. width_at kind rows m.1 >>= λ w. bytes_at w m.1 >>= λ cs. Ok ((kind, m.0, cs.0), cs.1)) h1
    ∙ bind_is (bytes_at (length name) (name ++ (text ++ tail))) (name, text ++ tail) (λ m. width_at kind rows m.1 >>= λ w. bytes_at w m.1 >>= λ cs. Ok ((kind, m.0, cs.0), cs.1)) h2
    ∙ bind_is (width_at kind rows (text ++ tail)) (length text) (λ w. bytes_at w (text ++ tail) >>= λ cs. Ok ((kind, name, cs.0), cs.1)) h3
    ∙ bind_is (bytes_at (length text) (text ++ tail)) (text, tail) (λ cs. Ok ((kind, name, cs.0), cs.1)) h4

-- ---- a name among the columns

-- i columns were passed, none of which has the name
pub record Passed (columns : List Series) (i : ℕ) (name tail rest : List ℕ) : Type 0 where
  pub text : rest ≡ flat_map series_text (drop i columns) ++ tail
  pub none : list_any (λ (c : Series). same_text name c.0.0) (take i columns) ≡ false

pub all_at : {X : Type 0} (P : X → Type 0) (xs : List X) (i : ℕ) (x : X) → AllByRecursion P xs → slice_get xs i ≡ Some x → P x
all_at P [] i x all e = absurd cc
all_at P (y ∷ ys) zero x all e = let same : y ≡ x = cc in subst P same all.0
all_at P (y ∷ ys) (suc i) x all e = all_at P ys i x all.1 e

-- the column at place i of spelled columns is found at the front
pub record Next (rows : ℕ) (columns : List Series) (i : ℕ) (tail rest : List ℕ) : Type 0 where
  pub column : Series
  pub is : slice_get columns i ≡ Some column
  pub stored : IsStored rows column
  pub read : skip_at rows rest ≡ Ok ((column.0.1, column.0.0, cells_text column.0.1 column.1), flat_map series_text (drop (i + 1) columns) ++ tail)

pub next_found : (rows : ℕ) (columns : List Series) (i : ℕ) (tail rest : List ℕ) → AllByRecursion (IsStored rows) columns → i < length columns → rest ≡ flat_map series_text (drop i columns) ++ tail → Next rows columns i tail rest
next_found rows columns i tail rest each lt text =
    let at = drop_at_place i columns lt in
    let stored = all_at (IsStored rows) columns i at.0 each at.1 in
    let others : List ℕ = flat_map series_text (drop (i + 1) columns) ++ tail in
    let whole : rest ≡ series_text at.0 ++ others = text ∙ ap (λ (cs : List Series). flat_map series_text cs ++ tail) (at.2 ∙ ap (λ (n : ℕ). at.0 ∷ drop n columns) (sym (add-one i))) ∙ flat_map-front series_text at.0 (drop (i + 1) columns) tail in
    record { column = at.0; is = at.1; stored = stored; read = ap (skip_at rows) whole ∙ skip_known rows at.0 others stored }

-- what was skipped is the column
pub skipped : (rows : ℕ) (rest : List ℕ) (a b : ColType × Text × List ℕ) (after others : List ℕ) → skip_at rows rest ≡ Ok (a, after) → skip_at rows rest ≡ Ok (b, others) → (a.1 ≡ b.1) × (after ≡ others)
skipped rows rest a b after others h k =
    let same = ok_is (a, after) (b, others) (sym h ∙ k) in
    (ap (λ (x : (ColType × Text × List ℕ) × List ℕ). x.0.1) same, ap (λ (x : (ColType × Text × List ℕ) × List ℕ). x.1) same)

abbrev pub has_name : List ℕ → Series → Bool
has_name name c = same_text name c.0.0

pub among_found : (rows : ℕ) (columns : List Series) (i : ℕ) (name tail rest : List ℕ) (kind : ColType) (other cells after : List ℕ) → AllByRecursion (IsStored rows) columns → i < length columns → Passed columns i name tail rest → skip_at rows rest ≡ Ok ((kind, other, cells), after) → same_text name other ≡ true → list_any (has_name name) columns ≡ true
among_found rows columns i name tail rest kind other cells after each lt passed read same =
    let n = next_found rows columns i tail rest each lt passed.text in
    let name_is = (skipped rows rest (kind, other, cells) (n.column.0.1, n.column.0.0, cells_text n.column.0.1 n.column.1) after (flat_map series_text (drop (i + 1) columns) ++ tail) read n.read).0 in
    let here : has_name name (get_or columns i n.column) ≡ true = ap (has_name name) (get_or_from_slice_get columns i n.column n.column n.is) ∙ ap (same_text name) (sym name_is) ∙ same in
    list_any_at (has_name name) columns i n.column lt here

pub among_not : (rows : ℕ) (columns : List Series) (i : ℕ) (name tail rest : List ℕ) (kind : ColType) (other cells after : List ℕ) → AllByRecursion (IsStored rows) columns → i < length columns → Passed columns i name tail rest → skip_at rows rest ≡ Ok ((kind, other, cells), after) → same_text name other ≡ false → Passed columns (i + 1) name tail after
among_not rows columns i name tail rest kind other cells after each lt passed read differ =
    let n = next_found rows columns i tail rest each lt passed.text in
    let s = skipped rows rest (kind, other, cells) (n.column.0.1, n.column.0.0, cells_text n.column.0.1 n.column.1) after (flat_map series_text (drop (i + 1) columns) ++ tail) read n.read in
    let here : has_name name (get_or columns i n.column) ≡ false = ap (has_name name) (get_or_from_slice_get columns i n.column n.column n.is) ∙ ap (same_text name) (sym s.0) ∙ differ in
    record { text = s.1; none = list_any_more (has_name name) columns i n.column lt ∙ rw (passed.none, here) refl }

pub among_err : (rows : ℕ) (columns : List Series) (i : ℕ) (name tail rest : List ℕ) (left : ℕ) → AllByRecursion (IsStored rows) columns → i < length columns → Passed columns i name tail rest → skip_at rows rest ≡ Err left → ⊥
among_err rows columns i name tail rest left each lt passed read = let n = next_found rows columns i tail rest each lt passed.text in let k = n.read in absurd cc

pub among_end : (columns : List Series) (i : ℕ) (name tail rest : List ℕ) → length columns ≤ i → Passed columns i name tail rest → list_any (has_name name) columns ≡ false
among_end columns i name tail rest le passed = ap (list_any (has_name name)) (sym (take_all i columns le)) ∙ passed.none
