-- The loop that reads the columns of a segment and keeps none of them.
use Rattle.std.proofs.Common.{◌≡◌, ℕ, suc, ◌+◌, ◌-◌, ◌<◌, ◌≤◌, Bool, true, false, not, ◌||◌, List, [], ◌∷◌, ◌++◌, length, take, drop, Result, Ok, Err, refl, sym, ap, subst, ◌∙◌, append_assoc, arith}
use Rattle.std.specs.Prelude.{nat_le}
use Rattle.std.specs.Str.{is_utf8}
use Rattle.std.specs.List.{flat_map, AllByRecursion, list_any}
use Rattle.std.proofs.lemmas.List.{length-append, drop_at, append-nil, take-append-drop}
use Rattle.std.proofs.lemmas.List.Concat.{flat_map-cons, flat_map-append}
use Rattle.byte_fields.specs.Reading.{Reading, ◌>>=◌, wanted, bytes_at}
use Rattle.byte_fields.specs.Readers.{IsBytes, seen_by, rest_of}
use Rattle.byte_fields.proofs.Steps.{IsBytes-drop, done, ok_is, bind_ok, wanted_ok, seen_ok, seen_err}
use Rattle.frame_core.specs.declared.cell.ColType.{ColType}
use Rattle.frame_core.specs.declared.cell.Cell.{Cell}
use Rattle.frame_core.specs.Texts.{Text, same_text}
use Rattle.frame_core.specs.Schemas.{Head}
use Rattle.segment_bytes.specs.Heads.{head_text, type_at, text_at, length_at, name_at, head_at}
use Rattle.segment_bytes.specs.CellTexts.{joined, cells_text, cells_at}
use Rattle.segment_bytes.specs.Sheets.{Series, series_text, series_at, columns_at}
use Rattle.segment_bytes.specs.Kept.{IsStored}
use Rattle.segment_bytes.specs.Skipping.{counted}
use Rattle.segment_bytes.proofs.HeadLaws.{head_takes}
use Rattle.segment_bytes.proofs.Walks.{has_name}
use Rattle.segment_bytes.proofs.CellLaws.{CellsRead, cells_take}

-- ---- columns that were read

-- the heads of these columns and of those before them, the last first
abbrev pub behind : List Head → List Series → List Head
behind earlier [] = earlier
behind earlier (c ∷ columns) = behind (c.0 ∷ earlier) columns

-- the columns before place `at` were read, and what is left gives what the whole gives
pub record SoFar (rows count at : ℕ) (first rest : List ℕ) (so_far : ℕ) : Type 0 where
  pub columns : List Series
  pub len : length columns ≡ at
  pub text : first ≡ flat_map series_text columns ++ rest
  pub each : AllByRecursion (IsStored rows) columns
  pub small : so_far ≤ 67108864
  pub goes_on : rest_of (columns_at (behind [] columns) so_far rows (count - at) rest) ≡ rest_of (columns_at [] 0 rows count first)

-- ---- heads that are read without a look at the earlier ones

-- the text at the front, with nothing said of other names
text_named : (n : ℕ) (bytes : List ℕ) (x : Text × List ℕ) → name_at [] n bytes ≡ Ok x → text_at n bytes ≡ Ok x
unfolding name_at
text_named n bytes x e =
    let a = bind_ok (text_at n bytes) (λ t. wanted (not (list_any (λ (h : Head). same_text t.0 h.0) [])) bytes (Ok t)) x e in
    a.1 ∙ ap (λ (y : Text × List ℕ). done y) (ok_is a.0 x a.2)

name_fresh : (earlier : List Head) (n : ℕ) (bytes name rest : List ℕ) → text_at n bytes ≡ Ok (name, rest) → list_any (λ (h : Head). same_text name h.0) earlier ≡ false → name_at earlier n bytes ≡ Ok (name, rest)
unfolding name_at
name_fresh earlier n bytes name rest e fresh = rw (e, fresh) refl

name_taken : (earlier : List Head) (n : ℕ) (bytes name rest : List ℕ) → text_at n bytes ≡ Ok (name, rest) → list_any (λ (h : Head). same_text name h.0) earlier ≡ true → name_at earlier n bytes ≡ Err (length bytes)
unfolding name_at
name_taken earlier n bytes name rest e taken = rw (e, taken) refl

name_fails : (earlier : List Head) (n : ℕ) (bytes : List ℕ) (left : ℕ) → name_at [] n bytes ≡ Err left → name_at earlier n bytes ≡ Err left
unfolding name_at
name_fails earlier n bytes left e =
    elim (text_at n bytes) as (λ r. (r >>= λ t. wanted (not (list_any (λ (h : Head). same_text t.0 h.0) [])) bytes (Ok t)) ≡ Err left → (r >>= λ t. wanted (not (list_any (λ (h : Head). same_text t.0 h.0) earlier)) bytes (Ok t)) ≡ Err left) [
      | Ok t ↦ λ h. absurd cc
      | Err k ↦ λ h. h
    ] e

text_parts : (n : ℕ) (bytes text rest : List ℕ) → text_at n bytes ≡ Ok (text, rest) → bytes ≡ text ++ rest
unfolding text_at
text_parts n bytes text rest e =
    let a = bind_ok (bytes_at n bytes) (λ t. wanted (is_utf8 t.0) bytes (Ok t)) (text, rest) e in
    let g = wanted_ok (is_utf8 a.0.0) bytes (done a.0) (text, rest) a.2 in
    let b = wanted_ok (nat_le n (length bytes)) bytes (done (take n bytes, drop n bytes)) a.0 a.1 in
    let same = ok_is (take n bytes, drop n bytes) a.0 b.1 ∙ ok_is a.0 (text, rest) g.1 in
    sym (take-append-drop n bytes) ∙ (λ i. (same i).0 ++ (same i).1)

-- the parts of a head that was read
record HeadParts (bytes : List ℕ) (head : Head) (rest : List ℕ) : Type 0 where
  after_type : List ℕ
  n : ℕ
  after_length : List ℕ
  type_is : type_at bytes ≡ Ok (head.1, after_type)
  length_is : length_at after_type ≡ Ok (n, after_length)
  text_is : text_at n after_length ≡ Ok (head.0, rest)

head_parts : (bytes : List ℕ) (x : Head × List ℕ) → head_at [] bytes ≡ Ok x → HeadParts bytes x.0 x.1
unfolding head_at
head_parts bytes x e =
    let a = bind_ok (type_at bytes) (λ kind. length_at kind.1 >>= λ n. name_at [] n.0 n.1 >>= λ name. Ok ((name.0, kind.0), name.1)) x e in
    let b = bind_ok (length_at a.0.1) (λ n. name_at [] n.0 n.1 >>= λ name. Ok ((name.0, a.0.0), name.1)) x a.2 in
    let c = bind_ok (name_at [] b.0.0 b.0.1) (λ name. Ok ((name.0, a.0.0), name.1)) x b.2 in
    let made : Head × List ℕ = ((c.0.0, a.0.0), c.0.1) in
    subst (λ (y : Head × List ℕ). HeadParts bytes y.0 y.1) (ok_is made x c.2) (record { after_type = a.0.1; n = b.0.0; after_length = b.0.1; type_is = a.1; length_is = b.1; text_is = text_named b.0.0 b.0.1 c.0 c.1 })

pub head_fresh : (earlier : List Head) (bytes : List ℕ) (head : Head) (rest : List ℕ) → head_at [] bytes ≡ Ok (head, rest) → list_any (λ (h : Head). same_text head.0 h.0) earlier ≡ false → head_at earlier bytes ≡ Ok (head, rest)
unfolding head_at
head_fresh earlier bytes head rest e fresh =
    let p = head_parts bytes (head, rest) e in
    let name : name_at earlier p.n p.after_length ≡ Ok (head.0, rest) = name_fresh earlier p.n p.after_length head.0 rest p.text_is fresh in
    rw (p.type_is, p.length_is, name) refl

pub head_taken : (earlier : List Head) (bytes : List ℕ) (head : Head) (rest : List ℕ) → head_at [] bytes ≡ Ok (head, rest) → list_any (λ (h : Head). same_text head.0 h.0) earlier ≡ true → head_at earlier bytes ≡ Err (length head.0 + length rest)
unfolding head_at
head_taken earlier bytes head rest e taken =
    let p = head_parts bytes (head, rest) e in
    let name : name_at earlier p.n p.after_length ≡ Err (length p.after_length) = name_taken earlier p.n p.after_length head.0 rest p.text_is taken in
    let whole : length p.after_length ≡ length head.0 + length rest = ap length (text_parts p.n p.after_length head.0 rest p.text_is) ∙ length-append head.0 rest in
    rw (p.type_is, p.length_is, name) (ap (λ (k : ℕ). Err k) whole)

-- a name with its type
abbrev named : ColType → Text × List ℕ → Head × List ℕ
named kind name = ((name.0, kind), name.1)

behind_length : (earlier : List Head) (kind : ColType) (n : ℕ) (bytes : List ℕ) (left : ℕ) → seen_by (named kind) (name_at [] n bytes) ≡ Err left → seen_by (named kind) (name_at earlier n bytes) ≡ Err left
behind_length earlier kind n bytes left h = ap (seen_by (named kind)) (name_fails earlier n bytes left (seen_err (named kind) (name_at [] n bytes) left h))

behind_type : (earlier : List Head) (kind : ColType) (r : Reading ℕ) (left : ℕ) → (r >>= λ n. seen_by (named kind) (name_at [] n.0 n.1)) ≡ Err left → (r >>= λ n. seen_by (named kind) (name_at earlier n.0 n.1)) ≡ Err left
behind_type earlier kind (Ok n) left h = behind_length earlier kind n.0 n.1 left h
behind_type earlier kind (Err k) left h = h

behind_front : (earlier : List Head) (r : Reading ColType) (left : ℕ) → (r >>= λ kind. length_at kind.1 >>= λ n. seen_by (named kind.0) (name_at [] n.0 n.1)) ≡ Err left → (r >>= λ kind. length_at kind.1 >>= λ n. seen_by (named kind.0) (name_at earlier n.0 n.1)) ≡ Err left
behind_front earlier (Ok kind) left h = behind_type earlier kind.0 (length_at kind.1) left h
behind_front earlier (Err k) left h = h

pub head_fails : (earlier : List Head) (bytes : List ℕ) (left : ℕ) → head_at [] bytes ≡ Err left → head_at earlier bytes ≡ Err left
unfolding head_at
head_fails earlier bytes left e = behind_front earlier (type_at bytes) left e

-- ---- one column more

behind_push : (earlier : List Head) (columns : List Series) (c : Series) → behind earlier (columns ++ c ∷ []) ≡ c.0 ∷ behind earlier columns
behind_push earlier [] c = refl
behind_push earlier (d ∷ columns) c = behind_push (d.0 ∷ earlier) columns c

any_behind : (name : List ℕ) (earlier : List Head) (columns : List Series) → list_any (λ (h : Head). same_text name h.0) (behind earlier columns) ≡ (list_any (has_name name) columns || list_any (λ (h : Head). same_text name h.0) earlier)
any_behind name earlier [] = refl
any_behind name earlier (c ∷ columns) = any_behind name (c.0 ∷ earlier) columns ∙ swapped (list_any (has_name name) columns) (same_text name c.0.0) (list_any (λ (h : Head). same_text name h.0) earlier)
  where
    swapped : (a b c : Bool) → (a || (b || c)) ≡ ((b || a) || c)
    swapped true true c = refl
    swapped true false c = refl
    swapped false true c = refl
    swapped false false c = refl

-- none of the heads has the name, or one has
any_none : (name : List ℕ) (columns : List Series) → list_any (λ (h : Head). same_text name h.0) (behind [] columns) ≡ list_any (has_name name) columns
any_none name columns = any_behind name [] columns ∙ or_false (list_any (has_name name) columns)
  where
    or_false : (b : Bool) → (b || false) ≡ b
    or_false true = refl
    or_false false = refl

column_rest : (c : Series) (r : Reading (List Series)) → rest_of (r >>= λ more. Ok (c ∷ more.0, more.1)) ≡ rest_of r
column_rest c (Ok more) = refl
column_rest c (Err left) = refl

columns_on : (earlier : List Head) (so_far rows n i : ℕ) (bytes : List ℕ) (c : Series) (rest : List ℕ) (total : Result (List ℕ) ℕ) → i < n → series_at earlier so_far rows bytes ≡ Ok (c, rest) → rest_of (columns_at earlier so_far rows (n - i) bytes) ≡ total → rest_of (columns_at (c.0 ∷ earlier) (so_far + length (joined c.1)) rows (n - (i + 1)) rest) ≡ total
unfolding columns_at
columns_on earlier so_far rows n i bytes c rest total lt h goes_on =
    let k : n - i ≡ suc (n - (i + 1)) = omega arith in
    let one : rest_of (columns_at earlier so_far rows (n - i) bytes) ≡ rest_of (columns_at (c.0 ∷ earlier) (so_far + length (joined c.1)) rows (n - (i + 1)) rest) =
    ap (λ (m : ℕ). rest_of (columns_at earlier so_far rows m bytes)) k
    ∙ ap (λ r. rest_of (r >>= λ column. columns_at (column.0.0 ∷ earlier) (so_far + length (joined column.0.1)) rows (n - (i + 1)) column.1 >>= λ more. Ok (column.0 ∷ more.0, more.1))) h
    ∙ column_rest c (columns_at (c.0 ∷ earlier) (so_far + length (joined c.1)) rows (n - (i + 1)) rest) in
    sym one ∙ goes_on

columns_fail : (earlier : List Head) (so_far rows n i : ℕ) (bytes : List ℕ) (left : ℕ) (total : Result (List ℕ) ℕ) → i < n → series_at earlier so_far rows bytes ≡ Err left → rest_of (columns_at earlier so_far rows (n - i) bytes) ≡ total → total ≡ Err left
unfolding columns_at
columns_fail earlier so_far rows n i bytes left total lt h goes_on =
    let k : n - i ≡ suc (n - (i + 1)) = omega arith in
    sym goes_on ∙ ap (λ (m : ℕ). rest_of (columns_at earlier so_far rows m bytes)) k
    ∙ ap (λ r. rest_of (r >>= λ column. columns_at (column.0.0 ∷ earlier) (so_far + length (joined column.0.1)) rows (n - (i + 1)) column.1 >>= λ more. Ok (column.0 ∷ more.0, more.1))) h

series_is : (earlier : List Head) (so_far rows : ℕ) (bytes : List ℕ) (head : Head) (cells : List ℕ) (column : List Cell) (after : List ℕ) → head_at earlier bytes ≡ Ok (head, cells) → cells_at head.1 so_far rows cells ≡ Ok (column, after) → series_at earlier so_far rows bytes ≡ Ok ((head, column), after)
unfolding series_at
series_is earlier so_far rows bytes head cells column after h k = rw (h, k) refl

series_head_fails : (earlier : List Head) (so_far rows : ℕ) (bytes : List ℕ) (left : ℕ) → head_at earlier bytes ≡ Err left → series_at earlier so_far rows bytes ≡ Err left
unfolding series_at
series_head_fails earlier so_far rows bytes left h = rw h refl

series_cells_fail : (earlier : List Head) (so_far rows : ℕ) (bytes : List ℕ) (head : Head) (cells : List ℕ) (left : ℕ) → head_at earlier bytes ≡ Ok (head, cells) → cells_at head.1 so_far rows cells ≡ Err left → series_at earlier so_far rows bytes ≡ Err left
unfolding series_at
series_cells_fail earlier so_far rows bytes head cells left h k = rw (h, k) refl

-- ---- the loop over the columns

pub so_far_none : (rows count : ℕ) (first : List ℕ) → SoFar rows count 0 first first 0
so_far_none rows count first =
    let all : count - 0 ≡ count = omega arith in
    record { columns = []; len = refl; text = refl; each = tt; small = omega arith; goes_on = ap (λ (n : ℕ). rest_of (columns_at [] 0 rows n first)) all }

-- what stands behind bytes is bytes
tail_fits : (bytes front rest : List ℕ) → bytes ≡ front ++ rest → IsBytes bytes → IsBytes rest
tail_fits bytes front rest e fits = subst (λ (t : List ℕ). IsBytes t) (drop_at front rest (length front) refl) (IsBytes-drop (length front) (front ++ rest) (subst (λ (t : List ℕ). IsBytes t) e fits))

-- how many bytes of text a column adds
record CellsAdd (so_far rows : ℕ) (head : Head) (cells : List ℕ) (len : ℕ) (after : List ℕ) : Type 0 where
  column : List Cell
  read : cells_at head.1 so_far rows cells ≡ Ok (column, after)
  len_is : length (joined column) ≡ len
  kept : CellsRead head.1 so_far cells rows column after

cells_add : (so_far rows : ℕ) (head : Head) (cells : List ℕ) (len : ℕ) (after : List ℕ) → so_far ≤ 67108864 → IsBytes cells → seen_by counted (cells_at head.1 so_far rows cells) ≡ Ok (len, after) → CellsAdd so_far rows head cells len after
cells_add so_far rows head cells len after small fits e =
    let a = seen_ok counted (cells_at head.1 so_far rows cells) (len, after) e in
    let rest_is : a.0.1 ≡ after = ap (λ (p : ℕ × List ℕ). p.1) a.2 in
    let read : cells_at head.1 so_far rows cells ≡ Ok (a.0.0, after) = a.1 ∙ ap (λ (r : List ℕ). done (a.0.0, r)) rest_is in
    record { column = a.0.0; read = read; len_is = ap (λ (p : ℕ × List ℕ). p.0) a.2; kept = cells_take head.1 so_far rows cells (a.0.0, after) small fits read }

pub cells_small : (rows count at : ℕ) (first rest : List ℕ) (so_far : ℕ) (name : List ℕ) (kind : ColType) (cells : List ℕ) (len : ℕ) (after : List ℕ) → SoFar rows count at first rest so_far → IsBytes first → head_at [] rest ≡ Ok ((name, kind), cells) → seen_by counted (cells_at kind so_far rows cells) ≡ Ok (len, after) → so_far + len ≤ 67108864
cells_small rows count at first rest so_far name kind cells len after s fits h e =
    let head = head_takes [] rest ((name, kind), cells) (tail_fits first (flat_map series_text s.columns) rest s.text fits) h in
    let add = cells_add so_far rows (name, kind) cells len after s.small head.takes.rest_fits e in
    omega (arith, add.kept.within, add.len_is)

-- what the look at the earlier names says
abbrev pub Looked : ℕ → ℕ → List ℕ → List ℕ → Bool → Type 0
Looked rows at first name answer = (columns : List Series) (tail : List ℕ) → AllByRecursion (IsStored rows) columns → length columns ≡ at → first ≡ flat_map series_text columns ++ tail → answer ≡ list_any (λ (c : Series). same_text name c.0.0) columns

pub so_far_more : (rows count at : ℕ) (first rest : List ℕ) (so_far : ℕ) (name : List ℕ) (kind : ColType) (cells : List ℕ) (len : ℕ) (after : List ℕ) → SoFar rows count at first rest so_far → at < count → IsBytes first → head_at [] rest ≡ Ok ((name, kind), cells) → Looked rows at first name false → seen_by counted (cells_at kind so_far rows cells) ≡ Ok (len, after) → SoFar rows count (at + 1) first after (so_far + len)
so_far_more rows count at first rest so_far name kind cells len after s lt fits h looked e =
    let head = head_takes [] rest ((name, kind), cells) (tail_fits first (flat_map series_text s.columns) rest s.text fits) h in
    let add = cells_add so_far rows (name, kind) cells len after s.small head.takes.rest_fits e in
    let c : Series = ((name, kind), add.column) in
    let fresh = any_none name s.columns ∙ sym (looked s.columns rest s.each s.len s.text) in
    let read = series_is (behind [] s.columns) so_far rows rest (name, kind) cells add.column after (head_fresh (behind [] s.columns) rest (name, kind) cells h fresh) add.read in
    let goes_on = columns_on (behind [] s.columns) so_far rows count at rest c after (rest_of (columns_at [] 0 rows count first)) lt read s.goes_on in
    let stored : IsStored rows c = record { series = record { named = head.named; len = add.kept.len; each = add.kept.each }; within = omega (arith, add.kept.within) } in
    let text_is : rest ≡ series_text c ++ after = head.takes.parts ∙ ap (λ (t : List ℕ). head_text (name, kind) ++ t) add.kept.takes.parts ∙ sym (append_assoc (head_text (name, kind)) (cells_text kind add.column) after) in
    record {
      columns = s.columns ++ c ∷ [];
      len = length-append s.columns (c ∷ []) ∙ ap (λ (n : ℕ). n + 1) s.len;
      text = s.text ∙ ap (λ (t : List ℕ). flat_map series_text s.columns ++ t) text_is ∙ sym (append_assoc (flat_map series_text s.columns) (series_text c) after) ∙ ap (λ (t : List ℕ). t ++ after) (sym (flat_map-push s.columns c));
      each = all_push (IsStored rows) s.columns c s.each stored;
      small = omega (arith, add.kept.within, add.len_is);
      goes_on = (λ i. rest_of (columns_at (behind_push [] s.columns c i) (so_far + sym add.len_is i) rows (count - (at + 1)) after)) ∙ goes_on;
    }
  where
    flat_map-push : (columns : List Series) (d : Series) → flat_map series_text (columns ++ d ∷ []) ≡ flat_map series_text columns ++ series_text d
    flat_map-push columns d = flat_map-append series_text columns (d ∷ []) ∙ ap (λ (t : List ℕ). flat_map series_text columns ++ t) (flat_map-cons series_text d [] ∙ append-nil (series_text d))

    all_push : {X : Type 0} (P : X → Type 0) (xs : List X) (x : X) → AllByRecursion P xs → P x → AllByRecursion P (xs ++ x ∷ [])
    all_push P [] x all p = (p, tt)
    all_push P (y ∷ ys) x all p = (all.0, all_push P ys x all.1 p)

pub so_far_head : (rows count at : ℕ) (first rest : List ℕ) (so_far left : ℕ) → SoFar rows count at first rest so_far → at < count → head_at [] rest ≡ Err left → rest_of (columns_at [] 0 rows count first) ≡ Err left
so_far_head rows count at first rest so_far left s lt h =
    columns_fail (behind [] s.columns) so_far rows count at rest left (rest_of (columns_at [] 0 rows count first)) lt (series_head_fails (behind [] s.columns) so_far rows rest left (head_fails (behind [] s.columns) rest left h)) s.goes_on

pub so_far_name : (rows count at : ℕ) (first rest : List ℕ) (so_far : ℕ) (name : List ℕ) (kind : ColType) (cells : List ℕ) → SoFar rows count at first rest so_far → at < count → IsBytes first → head_at [] rest ≡ Ok ((name, kind), cells) → Looked rows at first name true → rest_of (columns_at [] 0 rows count first) ≡ Err (length name + length cells)
so_far_name rows count at first rest so_far name kind cells s lt fits h looked =
    let taken = any_none name s.columns ∙ sym (looked s.columns rest s.each s.len s.text) in
    columns_fail (behind [] s.columns) so_far rows count at rest (length name + length cells) (rest_of (columns_at [] 0 rows count first)) lt (series_head_fails (behind [] s.columns) so_far rows rest (length name + length cells) (head_taken (behind [] s.columns) rest (name, kind) cells h taken)) s.goes_on

pub so_far_cells : (rows count at : ℕ) (first rest : List ℕ) (so_far : ℕ) (name : List ℕ) (kind : ColType) (cells : List ℕ) (left : ℕ) → SoFar rows count at first rest so_far → at < count → head_at [] rest ≡ Ok ((name, kind), cells) → Looked rows at first name false → seen_by counted (cells_at kind so_far rows cells) ≡ Err left → rest_of (columns_at [] 0 rows count first) ≡ Err left
so_far_cells rows count at first rest so_far name kind cells left s lt h looked e =
    let fresh = any_none name s.columns ∙ sym (looked s.columns rest s.each s.len s.text) in
    columns_fail (behind [] s.columns) so_far rows count at rest left (rest_of (columns_at [] 0 rows count first)) lt
    (series_cells_fail (behind [] s.columns) so_far rows rest (name, kind) cells left (head_fresh (behind [] s.columns) rest (name, kind) cells h fresh) (seen_err counted (cells_at kind so_far rows cells) left e)) s.goes_on

pub so_far_all : (rows count at : ℕ) (first rest : List ℕ) (so_far : ℕ) → SoFar rows count at first rest so_far → count ≤ at → rest_of (columns_at [] 0 rows count first) ≡ Ok rest
unfolding columns_at
so_far_all rows count at first rest so_far s le =
    let k : count - at ≡ 0 = omega arith in
    sym s.goes_on ∙ ap (λ (n : ℕ). rest_of (columns_at (behind [] s.columns) so_far rows n rest)) k
