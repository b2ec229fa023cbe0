-- A slot that is read was spelled so, and a slot that is spelled is read again.
use Rattle.std.proofs.Common.{◌≡◌, ℕ, ◌+◌, ◌^◌, ℤ, Bool, true, ◌&&◌, List, ◌∷◌, ◌++◌, Ok, refl, sym, ap, subst, ◌∙◌, append_assoc, w64}
use Rattle.std.specs.Prelude.{nat_le, nat_eq, if◌then◌else◌}
use Rattle.std.specs.Int.{w8, w16, w32, to_be_bytes}
use Rattle.std.specs.Ordering.{int_eq}
use Rattle.byte_fields.specs.Reading.{Reading, ◌>>=◌, wanted, number_at, signed_at, signed_text}
use Rattle.byte_fields.specs.Readers.{IsBytes}
use Rattle.byte_fields.proofs.Steps.{done, ok_is, bind_ok, bind_is, wanted_ok, wanted_is, Takes, Takes-then}
use Rattle.byte_fields.proofs.Numbers.{byte_again, wide16, wide32, number_takes, number_again, signed_takes, signed_again}
use Rattle.key_kind.specs.declared.key.KeyKind.{KeyKind}
use Rattle.key_kind.specs.declared.key.KeyKind.TheVariants as kinds
use Rattle.key_kind.specs.declared.key.Key.{Key}
use Rattle.key_kind.specs.Keys.{kind_code, same_kind, IsKey, FitsFields}
use Rattle.key_kind.specs.KeyText.{key_text, name_text, key_at, key_of_at, kind_at, kind_of, kind_found}
use Rattle.key_kind.proofs.KeyTests.{kind_back, same_kind_is}
use Rattle.key_kind.proofs.KeyReading.{KeyRead, key_takes, key_again}
use Rattle.index_tree.specs.declared.index.Slot.{Slot}
use Rattle.index_tree.specs.IndexText.{slot_text, Reach, GoesOn, rules_after, slot_at}
use Rattle.index_tree.specs.IndexRules.{FitsSlot}

-- ---- the key of a tile

-- what stands behind the kind of a key
abbrev after_kind : Key → List ℕ → List ℕ
after_kind k rest = name_text k.name ++ to_be_bytes w32 k.client ++ to_be_bytes w64 k.serial ++ to_be_bytes w64 k.version ++ signed_text k.first ++ signed_text k.last ++ rest

kind_again : (kind : KeyKind) (rest : List ℕ) → kind_at (kind_code kind ∷ rest) ≡ Ok (kind, rest)
kind_again kind rest =
    bind_is (number_at w8 (kind_code kind ∷ rest)) (kind_code kind, rest) (λ code. kind_found (kind_code kind ∷ rest) code.1 (kind_of code.0)) (byte_again (kind_code kind) rest)
    ∙ ap (kind_found (kind_code kind ∷ rest) rest) (kind_back kind)

-- a spelled key begins with its kind
kind_of_text : (k : Key) (rest : List ℕ) → (after : List ℕ) × (kind_at (key_text k ++ rest) ≡ Ok (k.kind, after))
unfolding key_text
kind_of_text k rest = (after_kind k rest, kind_again k.kind (after_kind k rest))

-- the key of a tile was taken
pub record TileKeyRead (bytes : List ℕ) (k : Key) (rest : List ℕ) : Type 0 where
  pub key : KeyRead bytes k rest
  pub is_tile : k.kind ≡ kinds.TableData

pub tile_key_takes : (bytes : List ℕ) (x : Key × List ℕ) → IsBytes bytes → key_of_at kinds.TableData bytes ≡ Ok x → TileKeyRead bytes x.0 x.1
tile_key_takes bytes x fits e =
    let a = bind_ok (kind_at bytes) (λ first. wanted (same_kind first.0 kinds.TableData) bytes (key_at bytes)) x e in
    let g = wanted_ok (same_kind a.0.0 kinds.TableData) bytes (key_at bytes) x a.2 in
    let k = key_takes bytes x.0 x.1 fits g.1 in
    let again = kind_of_text x.0 x.1 in
    let both : done (x.0.kind, again.0) ≡ done a.0 = sym again.1 ∙ ap kind_at (sym k.takes.parts) ∙ a.1 in
    let kind : x.0.kind ≡ a.0.0 = ap (λ (p : KeyKind × List ℕ). p.0) (ok_is (x.0.kind, again.0) a.0 both) in
    record { key = k; is_tile = kind ∙ same_kind_is a.0.0 kinds.TableData g.0 }

pub tile_key_again : (k : Key) (rest : List ℕ) → k.kind ≡ kinds.TableData → IsKey k → FitsFields k → key_of_at kinds.TableData (key_text k ++ rest) ≡ Ok (k, rest)
tile_key_again k rest is_tile is fits =
    let again = kind_of_text k rest in
    let same : same_kind k.kind kinds.TableData ≡ true = ap (λ (kind : KeyKind). same_kind kind kinds.TableData) is_tile in
    bind_is (kind_at (key_text k ++ rest)) (k.kind, again.0) (λ first. wanted (same_kind first.0 kinds.TableData) (key_text k ++ rest) (key_at (key_text k ++ rest))) again.1
    ∙ wanted_is (same_kind k.kind kinds.TableData) (key_text k ++ rest) (key_at (key_text k ++ rest)) same
    ∙ key_again k rest is fits

-- ---- the rules of a slot's fields

-- a slice from this column on may have so many, of so many in the index
abbrev pub takes_cols : ℕ → ℕ → ℕ → Bool
takes_cols columns first_col cols = if nat_eq columns 0 then nat_eq cols 0 else nat_le 1 cols && nat_le cols 127 && nat_le (first_col + cols) columns

-- the fields of a slot keep these rules
pub record Allowed (columns : ℕ) (rule : GoesOn) (s : Slot) : Type 0 where
  pub is_tile : s.key.kind ≡ kinds.TableData
  pub first_row : rule.first_row s.part.first_row ≡ true
  pub rows : rule.rows s.part.rows ≡ true
  pub first : (rule.first s.first && int_eq s.key.first s.first) ≡ true
  pub last : (rule.last s.first s.last && int_eq s.key.last s.last) ≡ true
  pub first_col : rule.first_col s.part.first_col ≡ true
  pub cols : takes_cols columns s.part.first_col s.part.cols ≡ true

-- ---- a slot that is read field by field

-- each field is read and keeps its rule
pub slot_read : (total columns : ℕ) (reach : Reach) (b0 b1 b2 b3 b4 b5 b6 b7 : List ℕ) (s : Slot)
    → key_of_at kinds.TableData b0 ≡ Ok (s.key, b1)
    → number_at w32 b1 ≡ Ok (s.part.first_row, b2) → (rules_after total reach).first_row s.part.first_row ≡ true
    → number_at w32 b2 ≡ Ok (s.part.rows, b3) → (rules_after total reach).rows s.part.rows ≡ true
    → signed_at b3 ≡ Ok (s.first, b4) → ((rules_after total reach).first s.first && int_eq s.key.first s.first) ≡ true
    → signed_at b4 ≡ Ok (s.last, b5) → ((rules_after total reach).last s.first s.last && int_eq s.key.last s.last) ≡ true
    → number_at w16 b5 ≡ Ok (s.part.first_col, b6) → (rules_after total reach).first_col s.part.first_col ≡ true
    → number_at w16 b6 ≡ Ok (s.part.cols, b7) → takes_cols columns s.part.first_col s.part.cols ≡ true
    → slot_at total columns reach b0 ≡ Ok (s, b7)
slot_read total columns reach b0 b1 b2 b3 b4 b5 b6 b7 s h0 h1 r1 h2 r2 h3 r3 h4 r4 h5 r5 h6 r6 =
    rw (h0, h1, r1, h2, r2, h3, r3, h4, r4, h5, r5, h6, r6) refl

-- ---- both ways

-- a slot was taken, whose fields keep these rules
pub record SlotRead (columns : ℕ) (rule : GoesOn) (bytes : List ℕ) (s : Slot) (rest : List ℕ) : Type 0 where
  pub takes : Takes bytes (slot_text s) rest
  pub fits : FitsSlot s
  pub allowed : Allowed columns rule s

slot_made : (columns : ℕ) (rule : GoesOn) (b0 b1 b2 b3 b4 b5 b6 b7 : List ℕ) (s : Slot) → IsBytes b0
    → key_of_at kinds.TableData b0 ≡ Ok (s.key, b1)
    → number_at w32 b1 ≡ Ok (s.part.first_row, b2)
    → number_at w32 b2 ≡ Ok (s.part.rows, b3)
    → signed_at b3 ≡ Ok (s.first, b4)
    → signed_at b4 ≡ Ok (s.last, b5)
    → number_at w16 b5 ≡ Ok (s.part.first_col, b6)
    → number_at w16 b6 ≡ Ok (s.part.cols, b7)
    → (s.key.kind ≡ kinds.TableData → Allowed columns rule s)
    → SlotRead columns rule b0 s b7
slot_made columns rule b0 b1 b2 b3 b4 b5 b6 b7 s fits h0 h1 h2 h3 h4 h5 h6 allowed =
    let t0 = tile_key_takes b0 (s.key, b1) fits h0 in
    let t1 = number_takes w32 (2 ^ 32) wide32 b1 s.part.first_row b2 t0.key.takes.rest_fits h1 in
    let t2 = number_takes w32 (2 ^ 32) wide32 b2 s.part.rows b3 t1.takes.rest_fits h2 in
    let t3 = signed_takes b3 s.first b4 t2.takes.rest_fits h3 in
    let t4 = signed_takes b4 s.last b5 t3.takes.rest_fits h4 in
    let t5 = number_takes w16 (2 ^ 16) wide16 b5 s.part.first_col b6 t4.takes.rest_fits h5 in
    let t6 = number_takes w16 (2 ^ 16) wide16 b6 s.part.cols b7 t5.takes.rest_fits h6 in
    let x0 = key_text s.key in
    let x1 = to_be_bytes w32 s.part.first_row in
    let x2 = to_be_bytes w32 s.part.rows in
    let x3 = signed_text s.first in
    let x4 = signed_text s.last in
    let x5 = to_be_bytes w16 s.part.first_col in
    let x6 = to_be_bytes w16 s.part.cols in
    let e1 = Takes-then b0 x0 b1 x1 b2 t0.key.takes t1.takes in
    let e2 = Takes-then b0 (x0 ++ x1) b2 x2 b3 e1 t2.takes in
    let e3 = Takes-then b0 (x0 ++ x1 ++ x2) b3 x3 b4 e2 t3.takes in
    let e4 = Takes-then b0 (x0 ++ x1 ++ x2 ++ x3) b4 x4 b5 e3 t4.takes in
    let e5 = Takes-then b0 (x0 ++ x1 ++ x2 ++ x3 ++ x4) b5 x5 b6 e4 t5.takes in
    let e6 = Takes-then b0 (x0 ++ x1 ++ x2 ++ x3 ++ x4 ++ x5) b6 x6 b7 e5 t6.takes in
    record {
      takes = e6;
      fits = record { key = t0.key.is_key; fields = t0.key.fits; first_row = t1.below; rows = t2.below; first = t3.fits; last = t4.fits; first_col = t5.below; cols = t6.below };
      allowed = allowed t0.is_tile;
    }

-- the reading of a slot in three steps: its key and rows, its stamps, its columns
unfoldable at_slice : ℕ → GoesOn → Key → ℕ → ℕ → ℤ → ℤ → List ℕ → List ℕ → Reading Slot
at_slice columns rule k first_row rows first last field bytes = do
  first_col ← wanted (rule.last first last && int_eq k.last last) field (number_at w16 bytes)
  cols ← wanted (rule.first_col first_col.0) bytes (number_at w16 first_col.1)
  wanted (takes_cols columns first_col.0 cols.0) first_col.1 (Ok (record { key = k; part = record { first_row = first_row; rows = rows; first_col = first_col.0; cols = cols.0 }; first = first; last = last }, cols.1))

unfoldable at_stamps : ℕ → GoesOn → Key → ℕ → ℕ → List ℕ → List ℕ → Reading Slot
at_stamps columns rule k first_row rows field bytes = do
  first ← wanted (rule.rows rows) field (signed_at bytes)
  last ← wanted (rule.first first.0 && int_eq k.first first.0) bytes (signed_at first.1)
  at_slice columns rule k first_row rows first.0 last.0 first.1 last.1

unfoldable at_rows : ℕ → GoesOn → List ℕ → Reading Slot
at_rows columns rule bytes = do
  key ← key_of_at kinds.TableData bytes
  first_row ← number_at w32 key.1
  rows ← wanted (rule.first_row first_row.0) key.1 (number_at w32 first_row.1)
  at_stamps columns rule key.0 first_row.0 rows.0 first_row.1 rows.1

in_steps : (total columns : ℕ) (reach : Reach) (bytes : List ℕ) → slot_at total columns reach bytes ≡ at_rows columns (rules_after total reach) bytes
unfolding at_rows at_stamps at_slice
in_steps total columns reach bytes = refl

-- the columns of a slot were read
record SliceParts (columns : ℕ) (rule : GoesOn) (k : Key) (first_row rows : ℕ) (first last : ℤ) (bytes : List ℕ) (x : Slot × List ℕ) : Type 0 where
  first_col : ℕ
  b6 : List ℕ
  cols : ℕ
  b7 : List ℕ
  h5 : number_at w16 bytes ≡ Ok (first_col, b6)
  h6 : number_at w16 b6 ≡ Ok (cols, b7)
  r4 : (rule.last first last && int_eq k.last last) ≡ true
  r5 : rule.first_col first_col ≡ true
  r6 : takes_cols columns first_col cols ≡ true
  is : done (record { key = k; part = record { first_row = first_row; rows = rows; first_col = first_col; cols = cols }; first = first; last = last }, b7) ≡ done x

slice_parts : (columns : ℕ) (rule : GoesOn) (k : Key) (first_row rows : ℕ) (first last : ℤ) (field bytes : List ℕ) (x : Slot × List ℕ) → at_slice columns rule k first_row rows first last field bytes ≡ Ok x → SliceParts columns rule k first_row rows first last bytes x
unfolding at_slice
slice_parts columns rule k first_row rows first last field bytes x e =
    let a = bind_ok (wanted (rule.last first last && int_eq k.last last) field (number_at w16 bytes)) _ x e in
    let g = wanted_ok (rule.last first last && int_eq k.last last) field (number_at w16 bytes) a.0 a.1 in
    let b = bind_ok (wanted (rule.first_col a.0.0) bytes (number_at w16 a.0.1)) _ x a.2 in
    let h = wanted_ok (rule.first_col a.0.0) bytes (number_at w16 a.0.1) b.0 b.1 in
    let l = wanted_ok (takes_cols columns a.0.0 b.0.0) a.0.1 (done (record { key = k; part = record { first_row = first_row; rows = rows; first_col = a.0.0; cols = b.0.0 }; first = first; last = last }, b.0.1)) x b.2 in
    record { first_col = a.0.0; b6 = a.0.1; cols = b.0.0; b7 = b.0.1; h5 = g.1; h6 = h.1; r4 = g.0; r5 = h.0; r6 = l.0; is = l.1 }

-- the stamps of a slot were read, and then the rest of it
record StampParts (columns : ℕ) (rule : GoesOn) (k : Key) (first_row rows : ℕ) (bytes : List ℕ) (x : Slot × List ℕ) : Type 0 where
  first : ℤ
  b4 : List ℕ
  last : ℤ
  b5 : List ℕ
  h3 : signed_at bytes ≡ Ok (first, b4)
  h4 : signed_at b4 ≡ Ok (last, b5)
  r2 : rule.rows rows ≡ true
  r3 : (rule.first first && int_eq k.first first) ≡ true
  slice : SliceParts columns rule k first_row rows first last b5 x

stamp_parts : (columns : ℕ) (rule : GoesOn) (k : Key) (first_row rows : ℕ) (field bytes : List ℕ) (x : Slot × List ℕ) → at_stamps columns rule k first_row rows field bytes ≡ Ok x → StampParts columns rule k first_row rows bytes x
unfolding at_stamps
stamp_parts columns rule k first_row rows field bytes x e =
    let a = bind_ok (wanted (rule.rows rows) field (signed_at bytes)) _ x e in
    let g = wanted_ok (rule.rows rows) field (signed_at bytes) a.0 a.1 in
    let b = bind_ok (wanted (rule.first a.0.0 && int_eq k.first a.0.0) bytes (signed_at a.0.1)) _ x a.2 in
    let h = wanted_ok (rule.first a.0.0 && int_eq k.first a.0.0) bytes (signed_at a.0.1) b.0 b.1 in
    record { first = a.0.0; b4 = a.0.1; last = b.0.0; b5 = b.0.1; h3 = g.1; h4 = h.1; r2 = g.0; r3 = h.0; slice = slice_parts columns rule k first_row rows a.0.0 b.0.0 a.0.1 b.0.1 x b.2 }

-- the key and the rows of a slot were read, and then the rest of it
record RowParts (columns : ℕ) (rule : GoesOn) (bytes : List ℕ) (x : Slot × List ℕ) : Type 0 where
  key : Key
  b1 : List ℕ
  first_row : ℕ
  b2 : List ℕ
  rows : ℕ
  b3 : List ℕ
  h0 : key_of_at kinds.TableData bytes ≡ Ok (key, b1)
  h1 : number_at w32 b1 ≡ Ok (first_row, b2)
  h2 : number_at w32 b2 ≡ Ok (rows, b3)
  r1 : rule.first_row first_row ≡ true
  stamps : StampParts columns rule key first_row rows b3 x

row_parts : (columns : ℕ) (rule : GoesOn) (bytes : List ℕ) (x : Slot × List ℕ) → at_rows columns rule bytes ≡ Ok x → RowParts columns rule bytes x
unfolding at_rows
row_parts columns rule bytes x e =
    let a = bind_ok (key_of_at kinds.TableData bytes) (λ key. number_at w32 key.1 >>= λ first_row. wanted (rule.first_row first_row.0) key.1 (number_at w32 first_row.1) >>= λ rows. at_stamps columns rule key.0 first_row.0 rows.0 first_row.1 rows.1) x e in
    let b = bind_ok (number_at w32 a.0.1) (λ first_row. wanted (rule.first_row first_row.0) a.0.1 (number_at w32 first_row.1) >>= λ rows. at_stamps columns rule a.0.0 first_row.0 rows.0 first_row.1 rows.1) x a.2 in
    let d = bind_ok (wanted (rule.first_row b.0.0) a.0.1 (number_at w32 b.0.1)) (λ rows. at_stamps columns rule a.0.0 b.0.0 rows.0 b.0.1 rows.1) x b.2 in
    let g = wanted_ok (rule.first_row b.0.0) a.0.1 (number_at w32 b.0.1) d.0 d.1 in
    record { key = a.0.0; b1 = a.0.1; first_row = b.0.0; b2 = b.0.1; rows = d.0.0; b3 = d.0.1; h0 = a.1; h1 = b.1; h2 = g.1; r1 = g.0; stamps = stamp_parts columns rule a.0.0 b.0.0 d.0.0 b.0.1 d.0.1 x d.2 }

pub slot_takes : (total columns : ℕ) (reach : Reach) (bytes : List ℕ) (x : Slot × List ℕ) → IsBytes bytes → slot_at total columns reach bytes ≡ Ok x → SlotRead columns (rules_after total reach) bytes x.0 x.1
slot_takes total columns reach bytes x fits e =
    let p = row_parts columns (rules_after total reach) bytes x (sym (in_steps total columns reach bytes) ∙ e) in
    let q = p.stamps in
    let r = q.slice in
    let s : Slot = record { key = p.key; part = record { first_row = p.first_row; rows = p.rows; first_col = r.first_col; cols = r.cols }; first = q.first; last = q.last } in
    subst (λ (y : Slot × List ℕ). SlotRead columns (rules_after total reach) bytes y.0 y.1) (ok_is (s, r.b7) x r.is)
    (slot_made columns (rules_after total reach) bytes p.b1 p.b2 p.b3 q.b4 q.b5 r.b6 r.b7 s fits p.h0 p.h1 p.h2 q.h3 q.h4 r.h5 r.h6
    (λ is_tile. record { is_tile = is_tile; first_row = p.r1; rows = q.r2; first = q.r3; last = r.r4; first_col = r.r5; cols = r.r6 }))

regrouped : (a b c d f g h rest : List ℕ) → ((((((a ++ b) ++ c) ++ d) ++ f) ++ g) ++ h) ++ rest ≡ a ++ (b ++ (c ++ (d ++ (f ++ (g ++ (h ++ rest))))))
regrouped a b c d f g h rest = simp append_assoc

pub slot_again : (total columns : ℕ) (reach : Reach) (s : Slot) (rest : List ℕ) → FitsSlot s → Allowed columns (rules_after total reach) s → slot_at total columns reach (slot_text s ++ rest) ≡ Ok (s, rest)
slot_again total columns reach s rest fits allowed =
    let b6 = to_be_bytes w16 s.part.cols ++ rest in
    let b5 = to_be_bytes w16 s.part.first_col ++ b6 in
    let b4 = signed_text s.last ++ b5 in
    let b3 = signed_text s.first ++ b4 in
    let b2 = to_be_bytes w32 s.part.rows ++ b3 in
    let b1 = to_be_bytes w32 s.part.first_row ++ b2 in
    let b0 = key_text s.key ++ b1 in
    ap (slot_at total columns reach) (regrouped (key_text s.key) (to_be_bytes w32 s.part.first_row) (to_be_bytes w32 s.part.rows) (signed_text s.first) (signed_text s.last) (to_be_bytes w16 s.part.first_col) (to_be_bytes w16 s.part.cols) rest)
    ∙ slot_read total columns reach b0 b1 b2 b3 b4 b5 b6 rest s
    (tile_key_again s.key b1 allowed.is_tile fits.key fits.fields)
    (number_again w32 (2 ^ 32) wide32 s.part.first_row b2 fits.first_row) allowed.first_row
    (number_again w32 (2 ^ 32) wide32 s.part.rows b3 fits.rows) allowed.rows
    (signed_again s.first b4 fits.first) allowed.first
    (signed_again s.last b5 fits.last) allowed.last
    (number_again w16 (2 ^ 16) wide16 s.part.first_col b6 fits.first_col) allowed.first_col
    (number_again w16 (2 ^ 16) wide16 s.part.cols rest fits.cols) allowed.cols
