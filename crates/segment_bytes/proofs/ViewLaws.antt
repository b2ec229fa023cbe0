-- A view is the frame that its bytes spell.
use Rattle.std.proofs.Common.{◌≡◌, ℕ, ◌+◌, ◌*◌, ◌≤◌, ◌&&◌, List, [], ◌∷◌, ◌++◌, length, None, Result, Ok, Err, ℤ, refl, sym, ap, subst, ◌∙◌, arith}
use Rattle.std.specs.Prelude.{FitsSigned, nat_le, nat_eq}
use Rattle.std.specs.Cmp.Lexicographic.{pointwise}
use Rattle.std.specs.Int.{w16, w32, w64}
use Rattle.std.specs.List.{flat_map, AllByRecursion}
use Rattle.std.specs.Result.{result_unwrap_or}
use Rattle.std.proofs.lemmas.List.{append-nil}
use Rattle.std.proofs.lemmas.List.Sums.{sum_by-cons}
use Rattle.byte_fields.specs.Reading.{◌>>=◌, wanted, number_at, bytes_at, magic_at, signed_text}
use Rattle.byte_fields.specs.Readers.{IsBytes, rest_of}
use Rattle.byte_fields.proofs.Steps.{done, ok_is, bind_ok, wanted_ok, seen_ok, whole_takes, whole_again}
use Rattle.byte_fields.proofs.Numbers.{magic_takes, bytes_again, length-signed_text}
use Rattle.byte_fields.proofs.Lists.{length-flat_map}
use Rattle.frame_core.specs.Frames.{Frame}
use Rattle.frame_core.specs.Limits.{IsStorable}
use Rattle.segment_bytes.specs.CellTexts.{joined}
use Rattle.segment_bytes.specs.Sheets.{Series, Sheet, frame_of, series_text, segment_magic, rows_at, count_at, stamps_at, columns_at, sheet_at}
use Rattle.segment_bytes.specs.Segments.{sheet_spelled, segment_of}
use Rattle.segment_bytes.specs.Kept.{IsSeries, IsStored}
use Rattle.segment_bytes.specs.Skipping.{parts_at}
use Rattle.segment_bytes.specs.Views.{sheet_in, frame_in, IsView}
use Rattle.segment_bytes.proofs.Turning.{storable_is}
use Rattle.segment_bytes.proofs.SegmentLaws.{spelled_takes}
use Rattle.segment_bytes.proofs.SheetLaws.{rows_takes, count_takes, stamps_take, columns_take, texts_in}

-- each column keeps the limit of all
pub all_stored : (rows so_far : ℕ) (columns : List Series) → so_far + texts_in columns ≤ 67108864 → AllByRecursion (IsSeries rows) columns → AllByRecursion (IsStored rows) columns
all_stored rows so_far [] le each = tt
all_stored rows so_far (c ∷ columns) le each =
    let total = sum_by-cons (λ (d : Series). length (joined d.1)) c columns in
    (record { series = each.0; within = omega arith }, all_stored rows (so_far + length (joined c.1)) columns (omega arith) each.1)

pub sheet_is : (bytes head rest stamps columns end front : List ℕ) (rows count : ℕ) (ts : List ℤ) (cs : List Series) → magic_at segment_magic bytes ≡ Ok (front, head) → rows_at head ≡ Ok (rows, rest) → count_at rows rest ≡ Ok (count, stamps) → stamps_at rows None stamps ≡ Ok (ts, columns) → columns_at [] 0 rows count columns ≡ Ok (cs, end) → end ≡ [] → sheet_spelled bytes ≡ Ok (record { stamps = ts; columns = cs })
unfolding sheet_spelled sheet_at
sheet_is bytes head rest stamps columns end front rows count ts cs h0 h1 h2 h3 h4 nothing =
    whole_again (sheet_at bytes) (record { stamps = ts; columns = cs }) (rw (h0, h1, h2, h3, h4, nothing) refl)

sheet_in_is : (bytes : List ℕ) (s : Sheet) → sheet_spelled bytes ≡ Ok s → sheet_in bytes ≡ s
unfolding sheet_in
sheet_in_is bytes s e = ap (λ (r : Result Sheet ℕ). result_unwrap_or r (record { stamps = []; columns = [] })) e

pub view_made : (bytes head rest stamps columns end front : List ℕ) (rows count : ℕ) → IsBytes bytes → magic_at segment_magic bytes ≡ Ok (front, head) → rows_at head ≡ Ok (rows, rest) → count_at rows rest ≡ Ok (count, stamps) → rest_of (stamps_at rows None stamps) ≡ Ok columns → rest_of (columns_at [] 0 rows count columns) ≡ Ok end → end ≡ [] → IsView bytes rows count stamps columns
view_made bytes head rest stamps columns end front rows count fits h0 h1 h2 h3 h4 nothing =
    let a = seen_ok (λ (x : List ℤ × List ℕ). x.1) (stamps_at rows None stamps) columns h3 in
    let b = seen_ok (λ (x : List Series × List ℕ). x.1) (columns_at [] 0 rows count columns) end h4 in
    let made : Sheet = record { stamps = a.0.0; columns = b.0.0 } in
    let stamps_read : stamps_at rows None stamps ≡ Ok (a.0.0, columns) = a.1 ∙ ap (λ (t : List ℕ). done (a.0.0, t)) a.2 in
    let columns_read : columns_at [] 0 rows count columns ≡ Ok (b.0.0, end) = b.1 ∙ ap (λ (t : List ℕ). done (b.0.0, t)) b.2 in
    let good : sheet_spelled bytes ≡ Ok made = sheet_is bytes head rest stamps columns end front rows count a.0.0 b.0.0 h0 h1 h2 stamps_read columns_read nothing in
    let is : sheet_in bytes ≡ made = sheet_in_is bytes made good in
    let t0 = magic_takes segment_magic bytes front head fits h0 in
    let t1 = rows_takes head (rows, rest) t0.rest_fits h1 in
    let t2 = count_takes rows rest (count, stamps) t1.takes.rest_fits h2 in
    let t3 = stamps_take rows None stamps (a.0.0, columns) t2.takes.rest_fits stamps_read in
    let t4 = columns_take [] 0 rows count columns (b.0.0, end) (omega arith) t3.takes.rest_fits columns_read in
    record {
      good = good ∙ ap (λ (s : Sheet). done s) (sym is);
      storable = subst (λ (s : Sheet). IsStorable (frame_of s)) (sym is) (storable_is made (spelled_takes bytes made fits good).sheet);
      rows_are = ap (λ (s : Sheet). length s.stamps) is ∙ t3.len;
      count_is = ap (λ (s : Sheet). length s.columns) is ∙ t4.count;
      fit = subst (λ (s : Sheet). AllByRecursion (FitsSigned w64) s.stamps) (sym is) t3.fit;
      each = subst (λ (s : Sheet). AllByRecursion (IsStored rows) s.columns) (sym is) (all_stored rows 0 b.0.0 t4.within t4.each);
      stamps_text = t3.takes.parts ∙ ap (λ (s : Sheet). flat_map signed_text s.stamps ++ columns) (sym is);
      columns_text = t4.takes.parts ∙ ap (λ (t : List ℕ). flat_map series_text b.0.0 ++ t) nothing ∙ append-nil (flat_map series_text b.0.0) ∙ ap (λ (s : Sheet). flat_map series_text s.columns) (sym is);
    }

pub view_gives : (bytes : List ℕ) → sheet_spelled bytes ≡ Ok (sheet_in bytes) → segment_of bytes ≡ Ok (frame_in bytes)
unfolding segment_of
view_gives bytes e = ap (λ r. r >>= λ s. done (frame_of s)) e

-- ---- bytes that are known to be a segment

-- the parts of the bytes are those of a view
pub record Lies (bytes : List ℕ) : Type 0 where
  pub rows : ℕ
  pub count : ℕ
  pub stamps : List ℕ
  pub columns : List ℕ
  pub read : parts_at bytes ≡ Ok ((rows, count, stamps), columns)
  pub view : IsView bytes rows count stamps columns

magic_read : (bytes : List ℕ) (x : List ℕ × List ℕ) → magic_at segment_magic bytes ≡ Ok x → bytes_at 4 bytes ≡ Ok x
magic_read bytes x e =
    let a = bind_ok (bytes_at 4 bytes) (λ m. wanted (pointwise nat_eq m.0 segment_magic) bytes (Ok m)) x e in
    a.1 ∙ (wanted_ok (pointwise nat_eq a.0.0 segment_magic) bytes (done a.0) x a.2).1

rows_read : (bytes : List ℕ) (x : ℕ × List ℕ) → rows_at bytes ≡ Ok x → number_at w32 bytes ≡ Ok x
unfolding rows_at
rows_read bytes x e =
    let a = bind_ok (number_at w32 bytes) (λ m. wanted (nat_le m.0 2000000) bytes (Ok m)) x e in
    a.1 ∙ (wanted_ok (nat_le a.0.0 2000000) bytes (done a.0) x a.2).1

count_read : (rows : ℕ) (bytes : List ℕ) (x : ℕ × List ℕ) → count_at rows bytes ≡ Ok x → number_at w16 bytes ≡ Ok x
unfolding count_at
count_read rows bytes x e =
    let a = bind_ok (number_at w16 bytes) (λ m. wanted (nat_le m.0 4096 && nat_le (rows * m.0) 8000000) bytes (Ok m)) x e in
    a.1 ∙ (wanted_ok (nat_le a.0.0 4096 && nat_le (rows * a.0.0) 8000000) bytes (done a.0) x a.2).1

-- stamps that were read are so many times eight bytes
stamps_read : (rows : ℕ) (bytes : List ℕ) (x : List ℤ × List ℕ) → IsBytes bytes → stamps_at rows None bytes ≡ Ok x → bytes_at (8 * rows) bytes ≡ Ok (flat_map signed_text x.0, x.1)
stamps_read rows bytes x fits e =
    let t = stamps_take rows None bytes x fits e in
    let wide : 8 * rows ≡ length (flat_map signed_text x.0) = omega (arith, length-flat_map signed_text 8 length-signed_text x.0, t.len) in
    (λ i. bytes_at (wide i) (t.takes.parts i)) ∙ bytes_again (flat_map signed_text x.0) x.1

parts_known : (bytes head rest stamps columns front text : List ℕ) (rows count : ℕ) → bytes_at 4 bytes ≡ Ok (front, head) → number_at w32 head ≡ Ok (rows, rest) → number_at w16 rest ≡ Ok (count, stamps) → bytes_at (8 * rows) stamps ≡ Ok (text, columns) → parts_at bytes ≡ Ok ((rows, count, stamps), columns)
unfolding parts_at
parts_known bytes head rest stamps columns front text rows count h0 h1 h2 h3 = rw (h0, h1, h2, h3) refl

-- each field of a segment was read
lies_read : (bytes : List ℕ) (s : Sheet) → IsBytes bytes → sheet_at bytes ≡ Ok (s, []) → Lies bytes
unfolding sheet_at
lies_read bytes s fits e =
    let m = bind_ok (magic_at segment_magic bytes) (λ m. rows_at m.1 >>= λ rows. count_at rows.0 rows.1 >>= λ count. stamps_at rows.0 None count.1 >>= λ stamps. columns_at [] 0 rows.0 count.0 stamps.1 >>= λ columns. Ok (record { stamps = stamps.0; columns = columns.0 }, columns.1)) (s, []) e in
    let rows = bind_ok (rows_at m.0.1) (λ rows. count_at rows.0 rows.1 >>= λ count. stamps_at rows.0 None count.1 >>= λ stamps. columns_at [] 0 rows.0 count.0 stamps.1 >>= λ columns. Ok (record { stamps = stamps.0; columns = columns.0 }, columns.1)) (s, []) m.2 in
    let count = bind_ok (count_at rows.0.0 rows.0.1) (λ count. stamps_at rows.0.0 None count.1 >>= λ stamps. columns_at [] 0 rows.0.0 count.0 stamps.1 >>= λ columns. Ok (record { stamps = stamps.0; columns = columns.0 }, columns.1)) (s, []) rows.2 in
    let stamps = bind_ok (stamps_at rows.0.0 None count.0.1) (λ stamps. columns_at [] 0 rows.0.0 count.0.0 stamps.1 >>= λ columns. Ok (record { stamps = stamps.0; columns = columns.0 }, columns.1)) (s, []) count.2 in
    let columns = bind_ok (columns_at [] 0 rows.0.0 count.0.0 stamps.0.1) (λ columns. Ok (record { stamps = stamps.0.0; columns = columns.0 }, columns.1)) (s, []) stamps.2 in
    let nothing : columns.0.1 ≡ [] = ap (λ (x : Sheet × List ℕ). x.1) (ok_is (record { stamps = stamps.0.0; columns = columns.0.0 }, columns.0.1) (s, []) columns.2) in
    let t0 = magic_takes segment_magic bytes m.0.0 m.0.1 fits m.1 in
    let t1 = rows_takes m.0.1 rows.0 t0.rest_fits rows.1 in
    let t2 = count_takes rows.0.0 rows.0.1 count.0 t1.takes.rest_fits count.1 in
    record {
      rows = rows.0.0;
      count = count.0.0;
      stamps = count.0.1;
      columns = stamps.0.1;
      read = parts_known bytes m.0.1 rows.0.1 count.0.1 stamps.0.1 m.0.0 (flat_map signed_text stamps.0.0) rows.0.0 count.0.0 (magic_read bytes m.0 m.1) (rows_read m.0.1 rows.0 rows.1) (count_read rows.0.0 rows.0.1 count.0 count.1) (stamps_read rows.0.0 count.0.1 stamps.0 t2.takes.rest_fits stamps.1);
      view = view_made bytes m.0.1 rows.0.1 count.0.1 stamps.0.1 columns.0.1 m.0.0 rows.0.0 count.0.0 fits m.1 rows.1 count.1 (ap rest_of stamps.1) (ap rest_of columns.1) nothing;
    }

pub lies_spelled : (bytes : List ℕ) (f : Frame) → IsBytes bytes → segment_of bytes ≡ Ok f → Lies bytes
unfolding segment_of sheet_spelled
lies_spelled bytes f fits e =
    let s = bind_ok (sheet_spelled bytes) (λ s. Ok (frame_of s)) f e in
    lies_read bytes s.0 fits (whole_takes (sheet_at bytes) s.0 s.1)

-- what was read of the parts is the view
pub lies_so : (bytes : List ℕ) (rows count : ℕ) (stamps columns : List ℕ) → Lies bytes → parts_at bytes ≡ Ok ((rows, count, stamps), columns) → IsView bytes rows count stamps columns
lies_so bytes rows count stamps columns l read =
    let same = ok_is ((l.rows, l.count, l.stamps), l.columns) ((rows, count, stamps), columns) (sym l.read ∙ read) in
    subst (λ (x : (ℕ × ℕ × List ℕ) × List ℕ). IsView bytes x.0.0 x.0.1 x.0.2 x.1) same l.view

pub lies_fails : (bytes : List ℕ) (left : ℕ) → Lies bytes → parts_at bytes ≡ Err left → ⊥
lies_fails bytes left l read = let k = l.read in absurd cc
