-- A snapshot that is spelled is read again, and what is read as a snapshot was spelled so.
use Rattle.std.proofs.Common.{◌≡◌, ℕ, zero, suc, ◌<◌, ◌^◌, Bool, true, List, [], ◌∷◌, ◌++◌, length, drop, refl, sym, ap, subst, ◌∙◌, append_assoc, Ok, Some, None, Option}
use Rattle.std.specs.Prelude.{nat_le, flat_map}
use Rattle.std.specs.Int.{w64, to_be_bytes}
use Rattle.std.specs.Option.{option_map_or}
use Rattle.std.specs.List.{AllByRecursion}
use Rattle.std.proofs.lemmas.List.{append-nil}
use Rattle.std.proofs.lemmas.List.Concat.{flat_map-cons}
use Rattle.byte_fields.specs.Reading.{wanted, number_at, magic_at}
use Rattle.byte_fields.specs.Readers.{IsBytes}
use Rattle.byte_fields.proofs.Steps.{ok_is, bind_ok, bind_is, wanted_ok, wanted_is, Takes, Takes-then, Takes-nothing, whole_takes, whole_again}
use Rattle.byte_fields.proofs.Numbers.{wide64, number_takes, number_again, magic_takes, magic_again}
use Rattle.key_kind.specs.declared.key.KeyKind.TheVariants as kinds
use Rattle.key_kind.specs.Names.{Name, name_before}
use Rattle.key_kind.specs.KeyText.{key_text, key_of_at, name_text, name_at}
use Rattle.key_kind.proofs.KeyReading.{name_again, name_takes, key_of_again, key_of_takes}
use Rattle.store_model.specs.declared.snapshot.SnapRow.{SnapRow}
use Rattle.store_model.specs.declared.snapshot.SnapBody.{SnapBody}
use Rattle.store_model.specs.ChainText.{holder_text, holder_at, snap_magic, snap_row_text, snap_text, snap_rows_at, snap_at, snap_of}
use Rattle.version_chain.specs.SnapBodies.{IsSnapRow, SymbolsRise, IsSnap, FitsSnapRow, FitsSnap}
use Rattle.version_chain.proofs.MarkLaws.{holder_takes, holder_again, filled, one_at_least}

-- the name stands behind the one before it
abbrev pub comes_behind : Option Name → Name → Bool
comes_behind before symbol = option_map_or (λ s. name_before s symbol) before true

-- the symbols rise, above the one before them
abbrev pub RiseFrom : Option Name → List SnapRow → Type 0
RiseFrom before [] = (before ≡ before)
RiseFrom before (r ∷ rows) = (comes_behind before r.symbol ≡ true) × RiseFrom (Some r.symbol) rows

rise_from : (rows : List SnapRow) → SymbolsRise rows → RiseFrom None rows
rise_from [] rise = refl
rise_from (r ∷ rows) rise = (refl, by r rows rise)
  where
    by : (r : SnapRow) (rows : List SnapRow) → SymbolsRise (r ∷ rows) → RiseFrom (Some r.symbol) rows
    by r [] rise = refl
    by r (s ∷ rows) rise = (rise.0, by s rows rise.1)

rising : (rows : List SnapRow) → RiseFrom None rows → SymbolsRise rows
rising [] rise = tt
rising (r ∷ rows) rise = by r rows rise.1
  where
    by : (r : SnapRow) (rows : List SnapRow) → RiseFrom (Some r.symbol) rows → SymbolsRise (r ∷ rows)
    by r [] rise = tt
    by r (s ∷ rows) rise = (rise.0, by s rows rise.1)

-- ---- rows

-- rows were taken
pub record RowsRead (before : Option Name) (n : ℕ) (bytes : List ℕ) (rows : List SnapRow) (rest : List ℕ) : Type 0 where
  pub takes : Takes bytes (flat_map snap_row_text rows) rest
  pub len : length rows ≡ n
  pub each : AllByRecursion IsSnapRow rows
  pub fits : AllByRecursion FitsSnapRow rows
  pub rise : RiseFrom before rows

pub rows_takes : (before : Option Name) (n : ℕ) (bytes : List ℕ) (rows : List SnapRow) (rest : List ℕ) → IsBytes bytes → snap_rows_at before n bytes ≡ Ok (rows, rest) → RowsRead before n bytes rows rest
rows_takes before zero bytes rows rest fits e =
    subst (λ (p : List SnapRow × List ℕ). RowsRead before 0 bytes p.0 p.1) (ok_is ([], bytes) (rows, rest) e) (record { takes = Takes-nothing bytes fits; len = refl; each = tt; fits = tt; rise = refl })
rows_takes before (suc n) bytes rows rest fits e =
    let a = bind_ok (name_at bytes) _ (rows, rest) e in
    let b = bind_ok (wanted (comes_behind before a.0.0) (drop 1 bytes) (number_at w64 a.0.1)) _ (rows, rest) a.2 in
    let w = wanted_ok (comes_behind before a.0.0) (drop 1 bytes) (number_at w64 a.0.1) b.0 b.1 in
    let c = bind_ok (key_of_at kinds.TableIndex b.0.1) _ (rows, rest) b.2 in
    let d = bind_ok (snap_rows_at (Some a.0.0) n c.0.1) _ (rows, rest) c.2 in
    let t1 = name_takes bytes a.0.0 a.0.1 fits a.1 in
    let t2 = number_takes w64 (2 ^ 64) wide64 a.0.1 b.0.0 b.0.1 t1.takes.rest_fits w.1 in
    let t3 = key_of_takes kinds.TableIndex b.0.1 c.0.0 c.0.1 t2.takes.rest_fits c.1 in
    let more = rows_takes (Some a.0.0) n c.0.1 d.0.0 d.0.1 t3.read.takes.rest_fits d.1 in
    let row : SnapRow = record { symbol = a.0.0; version = b.0.0; index = c.0.0 } in
    let one : Takes bytes (snap_row_text row) c.0.1 = Takes-then bytes _ b.0.1 (key_text c.0.0) c.0.1 (Takes-then bytes (name_text a.0.0) a.0.1 (to_be_bytes w64 b.0.0) b.0.1 t1.takes t2.takes) t3.read.takes in
    subst (λ (p : List SnapRow × List ℕ). RowsRead before (suc n) bytes p.0 p.1) (ok_is (row ∷ d.0.0, d.0.1) (rows, rest) d.2) (record {
      takes = subst (λ (t : List ℕ). Takes bytes t d.0.1) (sym (flat_map-cons snap_row_text row d.0.0)) (Takes-then bytes (snap_row_text row) c.0.1 (flat_map snap_row_text d.0.0) d.0.1 one more.takes);
      len = ap suc more.len;
      each = (record { symbol = t1.is_name; index = record { kind_is = t3.kind_is; is_key = t3.read.is_key } }, more.each);
      fits = (record { version = t2.below; index = t3.read.fits }, more.fits);
      rise = (w.0, more.rise);
    })

pub rows_again : (before : Option Name) (rows : List SnapRow) (rest : List ℕ) → AllByRecursion IsSnapRow rows → AllByRecursion FitsSnapRow rows → RiseFrom before rows → snap_rows_at before (length rows) (flat_map snap_row_text rows ++ rest) ≡ Ok (rows, rest)
rows_again before [] rest each fits rise = refl
rows_again before (r ∷ rows) rest each fits rise =
    let t3 = flat_map snap_row_text rows ++ rest in
    let t2 = key_text r.index ++ t3 in
    let t1 = to_be_bytes w64 r.version ++ t2 in
    let whole : flat_map snap_row_text (r ∷ rows) ++ rest ≡ length r.symbol ∷ (r.symbol ++ t1) =
    ap (λ (t : List ℕ). t ++ rest) (flat_map-cons snap_row_text r rows) ∙ regrouped (name_text r.symbol) (to_be_bytes w64 r.version) (key_text r.index) (flat_map snap_row_text rows) rest in
    ap (snap_rows_at before (suc (length rows))) whole
    ∙ (bind_is (name_at (length r.symbol ∷ (r.symbol ++ t1))) (r.symbol, t1) _ (name_again r.symbol t1 each.0.symbol)
    ∙ (bind_is (wanted (comes_behind before r.symbol) (r.symbol ++ t1) (number_at w64 t1)) (r.version, t2) _
    (wanted_is (comes_behind before r.symbol) (r.symbol ++ t1) (number_at w64 t1) rise.0 ∙ number_again w64 (2 ^ 64) wide64 r.version t2 fits.0.version)
    ∙ (bind_is (key_of_at kinds.TableIndex t2) (r.index, t3) _ (subst (λ k. key_of_at k t2 ≡ Ok (r.index, t3)) each.0.index.kind_is (key_of_again r.index t3 each.0.index.is_key fits.0.index))
    ∙ bind_is (snap_rows_at (Some r.symbol) (length rows) t3) (rows, rest) _ (rows_again (Some r.symbol) rows rest each.1 fits.1 rise.1))))
  where
    regrouped : (a b c d e : List ℕ) → (((a ++ b) ++ c) ++ d) ++ e ≡ a ++ (b ++ (c ++ (d ++ e)))
    regrouped a b c d e = simp append_assoc

-- ---- bodies

-- the bytes are the spelling of a snapshot
pub record Spelled (bytes : List ℕ) (s : SnapBody) : Type 0 where
  pub text : bytes ≡ snap_text s
  pub is_snap : IsSnap s
  pub fits : FitsSnap s

pub snap_takes : (bytes : List ℕ) (s : SnapBody) → IsBytes bytes → snap_of bytes ≡ Ok s → Spelled bytes s
unfolding snap_of
snap_takes bytes body fits e =
    let r = whole_takes (snap_at bytes) body e in
    let a = bind_ok (magic_at snap_magic bytes) _ (body, []) r in
    let b = bind_ok (holder_at a.0.1) _ (body, []) a.2 in
    let c = bind_ok (number_at w64 b.0.1) _ (body, []) b.2 in
    let d = bind_ok (wanted (nat_le 1 c.0.0) b.0.1 (snap_rows_at None c.0.0 c.0.1)) _ (body, []) c.2 in
    let w = wanted_ok (nat_le 1 c.0.0) b.0.1 (snap_rows_at None c.0.0 c.0.1) d.0 d.1 in
    let t1 = magic_takes snap_magic bytes a.0.0 a.0.1 fits a.1 in
    let t2 = holder_takes a.0.1 b.0.0 b.0.1 t1.rest_fits b.1 in
    let t3 = number_takes w64 (2 ^ 64) wide64 b.0.1 c.0.0 c.0.1 t2.takes.rest_fits c.1 in
    let t4 = rows_takes None c.0.0 c.0.1 d.0.0 d.0.1 t3.takes.rest_fits w.1 in
    let count : Takes b.0.1 (to_be_bytes w64 (length d.0.0)) c.0.1 = subst (λ (n : ℕ). Takes b.0.1 (to_be_bytes w64 n) c.0.1) (sym t4.len) t3.takes in
    let made : SnapBody × List ℕ = (record { holder = b.0.0; rows = d.0.0 }, d.0.1) in
    let same : made ≡ (body, []) = ok_is made (body, []) d.2 in
    let all = Takes-then bytes _ c.0.1 (flat_map snap_row_text d.0.0) d.0.1 (Takes-then bytes _ b.0.1 (to_be_bytes w64 (length d.0.0)) c.0.1 (Takes-then bytes snap_magic a.0.1 (holder_text b.0.0) b.0.1 t1 t2.takes) count) t4.takes in
    subst (λ (x : SnapBody). Spelled bytes x) (ap (λ (p : SnapBody × List ℕ). p.0) same) (record {
      text = all.parts ∙ (ap (λ (t : List ℕ). snap_text made.0 ++ t) (ap (λ (p : SnapBody × List ℕ). p.1) same) ∙ append-nil (snap_text made.0));
      is_snap = record { filled = filled d.0.0 c.0.0 t4.len w.0; rows = t4.each; rising = rising d.0.0 t4.rise };
      fits = record { holder = t2.fits; count = subst (λ (n : ℕ). n < 2 ^ 64) (sym t4.len) t3.below; rows = t4.fits };
    })

pub snap_again : (s : SnapBody) → IsSnap s → FitsSnap s → snap_of (snap_text s) ≡ Ok s
unfolding snap_of snap_at
snap_again s is fits =
    let t3 = flat_map snap_row_text s.rows ++ [] in
    let t2 = to_be_bytes w64 (length s.rows) ++ t3 in
    let t1 = holder_text s.holder ++ t2 in
    let text : snap_text s ≡ snap_magic ++ t1 = regrouped snap_magic (holder_text s.holder) (to_be_bytes w64 (length s.rows)) (flat_map snap_row_text s.rows) in
    whole_again (snap_at (snap_text s)) s
    (ap snap_at text
    ∙ (bind_is (magic_at snap_magic (snap_magic ++ t1)) (snap_magic, t1) _ (magic_again snap_magic t1)
    ∙ (bind_is (holder_at t1) (s.holder, t2) _ (holder_again s.holder t2 fits.holder)
    ∙ (bind_is (number_at w64 t2) (length s.rows, t3) _ (number_again w64 (2 ^ 64) wide64 (length s.rows) t3 fits.count)
    ∙ bind_is (wanted (nat_le 1 (length s.rows)) t2 (snap_rows_at None (length s.rows) t3)) (s.rows, []) _
    (wanted_is (nat_le 1 (length s.rows)) t2 (snap_rows_at None (length s.rows) t3) (one_at_least s.rows is.filled)
    ∙ rows_again None s.rows [] is.rows fits.rows (rise_from s.rows is.rising))))))
  where
    regrouped : (a b c d : List ℕ) → ((a ++ b) ++ c) ++ d ≡ a ++ (b ++ (c ++ (d ++ [])))
    regrouped a b c d = simp (append_assoc, append-nil)
