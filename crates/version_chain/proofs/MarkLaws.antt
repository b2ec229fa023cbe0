-- A mark that is spelled is read again, and what is read as a mark was spelled so.
use Rattle.std.proofs.Common.{◌≡◌, ℕ, zero, suc, ◌<◌, ◌^◌, Bool, true, false, List, [], ◌∷◌, ◌++◌, length, refl, sym, ap, subst, ◌∙◌, append_assoc, arith, Ok, Some, None, Option, inl, inr}
use Rattle.std.specs.Prelude.{◌⊎◌, ⊤, nat_le, nat_lt, flat_map}
use Rattle.std.specs.Int.{w32, w64, to_be_bytes}
use Rattle.std.specs.Option.{option_map_or}
use Rattle.std.specs.List.{AllByRecursion, cons_option}
use Rattle.std.proofs.lemmas.List.Concat.{flat_map-cons}
use Rattle.std.proofs.lemmas.Bool.{le-leb, true≢false}
use Rattle.byte_fields.specs.Reading.{wanted, number_at, signed_at, signed_text}
use Rattle.byte_fields.specs.Readers.{IsBytes}
use Rattle.byte_fields.proofs.Steps.{done, ok_is, bind_ok, bind_is, wanted_ok, wanted_is, Takes, Takes-then, Takes-nothing}
use Rattle.byte_fields.proofs.Numbers.{wide32, wide64, number_takes, number_again, signed_takes, signed_again}
use Rattle.key_kind.specs.declared.key.KeyKind.TheVariants as kinds
use Rattle.key_kind.specs.declared.key.Holder.{Holder}
use Rattle.key_kind.specs.KeyText.{key_text, key_of_at}
use Rattle.key_kind.proofs.KeyReading.{key_of_again, key_of_takes}
use Rattle.bucket_core.specs.declared.event.PieceName.{PieceName}
use Rattle.store_model.specs.declared.chain.ChainMark.{ChainMark}
use Rattle.store_model.specs.declared.chain.ChainMark.TheVariants as marks
use Rattle.store_model.specs.Commits.{IsFilled, PiecesRise}
use Rattle.store_model.specs.ChainText.{holder_text, piece_text, told_text, hold_text, mark_text, holder_at, piece_before, pieces_at, link_at, tomb_at, hold_at, release_at, discard_at, mark_at}
use Rattle.version_chain.specs.Entries.{IsMark, IsAbove, FitsHolder, FitsPiece, FitsMark}

-- ---- two numbers, of four and of eight bytes

-- a holder was taken
pub record HolderRead (bytes : List ℕ) (h : Holder) (rest : List ℕ) : Type 0 where
  pub takes : Takes bytes (holder_text h) rest
  pub fits : FitsHolder h

pub holder_takes : (bytes : List ℕ) (h : Holder) (rest : List ℕ) → IsBytes bytes → holder_at bytes ≡ Ok (h, rest) → HolderRead bytes h rest
holder_takes bytes h rest fits e =
    let a = bind_ok (number_at w32 bytes) _ (h, rest) e in
    let b = bind_ok (number_at w64 a.0.1) _ (h, rest) a.2 in
    let t = number_takes w32 (2 ^ 32) wide32 bytes a.0.0 a.0.1 fits a.1 in
    let u = number_takes w64 (2 ^ 64) wide64 a.0.1 b.0.0 b.0.1 t.takes.rest_fits b.1 in
    let made : Holder × List ℕ = (record { client = a.0.0; serial = b.0.0 }, b.0.1) in
    subst (λ (p : Holder × List ℕ). HolderRead bytes p.0 p.1) (ok_is made (h, rest) b.2) (record {
      takes = Takes-then bytes (to_be_bytes w32 a.0.0) a.0.1 (to_be_bytes w64 b.0.0) b.0.1 t.takes u.takes;
      fits = record { client = t.below; serial = u.below };
    })

pub holder_again : (h : Holder) (rest : List ℕ) → FitsHolder h → holder_at (holder_text h ++ rest) ≡ Ok (h, rest)
holder_again h rest fits =
    let t = to_be_bytes w64 h.serial ++ rest in
    ap holder_at (append_assoc (to_be_bytes w32 h.client) (to_be_bytes w64 h.serial) rest)
    ∙ (bind_is (number_at w32 (to_be_bytes w32 h.client ++ t)) (h.client, t) _ (number_again w32 (2 ^ 32) wide32 h.client t fits.client)
    ∙ bind_is (number_at w64 t) (h.serial, rest) _ (number_again w64 (2 ^ 64) wide64 h.serial rest fits.serial))

-- ---- pieces

-- the piece rises above the one before it
abbrev pub rises : Option PieceName → PieceName → Bool
rises before p = option_map_or (λ q. piece_before q p) before true

-- the pieces rise, the one before them included
abbrev pub RiseFrom : Option PieceName → List PieceName → Type 0
RiseFrom before ps = PiecesRise (cons_option before ps)

rise_more : (before : Option PieceName) (p : PieceName) (ps : List PieceName) → rises before p ≡ true → RiseFrom (Some p) ps → RiseFrom before (p ∷ ps)
rise_more None p ps up rise = rise
rise_more (Some q) p ps up rise = (up, rise)

rise_first : (before : Option PieceName) (p : PieceName) (ps : List PieceName) → RiseFrom before (p ∷ ps) → (rises before p ≡ true) × RiseFrom (Some p) ps
rise_first None p ps rise = (refl, rise)
rise_first (Some q) p ps rise = (rise.0, rise.1)

-- a piece that rises has no lower client
rise_client : (before : Option PieceName) (p : PieceName) → rises before p ≡ true → option_map_or (λ q. nat_le q.client p.client) before true ≡ true
rise_client None p up = refl
rise_client (Some q) p up = elim (nat_lt q.client p.client) as (λ b. nat_lt q.client p.client ≡ b → nat_le q.client p.client ≡ true) [
  | true ↦ λ lt. grind (arith, lt)
  | false ↦ λ ge. grind (arith, ge, up)
] refl

-- pieces were taken
pub record PiecesRead (before : Option PieceName) (n : ℕ) (bytes : List ℕ) (ps : List PieceName) (rest : List ℕ) : Type 0 where
  pub takes : Takes bytes (flat_map piece_text ps) rest
  pub len : length ps ≡ n
  pub fits : AllByRecursion FitsPiece ps
  pub rise : RiseFrom before ps

no_pieces : (before : Option PieceName) → RiseFrom before []
no_pieces None = tt
no_pieces (Some q) = tt

pub pieces_takes : (before : Option PieceName) (n : ℕ) (bytes : List ℕ) (ps : List PieceName) (rest : List ℕ) → IsBytes bytes → pieces_at before n bytes ≡ Ok (ps, rest) → PiecesRead before n bytes ps rest
pieces_takes before zero bytes ps rest fits e =
    subst (λ (p : List PieceName × List ℕ). PiecesRead before 0 bytes p.0 p.1) (ok_is ([], bytes) (ps, rest) e) (record {
      takes = Takes-nothing bytes fits;
      len = refl;
      fits = tt;
      rise = no_pieces before;
    })
pieces_takes before (suc n) bytes ps rest fits e =
    let a = bind_ok (number_at w32 bytes) _ (ps, rest) e in
    let b = bind_ok (wanted (option_map_or (λ q. nat_le q.client a.0.0) before true) bytes (number_at w64 a.0.1)) _ (ps, rest) a.2 in
    let w = wanted_ok (option_map_or (λ q. nat_le q.client a.0.0) before true) bytes (number_at w64 a.0.1) b.0 b.1 in
    let p : PieceName = record { client = a.0.0; serial = b.0.0 } in
    let c = bind_ok (wanted (rises before p) a.0.1 (pieces_at (Some p) n b.0.1)) _ (ps, rest) b.2 in
    let v = wanted_ok (rises before p) a.0.1 (pieces_at (Some p) n b.0.1) c.0 c.1 in
    let t = number_takes w32 (2 ^ 32) wide32 bytes a.0.0 a.0.1 fits a.1 in
    let u = number_takes w64 (2 ^ 64) wide64 a.0.1 b.0.0 b.0.1 t.takes.rest_fits w.1 in
    let more = pieces_takes (Some p) n b.0.1 c.0.0 c.0.1 u.takes.rest_fits v.1 in
    let one : Takes bytes (piece_text p) b.0.1 = Takes-then bytes (to_be_bytes w32 a.0.0) a.0.1 (to_be_bytes w64 b.0.0) b.0.1 t.takes u.takes in
    subst (λ (x : List PieceName × List ℕ). PiecesRead before (suc n) bytes x.0 x.1) (ok_is (p ∷ c.0.0, c.0.1) (ps, rest) c.2) (record {
      takes = subst (λ (t : List ℕ). Takes bytes t c.0.1) (sym (flat_map-cons piece_text p c.0.0)) (Takes-then bytes (piece_text p) b.0.1 (flat_map piece_text c.0.0) c.0.1 one more.takes);
      len = ap suc more.len;
      fits = (record { client = t.below; serial = u.below }, more.fits);
      rise = rise_more before p c.0.0 v.0 more.rise;
    })

pub pieces_again : (before : Option PieceName) (ps : List PieceName) (rest : List ℕ) → AllByRecursion FitsPiece ps → RiseFrom before ps → pieces_at before (length ps) (flat_map piece_text ps ++ rest) ≡ Ok (ps, rest)
pieces_again before [] rest fits rise = refl
pieces_again before (p ∷ ps) rest fits rise =
    let up = rise_first before p ps rise in
    let t2 = flat_map piece_text ps ++ rest in
    let t1 = to_be_bytes w64 p.serial ++ t2 in
    let whole : flat_map piece_text (p ∷ ps) ++ rest ≡ to_be_bytes w32 p.client ++ t1 =
    ap (λ (t : List ℕ). t ++ rest) (flat_map-cons piece_text p ps) ∙ (append_assoc (piece_text p) (flat_map piece_text ps) rest ∙ append_assoc (to_be_bytes w32 p.client) (to_be_bytes w64 p.serial) t2) in
    ap (pieces_at before (suc (length ps))) whole
    ∙ (bind_is (number_at w32 (to_be_bytes w32 p.client ++ t1)) (p.client, t1) _ (number_again w32 (2 ^ 32) wide32 p.client t1 fits.0.client)
    ∙ (bind_is (wanted (option_map_or (λ q. nat_le q.client p.client) before true) (to_be_bytes w32 p.client ++ t1) (number_at w64 t1)) (p.serial, t2) _
    (wanted_is (option_map_or (λ q. nat_le q.client p.client) before true) _ (number_at w64 t1) (rise_client before p up.0) ∙ number_again w64 (2 ^ 64) wide64 p.serial t2 fits.0.serial)
    ∙ bind_is (wanted (rises before p) t1 (pieces_at (Some p) (length ps) t2)) (ps, rest) _
    (wanted_is (rises before p) t1 (pieces_at (Some p) (length ps) t2) up.0 ∙ pieces_again (Some p) ps rest fits.1 up.1)))

-- ---- marks

-- the number of a mark
abbrev pub tag_of : ChainMark → ℕ
tag_of (marks.Link row) = 1
tag_of (marks.Tomb version) = 2
tag_of (marks.Hold holder version) = 3
tag_of (marks.Release holder) = 4
tag_of (marks.Discard pieces) = 5
tag_of (marks.Compact told) = 6

-- the bytes behind a mark's number
abbrev pub body_text : ChainMark → List ℕ
body_text (marks.Link l) = to_be_bytes w64 l.version ++ signed_text l.stamp ++ to_be_bytes w32 l.rows ++ key_text l.index
body_text (marks.Tomb version) = to_be_bytes w64 version
body_text (marks.Hold holder version) = holder_text holder ++ to_be_bytes w64 version
body_text (marks.Release holder) = holder_text holder
body_text (marks.Discard pieces) = to_be_bytes w64 (length pieces) ++ flat_map piece_text pieces
body_text (marks.Compact told) =
    to_be_bytes w64 (length told.links) ++ flat_map told_text told.links ++ to_be_bytes w64 (length told.holds) ++ flat_map hold_text told.holds ++ to_be_bytes w64 (length told.pieces) ++ flat_map piece_text told.pieces

pub mark_text-is : (m : ChainMark) → mark_text m ≡ tag_of m ∷ body_text m
mark_text-is (marks.Link l) = refl
mark_text-is (marks.Tomb version) = refl
mark_text-is (marks.Hold holder version) = refl
mark_text-is (marks.Release holder) = refl
mark_text-is (marks.Discard pieces) = refl
mark_text-is (marks.Compact told) = refl

-- a Tomb is above the one before it
abbrev pub IsAboveTomb : Option ℕ → ChainMark → Type 0
IsAboveTomb before (marks.Tomb version) = IsAbove before version
IsAboveTomb before _ = ⊤

-- a mark was taken behind its number
pub record MarkRead (tag : ℕ) (tomb : Option ℕ) (bytes : List ℕ) (m : ChainMark) (rest : List ℕ) : Type 0 where
  pub tag_is : tag_of m ≡ tag
  pub takes : Takes bytes (body_text m) rest
  pub is_mark : IsMark m
  pub fits : FitsMark m
  pub above : IsAboveTomb tomb m

link_takes : (tomb : Option ℕ) (bytes : List ℕ) (m : ChainMark) (rest : List ℕ) → IsBytes bytes → link_at bytes ≡ Ok (m, rest) → MarkRead 1 tomb bytes m rest
link_takes tomb bytes m rest fits e =
    let a = bind_ok (number_at w64 bytes) _ (m, rest) e in
    let b = bind_ok (signed_at a.0.1) _ (m, rest) a.2 in
    let c = bind_ok (number_at w32 b.0.1) _ (m, rest) b.2 in
    let d = bind_ok (key_of_at kinds.TableIndex c.0.1) _ (m, rest) c.2 in
    let t1 = number_takes w64 (2 ^ 64) wide64 bytes a.0.0 a.0.1 fits a.1 in
    let t2 = signed_takes a.0.1 b.0.0 b.0.1 t1.takes.rest_fits b.1 in
    let t3 = number_takes w32 (2 ^ 32) wide32 b.0.1 c.0.0 c.0.1 t2.takes.rest_fits c.1 in
    let t4 = key_of_takes kinds.TableIndex c.0.1 d.0.0 d.0.1 t3.takes.rest_fits d.1 in
    let made : ChainMark × List ℕ = (marks.Link (record { version = a.0.0; stamp = b.0.0; rows = c.0.0; index = d.0.0 }), d.0.1) in
    subst (λ (p : ChainMark × List ℕ). MarkRead 1 tomb bytes p.0 p.1) (ok_is made (m, rest) d.2) (record {
      tag_is = refl;
      takes = Takes-then bytes _ c.0.1 (key_text d.0.0) d.0.1 (Takes-then bytes _ b.0.1 (to_be_bytes w32 c.0.0) c.0.1 (Takes-then bytes (to_be_bytes w64 a.0.0) a.0.1 (signed_text b.0.0) b.0.1 t1.takes t2.takes) t3.takes) t4.read.takes;
      is_mark = record { rows = t3.below; index = record { kind_is = t4.kind_is; is_key = t4.read.is_key } };
      fits = record { version = t1.below; stamp = t2.fits; index = t4.read.fits };
      above = tt;
    })

above_from : (before : Option ℕ) (version : ℕ) → option_map_or (λ n. nat_lt n version) before true ≡ true → IsAbove before version
above_from None version e = tt
above_from (Some n) version e = grind (arith, e)

above_test : (before : Option ℕ) (version : ℕ) → IsAbove before version → option_map_or (λ n. nat_lt n version) before true ≡ true
above_test None version e = refl
above_test (Some n) version e = grind (arith, e)

tomb_takes : (tomb : Option ℕ) (bytes : List ℕ) (m : ChainMark) (rest : List ℕ) → IsBytes bytes → tomb_at tomb bytes ≡ Ok (m, rest) → MarkRead 2 tomb bytes m rest
tomb_takes tomb bytes m rest fits e =
    let a = bind_ok (number_at w64 bytes) _ (m, rest) e in
    let w = wanted_ok (option_map_or (λ n. nat_lt n a.0.0) tomb true) bytes (done (marks.Tomb a.0.0, a.0.1)) (m, rest) a.2 in
    let t = number_takes w64 (2 ^ 64) wide64 bytes a.0.0 a.0.1 fits a.1 in
    let made : ChainMark × List ℕ = (marks.Tomb a.0.0, a.0.1) in
    subst (λ (p : ChainMark × List ℕ). MarkRead 2 tomb bytes p.0 p.1) (ok_is made (m, rest) w.1) (record {
      tag_is = refl;
      takes = t.takes;
      is_mark = tt;
      fits = t.below;
      above = above_from tomb a.0.0 w.0;
    })

hold_takes : (tomb : Option ℕ) (bytes : List ℕ) (m : ChainMark) (rest : List ℕ) → IsBytes bytes → hold_at bytes ≡ Ok (m, rest) → MarkRead 3 tomb bytes m rest
hold_takes tomb bytes m rest fits e =
    let a = bind_ok (holder_at bytes) _ (m, rest) e in
    let b = bind_ok (number_at w64 a.0.1) _ (m, rest) a.2 in
    let t = holder_takes bytes a.0.0 a.0.1 fits a.1 in
    let u = number_takes w64 (2 ^ 64) wide64 a.0.1 b.0.0 b.0.1 t.takes.rest_fits b.1 in
    let made : ChainMark × List ℕ = (marks.Hold a.0.0 b.0.0, b.0.1) in
    subst (λ (p : ChainMark × List ℕ). MarkRead 3 tomb bytes p.0 p.1) (ok_is made (m, rest) b.2) (record {
      tag_is = refl;
      takes = Takes-then bytes (holder_text a.0.0) a.0.1 (to_be_bytes w64 b.0.0) b.0.1 t.takes u.takes;
      is_mark = tt;
      fits = (t.fits, u.below);
      above = tt;
    })

release_takes : (tomb : Option ℕ) (bytes : List ℕ) (m : ChainMark) (rest : List ℕ) → IsBytes bytes → release_at bytes ≡ Ok (m, rest) → MarkRead 4 tomb bytes m rest
release_takes tomb bytes m rest fits e =
    let a = bind_ok (holder_at bytes) _ (m, rest) e in
    let t = holder_takes bytes a.0.0 a.0.1 fits a.1 in
    let made : ChainMark × List ℕ = (marks.Release a.0.0, a.0.1) in
    subst (λ (p : ChainMark × List ℕ). MarkRead 4 tomb bytes p.0 p.1) (ok_is made (m, rest) a.2) (record {
      tag_is = refl;
      takes = t.takes;
      is_mark = tt;
      fits = t.fits;
      above = tt;
    })

pub filled : {A : Type 0} (xs : List A) (n : ℕ) → length xs ≡ n → nat_le 1 n ≡ true → IsFilled xs
filled [] n e some = absurd (true≢false (sym some ∙ ap (nat_le 1) (sym e)))
filled (x ∷ xs) n e some = tt

pub one_at_least : {A : Type 0} (xs : List A) → IsFilled xs → nat_le 1 (length xs) ≡ true
one_at_least [] e = absurd e
one_at_least (x ∷ xs) e = le-leb 1 (suc (length xs)) (omega arith)

discard_takes : (tomb : Option ℕ) (bytes : List ℕ) (m : ChainMark) (rest : List ℕ) → IsBytes bytes → discard_at bytes ≡ Ok (m, rest) → MarkRead 5 tomb bytes m rest
discard_takes tomb bytes m rest fits e =
    let a = bind_ok (number_at w64 bytes) _ (m, rest) e in
    let b = bind_ok (wanted (nat_le 1 a.0.0) bytes (pieces_at None a.0.0 a.0.1)) _ (m, rest) a.2 in
    let w = wanted_ok (nat_le 1 a.0.0) bytes (pieces_at None a.0.0 a.0.1) b.0 b.1 in
    let t = number_takes w64 (2 ^ 64) wide64 bytes a.0.0 a.0.1 fits a.1 in
    let u = pieces_takes None a.0.0 a.0.1 b.0.0 b.0.1 t.takes.rest_fits w.1 in
    let made : ChainMark × List ℕ = (marks.Discard b.0.0, b.0.1) in
    let count : Takes bytes (to_be_bytes w64 (length b.0.0)) a.0.1 = subst (λ (n : ℕ). Takes bytes (to_be_bytes w64 n) a.0.1) (sym u.len) t.takes in
    subst (λ (p : ChainMark × List ℕ). MarkRead 5 tomb bytes p.0 p.1) (ok_is made (m, rest) b.2) (record {
      tag_is = refl;
      takes = Takes-then bytes (to_be_bytes w64 (length b.0.0)) a.0.1 (flat_map piece_text b.0.0) b.0.1 count u.takes;
      is_mark = (filled b.0.0 a.0.0 u.len w.0, u.rise);
      fits = (subst (λ (n : ℕ). n < 2 ^ 64) (sym u.len) t.below, u.fits);
      above = tt;
    })

-- the number is one of a mark
abbrev pub IsTag : ℕ → Type 0
IsTag tag = (tag ≡ 1) ⊎ (tag ≡ 2) ⊎ (tag ≡ 3) ⊎ (tag ≡ 4) ⊎ (tag ≡ 5)

pub mark_takes : (tag : ℕ) (tomb : Option ℕ) (bytes : List ℕ) (m : ChainMark) (rest : List ℕ) → IsTag tag → IsBytes bytes → mark_at tag tomb bytes ≡ Ok (m, rest) → MarkRead tag tomb bytes m rest
mark_takes tag tomb bytes m rest is fits e = elim is [
  | inl one ↦ at 1 one (λ g. link_takes tomb bytes m rest fits g)
  | inr (inl two) ↦ at 2 two (λ g. tomb_takes tomb bytes m rest fits g)
  | inr (inr (inl three)) ↦ at 3 three (λ g. hold_takes tomb bytes m rest fits g)
  | inr (inr (inr (inl four))) ↦ at 4 four (λ g. release_takes tomb bytes m rest fits g)
  | inr (inr (inr (inr five))) ↦ at 5 five (λ g. discard_takes tomb bytes m rest fits g)
]
  where
    at : (n : ℕ) → tag ≡ n → (mark_at n tomb bytes ≡ Ok (m, rest) → MarkRead n tomb bytes m rest) → MarkRead tag tomb bytes m rest
    at n same read = subst (λ k. MarkRead k tomb bytes m rest) (sym same) (read (ap (λ k. mark_at k tomb bytes) (sym same) ∙ e))

-- a mark, whatever follows
pub mark_again : (m : ChainMark) (tomb : Option ℕ) (rest : List ℕ) → IsMark m → FitsMark m → IsAboveTomb tomb m → mark_at (tag_of m) tomb (body_text m ++ rest) ≡ Ok (m, rest)
mark_again (marks.Link l) tomb rest is fits above =
    let t3 = key_text l.index ++ rest in
    let t2 = to_be_bytes w32 l.rows ++ t3 in
    let t1 = signed_text l.stamp ++ t2 in
    ap link_at (regrouped (to_be_bytes w64 l.version) (signed_text l.stamp) (to_be_bytes w32 l.rows) (key_text l.index) rest)
    ∙ (bind_is (number_at w64 (to_be_bytes w64 l.version ++ t1)) (l.version, t1) _ (number_again w64 (2 ^ 64) wide64 l.version t1 fits.version)
    ∙ (bind_is (signed_at t1) (l.stamp, t2) _ (signed_again l.stamp t2 fits.stamp)
    ∙ (bind_is (number_at w32 t2) (l.rows, t3) _ (number_again w32 (2 ^ 32) wide32 l.rows t3 is.rows)
    ∙ bind_is (key_of_at kinds.TableIndex t3) (l.index, rest) _ (subst (λ k. key_of_at k t3 ≡ Ok (l.index, rest)) is.index.kind_is (key_of_again l.index rest is.index.is_key fits.index)))))
  where
    regrouped : (a b c d e : List ℕ) → (((a ++ b) ++ c) ++ d) ++ e ≡ a ++ (b ++ (c ++ (d ++ e)))
    regrouped a b c d e = simp append_assoc
mark_again (marks.Tomb version) tomb rest is fits above =
    bind_is (number_at w64 (to_be_bytes w64 version ++ rest)) (version, rest) _ (number_again w64 (2 ^ 64) wide64 version rest fits)
    ∙ wanted_is (option_map_or (λ n. nat_lt n version) tomb true) (to_be_bytes w64 version ++ rest) (done (marks.Tomb version, rest)) (above_test tomb version above)
mark_again (marks.Hold holder version) tomb rest is fits above =
    let t = to_be_bytes w64 version ++ rest in
    ap hold_at (append_assoc (holder_text holder) (to_be_bytes w64 version) rest)
    ∙ (bind_is (holder_at (holder_text holder ++ t)) (holder, t) _ (holder_again holder t fits.0)
    ∙ bind_is (number_at w64 t) (version, rest) _ (number_again w64 (2 ^ 64) wide64 version rest fits.1))
mark_again (marks.Release holder) tomb rest is fits above = bind_is (holder_at (holder_text holder ++ rest)) (holder, rest) _ (holder_again holder rest fits)
mark_again (marks.Discard pieces) tomb rest is fits above =
    let t = flat_map piece_text pieces ++ rest in
    ap discard_at (append_assoc (to_be_bytes w64 (length pieces)) (flat_map piece_text pieces) rest)
    ∙ (bind_is (number_at w64 (to_be_bytes w64 (length pieces) ++ t)) (length pieces, t) _ (number_again w64 (2 ^ 64) wide64 (length pieces) t fits.0)
    ∙ bind_is (wanted (nat_le 1 (length pieces)) (to_be_bytes w64 (length pieces) ++ t) (pieces_at None (length pieces) t)) (pieces, rest) _
    (wanted_is (nat_le 1 (length pieces)) _ (pieces_at None (length pieces) t) (one_at_least pieces is.0) ∙ pieces_again None pieces rest fits.1 is.1))
mark_again (marks.Compact told) tomb rest is fits above = absurd is
