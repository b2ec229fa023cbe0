-- Texts in one buffer.
use Rattle.std.proofs.Common.{◌≡◌, ℕ, zero, suc, ◌-◌, ◌<◌, ◌≤◌, List, [], ◌∷◌, ◌++◌, length, get_or, take, drop, Some, refl, sym, ap, ◌∙◌, subst, arith, length-append, length-drop}
use Rattle.std.specs.Prelude.{IsUtf8, slice_range, slice_get}
use Rattle.std.specs.List.{AllByRecursion}
use Rattle.std.specs.Str.{IsCharBoundary}
use Rattle.std.proofs.lemmas.Str.{IsUtf8-append, IsUtf8-nil, IsCharBoundary-from_drop}
use Rattle.std.proofs.lemmas.List.{drop_all, take-append-le, drop-append-le, drop_at, take_all}
use Rattle.std.proofs.lemmas.List.Folds.{drop_split}
use Rattle.frame_core.specs.Texts.{Text, texts_between, AreEnds}

pub length-texts_between : (start : ℕ) (ends : List ℕ) (buffer : Text) → length (texts_between start ends buffer) ≡ length ends
length-texts_between start [] buffer = refl
length-texts_between start (end ∷ ends) buffer = ap suc (length-texts_between end ends buffer)

pub texts-utf8 : (start : ℕ) (ends : List ℕ) (buffer : Text) → AreEnds start ends buffer → AllByRecursion IsUtf8 (texts_between start ends buffer)
texts-utf8 start [] buffer are = tt
texts-utf8 start (end ∷ ends) buffer are = (are.1, texts-utf8 end ends buffer are.2)

-- what stands from a start on is UTF-8
pub rest-utf8 : (start : ℕ) (ends : List ℕ) (buffer : Text) → AreEnds start ends buffer → (start ≤ length buffer) × IsUtf8 (drop start buffer)
rest-utf8 start [] buffer are = (omega arith, rw (drop_all start buffer (omega arith)) IsUtf8-nil)
rest-utf8 start (end ∷ ends) buffer are =
    let rest = rest-utf8 end ends buffer are.2 in
    (omega (arith, are.0, rest.0), rw (drop_split buffer start end are.0) (IsUtf8-append _ _ are.1 rest.1))

pub boundary-start : (start : ℕ) (ends : List ℕ) (buffer : Text) → AreEnds start ends buffer → IsCharBoundary buffer start
boundary-start start ends buffer are = let rest = rest-utf8 start ends buffer are in IsCharBoundary-from_drop buffer start rest.0 rest.1

-- the text at place k lies from one boundary up to another
pub record Piece (start : ℕ) (ends : List ℕ) (buffer : Text) (k from to : ℕ) : Type 0 where
  pub order : from ≤ to
  pub begins : IsCharBoundary buffer from
  pub ends_at : IsCharBoundary buffer to
  pub is : slice_get (texts_between start ends buffer) k ≡ Some (slice_range buffer from to)

pub piece : (start : ℕ) (ends : List ℕ) (buffer : Text) (k d : ℕ) → AreEnds start ends buffer → k < length ends → Piece start ends buffer k (get_or (start ∷ ends) k 0) (get_or ends k d)
piece start [] buffer k d are lt = absurd (omega arith)
piece start (end ∷ ends) buffer zero d are lt = record { order = are.0; begins = boundary-start start (end ∷ ends) buffer are; ends_at = boundary-start end ends buffer are.2; is = refl }
piece start (end ∷ ends) buffer (suc k) d are lt = let p = piece end ends buffer k d are.2 (omega arith) in record { order = p.order; begins = p.begins; ends_at = p.ends_at; is = p.is }

pub slice_range-append : (buffer more : Text) (a b : ℕ) → a ≤ b → b ≤ length buffer → slice_range (buffer ++ more) a b ≡ slice_range buffer a b
slice_range-append buffer more a b order within =
    let whole : a ≤ length buffer = omega arith in
    ap (take (b - a)) (drop-append-le a buffer more whole) ∙ take-append-le (b - a) (drop a buffer) more (omega (arith, length-drop a buffer))

-- one more text behind the others
pub texts_between-push : (start : ℕ) (ends : List ℕ) (buffer text : Text) → AreEnds start ends buffer → texts_between start (ends ++ length (buffer ++ text) ∷ []) (buffer ++ text) ≡ texts_between start ends buffer ++ text ∷ []
texts_between-push start [] buffer text are =
    let behind : drop start (buffer ++ text) ≡ text = drop_at buffer text start (sym are) in
    let all : slice_range (buffer ++ text) start (length (buffer ++ text)) ≡ text = ap (take (length (buffer ++ text) - start)) behind ∙ take_all (length (buffer ++ text) - start) text (omega (arith, length-append buffer text)) in
    ap (λ (t : Text). t ∷ []) all
texts_between-push start (end ∷ ends) buffer text are =
    let rest = rest-utf8 end ends buffer are.2 in
    let first = slice_range-append buffer text start end are.0 rest.0 in
    rw (first, texts_between-push end ends buffer text are.2) refl

pub AreEnds-push : (start : ℕ) (ends : List ℕ) (buffer text : Text) → AreEnds start ends buffer → IsUtf8 text → AreEnds start (ends ++ length (buffer ++ text) ∷ []) (buffer ++ text)
AreEnds-push start [] buffer text are utf8 =
    let behind : drop start (buffer ++ text) ≡ text = drop_at buffer text start (sym are) in
    let all : slice_range (buffer ++ text) start (length (buffer ++ text)) ≡ text = ap (take (length (buffer ++ text) - start)) behind ∙ take_all (length (buffer ++ text) - start) text (omega (arith, length-append buffer text)) in
    (omega (arith, length-append buffer text), rw all utf8, refl)
AreEnds-push start (end ∷ ends) buffer text are utf8 =
    let rest = rest-utf8 end ends buffer are.2 in
    let first = slice_range-append buffer text start end are.0 rest.0 in
    (are.0, rw first are.1, AreEnds-push end ends buffer text are.2 utf8)

-- the fields after a push: the buffer with the text, the ends that were reserved and the new end
pub pushed : (ends reserved new : List ℕ) (buffer text joined : Text) {end : ℕ} → joined ≡ buffer ++ text → end ≡ length joined → new ≡ reserved ++ end ∷ [] → reserved ≡ ends → AreEnds 0 ends buffer → texts_between 0 new joined ≡ texts_between 0 ends buffer ++ text ∷ []
pushed ends reserved new buffer text joined {end} is at more kept are = rw (more, kept, at, is) (texts_between-push 0 ends buffer text are)

pub AreEnds-pushed : (ends reserved new : List ℕ) (buffer text joined : Text) {end : ℕ} → joined ≡ buffer ++ text → end ≡ length joined → new ≡ reserved ++ end ∷ [] → reserved ≡ ends → AreEnds 0 ends buffer → IsUtf8 text → AreEnds 0 new joined
AreEnds-pushed ends reserved new buffer text joined {end} is at more kept are utf8 = rw (more, kept, at, is) (AreEnds-push 0 ends buffer text are utf8)

-- the text at a place, as the list of texts and the lent buffer have it
pub record Found (texts : List Text) (lent : Text) (k from to : ℕ) : Type 0 where
  pub order : from ≤ to
  pub begins : IsCharBoundary lent from
  pub ends_at : IsCharBoundary lent to
  pub is : slice_get texts k ≡ Some (slice_range lent from to)

pub found : (ends lent_ends : List ℕ) (buffer lent : Text) (texts : List Text) (k from to : ℕ) → AreEnds 0 ends buffer → texts_between 0 ends buffer ≡ texts → k < length texts → lent_ends ≡ ends → from ≡ get_or (0 ∷ lent_ends) k 0 → to ≡ get_or ends k to → lent ≡ buffer → Found texts lent k from to
found ends lent_ends buffer lent texts k from to are view lt same begins ends_at is =
    let lt_ends : k < length ends = omega (arith, ap length view, length-texts_between 0 ends buffer) in
    let p = piece 0 ends buffer k to are lt_ends in
    let from_is : get_or (0 ∷ ends) k 0 ≡ from = ap (λ (es : List ℕ). get_or (0 ∷ es) k 0) (sym same) ∙ sym begins in
    let moved : Piece 0 ends lent k from to = subst (λ (b : Text). Piece 0 ends b k from to) (sym is) (subst (λ (n : ℕ). Piece 0 ends buffer k from n) (sym ends_at) (subst (λ (n : ℕ). Piece 0 ends buffer k n (get_or ends k to)) from_is p)) in
    let texts_are : texts_between 0 ends lent ≡ texts = ap (texts_between 0 ends) is ∙ view in
    record { order = moved.order; begins = moved.begins; ends_at = moved.ends_at; is = ap (λ (ts : List Text). slice_get ts k) (sym texts_are) ∙ moved.is }
