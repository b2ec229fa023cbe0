-- Fields that are added to a line behind commas, and the columns that they come from.
use Rattle.std.proofs.Common.{◌≡◌, ℕ, zero, suc, ◌+◌, ◌<◌, ◌≤◌, ℤ, Bool, true, false, List, [], ◌∷◌, ◌++◌, length, get_or, take, map, Option, Some, refl, sym, ap, ◌∙◌, subst, append_assoc, arith}
use Rattle.std.specs.Prelude.{slice_get, option_map, option_and_then}
use Rattle.std.specs.List.{join_with_byte, AllByRecursion, AllZip}
use Rattle.std.proofs.lemmas.List.{append-nil, take_more, take_all, length-map}
use Rattle.std.proofs.lemmas.List.Concat.{flat_map-append}
use Rattle.std.proofs.lemmas.Option.{slice_get-get_or, slice_get_within}
use Rattle.frame_core.specs.Texts.{Text}
use Rattle.frame_core.specs.declared.cell.Cell.{Cell}
use Rattle.frame_core.specs.Schemas.{Head}
use Rattle.frame_core.specs.Frames.{Row, Frame, IsFrame, FitsColumns, stamp_at, cell_at}
use Rattle.reply_text.specs.Commas.{behind_commas, comma_before, further_fields}
use Rattle.reply_text.specs.FrameText.{ended, record_text, cell_text, index_text, with_index}

-- the fields of a record are the first, and the others behind commas
pub join-commas : (field : Text) (fields : List Text) → join_with_byte 44 (field ∷ fields) ≡ field ++ behind_commas fields
join-commas field [] = sym (append-nil field)
join-commas field (next ∷ fields) = ap (λ (t : Text). field ++ (44 ∷ t)) (join-commas next fields)

-- one field more
pub commas-more : (old line comma now : Text) (fields : List Text) (i : ℕ) (field : Text) → slice_get fields i ≡ Some field →
    line ≡ old ++ behind_commas (take i fields) → comma ≡ line ++ 44 ∷ [] → now ≡ comma ++ field → now ≡ old ++ behind_commas (take (i + 1) fields)
commas-more old line comma now fields i field is so_far one two =
    let lt : i < length fields = slice_get_within fields i field is in
    let here : get_or fields i field ≡ field = same (sym (slice_get-get_or fields i field lt) ∙ is) in
    let text : behind_commas (take (i + 1) fields) ≡ behind_commas (take i fields) ++ (44 ∷ field) =
    ap behind_commas (take_more fields i field lt ∙ ap (λ (f : Text). take i fields ++ f ∷ []) here)
    ∙ (flat_map-append (λ (f : Text). 44 ∷ f) (take i fields) (field ∷ []) ∙ ap (λ (t : Text). behind_commas (take i fields) ++ (44 ∷ t)) (append-nil field)) in
    two ∙ (ap (λ (t : Text). t ++ field) (one ∙ ap (λ (t : Text). t ++ 44 ∷ []) so_far)
    ∙ (append_assoc (old ++ behind_commas (take i fields)) (44 ∷ []) field ∙ (append_assoc old (behind_commas (take i fields)) (44 ∷ field) ∙ ap (λ (t : Text). old ++ t) (sym text))))
  where
    same : {x y : Text} → Some x ≡ Some y → x ≡ y
    same e = cc

-- all fields
pub commas-all : (old line : Text) (fields : List Text) (i : ℕ) → length fields ≤ i → line ≡ old ++ behind_commas (take i fields) → line ≡ old ++ behind_commas fields
commas-all old line fields i le so_far = so_far ∙ ap (λ (fs : List Text). old ++ behind_commas fs) (take_all i fields le)

-- one field more, in a record that something may stand before
pub further-more : (stands : Bool) (old line comma now : Text) (fields : List Text) (i : ℕ) (field : Text) → slice_get fields i ≡ Some field →
    line ≡ old ++ further_fields stands (take i fields) → comma ≡ line ++ comma_before stands i → now ≡ comma ++ field → now ≡ old ++ further_fields stands (take (i + 1) fields)
further-more true old line comma now fields zero field is so_far one two = commas-more old line comma now fields zero field is so_far one two
further-more true old line comma now fields (suc i) field is so_far one two = commas-more old line comma now fields (suc i) field is so_far one two
further-more false old line comma now [] zero field is so_far one two = absurd cc
further-more false old line comma now (f ∷ fields) zero field is so_far one two =
    let same : f ≡ field = cc in
    two ∙ (ap (λ (t : Text). t ++ field) (one ∙ (append-nil line ∙ (so_far ∙ append-nil old))) ∙ ap (λ (t : Text). old ++ t) (sym same))
further-more false old line comma now [] (suc i) field is so_far one two = absurd cc
further-more false old line comma now (f ∷ fields) (suc i) field is so_far one two =
    commas-more (old ++ f) line comma now fields i field is
    (so_far ∙ (ap (λ (t : Text). old ++ t) (join-commas f (take i fields)) ∙ sym (append_assoc old f (behind_commas (take i fields)))))
    one two
    ∙ (append_assoc old f (behind_commas (take (i + 1) fields)) ∙ (ap (λ (t : Text). old ++ t) (sym (join-commas f (take (i + 1) fields)))
    ∙ ap (λ (n : ℕ). old ++ join_with_byte 44 (take n (f ∷ fields))) (sym more)))
  where
    more : suc i + 1 ≡ suc (i + 1)
    more = omega arith

-- all fields
pub further-all : (stands : Bool) (old line : Text) (fields : List Text) (i : ℕ) → length fields ≤ i → line ≡ old ++ further_fields stands (take i fields) → line ≡ old ++ further_fields stands fields
further-all stands old line fields i le so_far = so_far ∙ ap (λ (fs : List Text). old ++ further_fields stands fs) (take_all i fields le)

-- ---- places

-- the element at a place of a loop
pub got-at : {A : Type 0} (xs : List A) (i : ℕ) (x : A) → i < length xs → x ≡ get_or xs i x → slice_get xs i ≡ Some x
got-at {A} xs i x lt is = slice_get-get_or xs i x lt ∙ ap (λ (y : A). some y) (sym is)
  where
    some : A → Option A
    some y = Some y

-- the value at a place
pub slice_get-mapped : {A B : Type 0} (f : A → B) (xs : List A) (i : ℕ) → slice_get (map f xs) i ≡ option_map f (slice_get xs i)
slice_get-mapped f [] i = refl
slice_get-mapped f (x ∷ xs) zero = refl
slice_get-mapped f (x ∷ xs) (suc i) = slice_get-mapped f xs i

-- what holds of all holds at a place
pub all-got : {A : Type 0} (P : A → Type 0) (xs : List A) (i : ℕ) (x : A) → AllByRecursion P xs → slice_get xs i ≡ Some x → P x
all-got P [] i x all is = absurd cc
all-got P (y ∷ xs) zero x all is = let same : y ≡ x = cc in subst P same all.0
all-got P (y ∷ xs) (suc i) x all is = all-got P xs i x all.1 is

-- ---- the lines of a frame

-- the line of a record that was added to a line
pub record-made : (timed : Bool) (line one two now : Text) (index : Text) (fields : List Text) → one ≡ line ++ index_text timed index → two ≡ one ++ further_fields timed fields → now ≡ ended two →
    now ≡ line ++ record_text (with_index timed index fields)
unfolding record_text
record-made true line one two now index fields p q r =
    r ∙ (ap (λ (t : Text). t ++ 10 ∷ []) (q ∙ (ap (λ (t : Text). t ++ behind_commas fields) p ∙ append_assoc line index (behind_commas fields)))
    ∙ (append_assoc line (index ++ behind_commas fields) (10 ∷ []) ∙ ap (λ (t : Text). line ++ (t ++ 10 ∷ [])) (sym (join-commas index fields))))
record-made false line one two now index fields p q r =
    r ∙ (ap (λ (t : Text). t ++ 10 ∷ []) (q ∙ ap (λ (t : Text). t ++ join_with_byte 44 fields) (p ∙ append-nil line)) ∙ append_assoc line (join_with_byte 44 fields) (10 ∷ []))

-- the stamp of a row
pub stamp-of : (f : Frame) (row : ℕ) (r : Row) (stamp : ℤ) → slice_get f.rows row ≡ Some r → stamp_at f row ≡ Some stamp → stamp ≡ r.stamp
stamp-of f row r stamp is at = same (sym at ∙ ap (λ o. option_map (λ (q : Row). q.stamp) o) is)
  where
    same : Some stamp ≡ Some r.stamp → stamp ≡ r.stamp
    same e = cc

-- the field of a cell, by its column
pub cell-field : (f : Frame) (row place : ℕ) (r : Row) (cell : Cell) → slice_get f.rows row ≡ Some r → cell_at f row place ≡ Some cell → slice_get (map cell_text r.cells) place ≡ Some (cell_text cell)
cell-field f row place r cell is at =
    slice_get-mapped cell_text r.cells place ∙ ap (λ o. option_map cell_text o)
    (sym (ap (λ o. option_and_then (λ (q : Row). slice_get q.cells place) o) is) ∙ at)

as-wide : (R : Head → Cell → Type 0) (heads : List Head) (cells : List Cell) → AllZip R heads cells → length heads ≡ length cells
as-wide R [] [] all = refl
as-wide R [] (c ∷ cells) all = absurd all
as-wide R (h ∷ heads) [] all = absurd all
as-wide R (h ∷ heads) (c ∷ cells) all = omega (arith, as-wide R heads cells all.1)

-- a row has as many fields as there are columns
pub row-width : (f : Frame) (row : ℕ) (r : Row) → IsFrame f → slice_get f.rows row ≡ Some r → length (map cell_text r.cells) ≡ length f.schema.columns
row-width f row r frame is =
    let fits = all-got (FitsColumns f.schema.columns) f.rows row r frame.fitting is in
    length-map r.cells cell_text ∙ sym (as-wide _ f.schema.columns r.cells fits.typed)
