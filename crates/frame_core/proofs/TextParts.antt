-- Parts of lists of texts, and lists behind one another.
use Rattle.std.proofs.Common.{◌≡◌, ℕ, zero, suc, ◌+◌, ◌-◌, ◌^◌, ◌<◌, ◌≤◌, List, [], ◌∷◌, ◌++◌, length, map, get_or, take, drop, refl, sym, ap, ◌∙◌, subst, arith, length-append, length-drop}
use Rattle.std.specs.Prelude.{IsUtf8, slice_range}
use Rattle.std.specs.List.{AllByRecursion}
use Rattle.std.specs.Str.{IsCharBoundary}
use Rattle.std.proofs.lemmas.List.{drop-drop, take-take, drop-take, length-take-le}
use Rattle.std.proofs.Math.Seq.{drop-append-add}
use Rattle.frame_core.specs.Texts.{Text, texts_between, AreEnds}
use Rattle.frame_core.proofs.TextLemmas.{boundary-start, slice_range-append, rest-utf8, length-texts_between}

-- texts that end at these places, the last of them at `last`
abbrev pub AreParts : ℕ → List ℕ → ℕ → Text → Type 0
AreParts start [] last buffer = start ≡ last
AreParts start (end ∷ ends) last buffer = (start ≤ end) × IsUtf8 (slice_range buffer start end) × AreParts end ends last buffer

parts_from_ends : (start : ℕ) (ends : List ℕ) (buffer : Text) → AreEnds start ends buffer → AreParts start ends (length buffer) buffer
parts_from_ends start [] buffer are = are
parts_from_ends start (end ∷ ends) buffer are = (are.0, are.1, parts_from_ends end ends buffer are.2)

in_order : (start : ℕ) (ends : List ℕ) (last : ℕ) (buffer : Text) → AreParts start ends last buffer → start ≤ last
in_order start [] last buffer are = omega (arith, are)
in_order start (end ∷ ends) last buffer are = omega (arith, are.0, in_order end ends last buffer are.2)

-- the texts from place k on
drop_parts : (k start : ℕ) (ends : List ℕ) (last : ℕ) (buffer : Text) → k ≤ length ends → AreParts start ends last buffer → AreParts (get_or (start ∷ ends) k 0) (drop k ends) last buffer × (drop k (texts_between start ends buffer) ≡ texts_between (get_or (start ∷ ends) k 0) (drop k ends) buffer)
drop_parts zero start ends last buffer le are = (are, refl)
drop_parts (suc k) start [] last buffer le are = absurd (omega arith)
drop_parts (suc k) start (end ∷ ends) last buffer le are = drop_parts k end ends last buffer (omega arith) are.2

-- the first n texts
take_parts : (n start : ℕ) (ends : List ℕ) (last : ℕ) (buffer : Text) → n ≤ length ends → AreParts start ends last buffer → AreParts start (take n ends) (get_or (start ∷ ends) n 0) buffer × (take n (texts_between start ends buffer) ≡ texts_between start (take n ends) buffer) × (get_or (start ∷ ends) n 0 ≤ last)
take_parts zero start ends last buffer le are = (refl, refl, in_order start ends last buffer are)
take_parts (suc n) start [] last buffer le are = absurd (omega arith)
take_parts (suc n) start (end ∷ ends) last buffer le are =
    let rest = take_parts n end ends last buffer (omega arith) are.2 in
    ((are.0, are.1, rest.0), ap (λ (ts : List Text). slice_range buffer start end ∷ ts) rest.1, rest.2)

-- a part of a part of a buffer
part_of_part : (buffer : Text) (b last s e : ℕ) → b ≤ s → s ≤ e → e ≤ last → slice_range (slice_range buffer b last) (s - b) (e - b) ≡ slice_range buffer s e
part_of_part buffer b last s e low order high =
    let width : last - b ≡ (s - b) + (last - s) = omega arith in
    let moved : b + (s - b) ≡ s = omega arith in
    let long : (e - b) - (s - b) ≡ e - s = omega arith in
    let rest : drop (s - b) (take (last - b) (drop b buffer)) ≡ take (last - s) (drop s buffer) = rw width (drop-take (s - b) (last - s) (drop b buffer)) ∙ ap (take (last - s)) (drop-drop (s - b) b buffer ∙ ap (λ n. drop n buffer) moved) in
    rw (long, rest) (take-take (e - s) (last - s) (drop s buffer) (omega arith))

-- the texts of a part of the buffer, by ends that count from the part's begin
shift_parts : (b start : ℕ) (ends : List ℕ) (last : ℕ) (buffer : Text) → b ≤ start → last ≤ length buffer → AreParts start ends last buffer → AreEnds (start - b) (map (λ end. end - b) ends) (slice_range buffer b last) × (texts_between (start - b) (map (λ end. end - b) ends) (slice_range buffer b last) ≡ texts_between start ends buffer)
shift_parts b start [] last buffer low high are =
    let long : length (slice_range buffer b last) ≡ last - b = length-take-le (last - b) (drop b buffer) (omega (arith, length-drop b buffer)) in
    (omega (arith, are, long), refl)
shift_parts b start (end ∷ ends) last buffer low high are =
    let ordered = in_order end ends last buffer are.2 in
    let here : slice_range (slice_range buffer b last) (start - b) (end - b) ≡ slice_range buffer start end = part_of_part buffer b last start end low are.0 ordered in
    let rest = shift_parts b end ends last buffer (omega (arith, are.0)) high are.2 in
    ((omega (arith, are.0), rw here are.1, rest.0), rw (here, rest.1) refl)

low_ends : (start : ℕ) (ends : List ℕ) (last b : ℕ) (buffer : Text) → b ≤ start → AreParts start ends last buffer → AllByRecursion (λ end. b ≤ end) ends
low_ends start [] last b buffer low are = tt
low_ends start (end ∷ ends) last b buffer low are = (omega (arith, are.0), low_ends end ends last b buffer (omega (arith, are.0)) are.2)

-- a part of a list of texts
pub record PartOf (ends : List ℕ) (buffer : Text) (texts : List Text) (from to start end : ℕ) : Type 0 where
  pub order : start ≤ end
  pub begins : IsCharBoundary buffer start
  pub ends_at : IsCharBoundary buffer end
  pub low : AllByRecursion (λ e. start ≤ e) (slice_range ends from to)
  pub are : AreEnds 0 (map (λ e. e - start) (slice_range ends from to)) (slice_range buffer start end)
  pub is : texts_between 0 (map (λ e. e - start) (slice_range ends from to)) (slice_range buffer start end) ≡ slice_range texts from to

boundary_at : (k : ℕ) (ends : List ℕ) (buffer : Text) → k ≤ length ends → AreEnds 0 ends buffer → IsCharBoundary buffer (get_or (0 ∷ ends) k 0)
boundary_at k ends buffer le are = from_any k 0 ends le are
  where
    from_any : (k start : ℕ) (ends : List ℕ) → k ≤ length ends → AreEnds start ends buffer → IsCharBoundary buffer (get_or (start ∷ ends) k 0)
    from_any zero start ends le are = boundary-start start ends buffer are
    from_any (suc k) start [] le are = absurd (omega arith)
    from_any (suc k) start (end ∷ ends) le are = from_any k end ends (omega arith) are.2

end_of : (start : ℕ) (ends : List ℕ) (from n : ℕ) → from + n ≤ length ends → get_or (get_or (start ∷ ends) from 0 ∷ drop from ends) n 0 ≡ get_or (start ∷ ends) (from + n) 0
end_of start ends zero n le = let same : 0 + n ≡ n = omega arith in rw same refl
end_of start [] (suc from) n le = absurd (omega arith)
end_of start (end ∷ ends) (suc from) n le = let more : suc from + n ≡ suc (from + n) = omega arith in rw more (end_of end ends from n (omega arith))

pub part_of : (ends : List ℕ) (buffer : Text) (texts : List Text) (from to : ℕ) → AreEnds 0 ends buffer → texts_between 0 ends buffer ≡ texts → from ≤ to → to ≤ length texts → PartOf ends buffer texts from to (get_or (0 ∷ ends) from 0) (get_or (0 ∷ ends) to 0)
part_of ends buffer texts from to are view order within =
    let count : to ≤ length ends = omega (arith, ap length view, length-texts_between 0 ends buffer) in
    let start = get_or (0 ∷ ends) from 0 in
    let last = get_or (0 ∷ ends) to 0 in
    let dropped = drop_parts from 0 ends (length buffer) buffer (omega arith) (parts_from_ends 0 ends buffer are) in
    let taken = take_parts (to - from) start (drop from ends) (length buffer) buffer (omega (arith, length-drop from ends)) dropped.0 in
    let place : from + (to - from) ≡ to = omega arith in
    let last_is : get_or (start ∷ drop from ends) (to - from) 0 ≡ last = end_of 0 ends from (to - from) (omega arith) ∙ ap (λ n. get_or (0 ∷ ends) n 0) place in
    let parts : AreParts start (slice_range ends from to) last buffer = subst (λ n. AreParts start (slice_range ends from to) n buffer) last_is taken.0 in
    let high : last ≤ length buffer = omega (arith, taken.2, last_is) in
    let shifted = shift_parts start start (slice_range ends from to) last buffer (omega arith) high parts in
    let zero_start : start - start ≡ 0 = omega arith in
    let texts_are : slice_range texts from to ≡ texts_between start (slice_range ends from to) buffer = rw (← view) (ap (take (to - from)) dropped.1 ∙ taken.1) in
    record {
      order = in_order start (slice_range ends from to) last buffer parts;
      begins = boundary_at from ends buffer (omega arith) are;
      ends_at = boundary_at to ends buffer count are;
      low = low_ends start (slice_range ends from to) last start buffer (omega arith) parts;
      are = subst (λ n. AreEnds n (map (λ e. e - start) (slice_range ends from to)) (slice_range buffer start last)) zero_start shifted.0;
      is = subst (λ n. texts_between n (map (λ e. e - start) (slice_range ends from to)) (slice_range buffer start last) ≡ texts_between start (slice_range ends from to) buffer) zero_start shifted.1 ∙ sym texts_are;
    }

-- the same, as the lent buffer and the begins of texts have it
pub part_found : (ends first_ends last_ends : List ℕ) (buffer lent : Text) (texts : List Text) (from to start end : ℕ) → AreEnds 0 ends buffer → texts_between 0 ends buffer ≡ texts → from ≤ to → to ≤ length texts → first_ends ≡ ends → start ≡ get_or (0 ∷ first_ends) from 0 → last_ends ≡ ends → end ≡ get_or (0 ∷ last_ends) to 0 → lent ≡ buffer → PartOf ends lent texts from to start end
part_found ends first_ends last_ends buffer lent texts from to start end are view order within first_are start_is last_are end_is same =
    let p = part_of ends buffer texts from to are view order within in
    let from_is : get_or (0 ∷ ends) from 0 ≡ start = ap (λ (es : List ℕ). get_or (0 ∷ es) from 0) (sym first_are) ∙ sym start_is in
    let to_is : get_or (0 ∷ ends) to 0 ≡ end = ap (λ (es : List ℕ). get_or (0 ∷ es) to 0) (sym last_are) ∙ sym end_is in
    subst (λ (b : Text). PartOf ends b texts from to start end) (sym same) (subst (λ n. PartOf ends buffer texts from to start n) to_is (subst (λ n. PartOf ends buffer texts from to n (get_or (0 ∷ ends) to 0)) from_is p))

-- the fields of the part
pub part_made : (ends lent_ends new : List ℕ) (lent cut buffer : Text) (texts : List Text) (from to start end : ℕ) → PartOf ends lent texts from to start end → lent_ends ≡ ends → new ≡ map (λ e. e - start) (slice_range lent_ends from to) → cut ≡ slice_range lent start end → buffer ≡ cut → AreEnds 0 new buffer × (texts_between 0 new buffer ≡ slice_range texts from to)
part_made ends lent_ends new lent cut buffer texts from to start end p same new_is cut_is buffer_is = rw (new_is, same, buffer_is, cut_is) (p.are, p.is)

-- ---- one list behind another

slice_behind : (first more : Text) (a b : ℕ) → a ≤ b → slice_range (first ++ more) (a + length first) (b + length first) ≡ slice_range more a b
slice_behind first more a b order =
    let long : (b + length first) - (a + length first) ≡ b - a = omega arith in
    let place : a + length first ≡ length first + a = omega arith in
    rw (long, place) (ap (take (b - a)) (drop-append-add first more a))

ends_behind : (start : ℕ) (ends : List ℕ) (first more : Text) → AreEnds start ends more → AreEnds (start + length first) (map (λ end. end + length first) ends) (first ++ more) × (texts_between (start + length first) (map (λ end. end + length first) ends) (first ++ more) ≡ texts_between start ends more)
ends_behind start [] first more are = (omega (arith, are, length-append first more), refl)
ends_behind start (end ∷ ends) first more are =
    let here = slice_behind first more start end are.0 in
    let rest = ends_behind end ends first more are.2 in
    ((omega (arith, are.0), rw here are.1, rest.0), rw (here, rest.1) refl)

pub joined_ends : (start : ℕ) (ends more_ends : List ℕ) (first more : Text) → AreEnds start ends first → AreEnds 0 more_ends more → AreEnds start (ends ++ map (λ end. end + length first) more_ends) (first ++ more) × (texts_between start (ends ++ map (λ end. end + length first) more_ends) (first ++ more) ≡ texts_between start ends first ++ texts_between 0 more_ends more)
joined_ends start [] more_ends first more are more_are =
    let behind = ends_behind 0 more_ends first more more_are in
    let place : 0 + length first ≡ start = omega (arith, are) in
    (subst (λ n. AreEnds n (map (λ end. end + length first) more_ends) (first ++ more)) place behind.0, subst (λ n. texts_between n (map (λ end. end + length first) more_ends) (first ++ more) ≡ texts_between 0 more_ends more) place behind.1)
joined_ends start (end ∷ ends) more_ends first more are more_are =
    let rest = joined_ends end ends more_ends first more are.2 more_are in
    let within = rest-utf8 end ends first are.2 in
    let here = slice_range-append first more start end are.0 within.0 in
    ((are.0, rw here are.1, rest.0), rw (here, rest.1) refl)

-- no end lies behind the buffer
pub ends_within : (start : ℕ) (ends : List ℕ) (buffer : Text) (more limit : ℕ) → AreEnds start ends buffer → length buffer + more < limit → AllByRecursion (λ end. end + more < limit) ends
ends_within start [] buffer more limit are small = tt
ends_within start (end ∷ ends) buffer more limit are small = (omega (arith, (rest-utf8 end ends buffer are.2).0), ends_within end ends buffer more limit are.2 small)

pub raise_fits : (ends lent : List ℕ) (buffer more : Text) (by : ℕ) → AreEnds 0 ends buffer → lent ≡ ends → more ≡ buffer → length more + by < 2 ^ 64 → AllByRecursion (λ end. end + by < 2 ^ 64) lent
raise_fits ends lent buffer more by are same lends small = rw same (ends_within 0 ends buffer by (2 ^ 64) are (subst (λ (t : Text). length t + by < 2 ^ 64) lends small))

-- the fields of a list behind another
pub joined_made : (ends more_ends lent more_lent new : List ℕ) (buffer more_buffer first more empty one both : Text) (texts more_texts : List Text) → AreEnds 0 ends buffer → AreEnds 0 more_ends more_buffer → texts_between 0 ends buffer ≡ texts → texts_between 0 more_ends more_buffer ≡ more_texts → lent ≡ ends → more_lent ≡ more_ends → first ≡ buffer → more ≡ more_buffer → empty ≡ [] → one ≡ empty ++ first → both ≡ one ++ more → new ≡ lent ++ map (λ end. end + length first) more_lent → AreEnds 0 new both × (texts_between 0 new both ≡ texts ++ more_texts)
joined_made ends more_ends lent more_lent new buffer more_buffer first more empty one both texts more_texts are more_are view more_view same more_same lends more_lends none one_is both_is new_is =
    let joined = joined_ends 0 ends more_ends buffer more_buffer are more_are in
    rw (new_is, both_is, one_is, none, same, more_same, lends, more_lends, ← view, ← more_view) joined

-- the fields of a list that another was put behind
pub appended_made : (ends more_ends reserved more_lent new : List ℕ) (buffer more_buffer first more both : Text) (texts more_texts : List Text) (by : ℕ) → AreEnds 0 ends buffer → AreEnds 0 more_ends more_buffer → texts_between 0 ends buffer ≡ texts → texts_between 0 more_ends more_buffer ≡ more_texts → reserved ≡ ends → more_lent ≡ more_ends → first ≡ buffer → by ≡ length first → more ≡ more_buffer → both ≡ buffer ++ more → new ≡ reserved ++ map (λ end. end + by) more_lent → AreEnds 0 new both × (texts_between 0 new both ≡ texts ++ more_texts)
appended_made ends more_ends reserved more_lent new buffer more_buffer first more both texts more_texts by are more_are view more_view same more_same lends by_is more_lends both_is new_is =
    let joined = joined_ends 0 ends more_ends buffer more_buffer are more_are in
    rw (new_is, both_is, same, more_same, by_is, lends, more_lends, ← view, ← more_view) joined
