-- Runs of slots behind one another, moved so that each begins where the one before it ends.
use Rattle.std.proofs.Common.{◌≡◌, ℕ, zero, suc, ◌+◌, ◌-◌, ◌≤◌, List, [], ◌∷◌, ◌++◌, length, map, take, drop, Some, refl, sym, ap, ◌∙◌, subst, inl, inr, arith}
use Rattle.std.specs.Prelude.{slice_range}
use Rattle.std.specs.List.{AllByRecursion, AllZip}
use Rattle.std.proofs.lemmas.List.{drop-drop, take-append-drop}
use Rattle.frame_core.specs.declared.part.Part.{Part}
use Rattle.frame_core.specs.Frames.{Row, Frame, IsFrame, first_stamp}
use Rattle.segment_cut.specs.Tiles.{cut}
use Rattle.index_tree.specs.declared.index.Slot.{Slot}
use Rattle.index_tree.specs.IndexRules.{SameBlock, NextBlock, LeadOn}
use Rattle.store_model.specs.Commits.{HasSlotStamps}
use Rattle.index_tree.specs.SlotTexts.{moved}
use Rattle.frame_write.specs.Pieces.{end_of, IsRun}
use Rattle.frame_write.proofs.RowStamps.{slices_ordered, length_slice}

-- ---- moved slots

-- the slot lies `to` rows behind where it lay behind the row `from`, and is the same besides
pub record IsMoved (from to : ℕ) (s t : Slot) : Type 0 where
  pub first_row : t.part.first_row + from ≡ s.part.first_row + to
  pub rows : t.part.rows ≡ s.part.rows
  pub first_col : t.part.first_col ≡ s.part.first_col
  pub cols : t.part.cols ≡ s.part.cols
  pub first : t.first ≡ s.first
  pub last : t.last ≡ s.last
  pub key : t.key ≡ s.key

moved_same : (columns from to : ℕ) (s s2 t t2 : Slot) → IsMoved from to s t → IsMoved from to s2 t2 → SameBlock columns s s2 → SameBlock columns t t2
moved_same columns from to s s2 t t2 m n b = record {
  left = omega (arith, b.left, m.first_col, m.cols);
  first_row = omega (arith, b.first_row, m.first_row, n.first_row);
  rows = n.rows ∙ (b.rows ∙ sym m.rows);
  first = n.first ∙ (b.first ∙ sym m.first);
  last = n.last ∙ (b.last ∙ sym m.last);
  first_col = omega (arith, b.first_col, m.first_col, m.cols, n.first_col);
}

moved_next : (columns from to : ℕ) (s s2 t t2 : Slot) → IsMoved from to s t → IsMoved from to s2 t2 → NextBlock columns s s2 → NextBlock columns t t2
moved_next columns from to s s2 t t2 m n b = record {
  whole = omega (arith, b.whole, m.first_col, m.cols);
  first_row = omega (arith, b.first_row, m.first_row, m.rows, n.first_row);
  first = rw (m.last, n.first) b.first;
  first_col = n.first_col ∙ b.first_col;
}

-- moved slots follow one another as they did
pub moved_lead : (columns from to end other : ℕ) (s t : Slot) (more next : List Slot) → other + from ≡ end + to → IsMoved from to s t → AllZip (IsMoved from to) more next → LeadOn end columns s more → LeadOn other columns t next
moved_lead columns from to end other s t [] [] ends m all l = (omega (arith, ends, m.first_row, m.rows, l.0), omega (arith, m.first_col, m.cols, l.1))
moved_lead columns from to end other s t [] (t2 ∷ next) ends m all l = absurd all
moved_lead columns from to end other s t (s2 ∷ more) [] ends m all l = absurd all
moved_lead columns from to end other s t (s2 ∷ more) (t2 ∷ next) ends m all l =
    let rest = moved_lead columns from to end other s2 t2 more next ends all.0 all.1 l.1 in
    elim l.0 [
      | inl b ↦ (inl (moved_same columns from to s s2 t t2 m all.0 b), rest)
      | inr b ↦ (inr (moved_next columns from to s s2 t t2 m all.0 b), rest)
    ]

-- the slots of a run lie between its ends
pub lead_between : (columns end : ℕ) (s : Slot) (more : List Slot) → LeadOn end columns s more
    → AllByRecursion (λ (t : Slot). (s.part.first_row ≤ t.part.first_row) × (t.part.first_row + t.part.rows ≤ end)) (s ∷ more)
lead_between columns end s [] l = ((omega arith, omega (arith, l.0)), tt)
lead_between columns end s (t ∷ more) l =
    let rest = lead_between columns end t more l.1 in
    elim l.0 [
      | inl b ↦ ((omega arith, omega (arith, b.first_row, b.rows, rest.0.1)), later (omega (arith, b.first_row)) (t ∷ more) rest)
      | inr b ↦ ((omega arith, omega (arith, b.first_row, rest.0.1)), later (omega (arith, b.first_row)) (t ∷ more) rest)
    ]
  where
    later : s.part.first_row ≤ t.part.first_row → (xs : List Slot) → AllByRecursion (λ (u : Slot). (t.part.first_row ≤ u.part.first_row) × (u.part.first_row + u.part.rows ≤ end)) xs
        → AllByRecursion (λ (u : Slot). (s.part.first_row ≤ u.part.first_row) × (u.part.first_row + u.part.rows ≤ end)) xs
    later le [] all = tt
    later le (x ∷ xs) all = ((omega (arith, le, all.0.0), all.0.1), later le xs all.1)

-- a moved slot is the same but for its first row
pub moved_is : (from to : ℕ) (s : Slot) → from ≤ s.part.first_row → IsMoved from to s (moved from to s)
moved_is from to s le = record { first_row = omega (arith, le); rows = refl; first_col = refl; cols = refl; first = refl; last = refl; key = refl }

-- ---- one run behind another

-- slots from a row on, up to the last row and column
abbrev pub CoverFrom : ℕ → ℕ → ℕ → List Slot → Type 0
CoverFrom from rows columns [] = from ≡ rows
CoverFrom from rows columns (s ∷ more) = (s.part.first_row ≡ from) × (s.part.first_col ≡ 0) × LeadOn rows columns s more

module _ (f : Frame) (is : IsFrame f) (columns : ℕ) where
  next_run : (s t : Slot) → s.part.first_col + s.part.cols ≡ columns → t.part.first_row ≡ s.part.first_row + s.part.rows → t.part.first_col ≡ 0 → HasSlotStamps f s → HasSlotStamps f t → NextBlock columns s t
  next_run s t whole row col a b =
      let after : first_stamp (slice_range f.rows (s.part.first_row + s.part.rows) ((s.part.first_row + s.part.rows) + t.part.rows)) ≡ Some t.first = subst (λ n. first_stamp (slice_range f.rows n (n + t.part.rows)) ≡ Some t.first) row b.first in
      record {
        whole = whole;
        first_row = row;
        first = slices_ordered s.part.first_row s.part.rows t.part.rows f.rows s.last t.first is.ascending a.last after;
        first_col = col;
      }

  -- a run, and what covers the rest behind it
  lead_join : (mid rows : ℕ) (s : Slot) (more rest : List Slot) → LeadOn mid columns s more → CoverFrom mid rows columns rest → HasSlotStamps f s → AllByRecursion (HasSlotStamps f) more → AllByRecursion (HasSlotStamps f) rest
      → LeadOn rows columns s (more ++ rest)
  lead_join mid rows s [] [] l c a hs ks = (l.0 ∙ c, l.1)
  lead_join mid rows s [] (t ∷ rest) l c a hs ks = (inr (next_run s t l.1 (c.0 ∙ sym l.0) c.1 a ks.0), c.2)
  lead_join mid rows s (t ∷ more) rest l c a hs ks = (l.0, lead_join mid rows t more rest l.1 c hs.0 hs.1 ks)

  -- slots that cover one stretch, and behind them slots that cover the next, cover both
  pub cover_join : (from mid rows : ℕ) (first rest : List Slot) → CoverFrom from mid columns first → CoverFrom mid rows columns rest → AllByRecursion (HasSlotStamps f) first → AllByRecursion (HasSlotStamps f) rest
      → CoverFrom from rows columns (first ++ rest)
  cover_join from mid rows [] rest a c hs ks = subst (λ n. CoverFrom n rows columns rest) (sym a) c
  cover_join from mid rows (s ∷ more) rest a c hs ks = (a.0, a.1, lead_join mid rows s more rest a.2 c hs.0 hs.1 ks)

-- ---- rows of a piece in the whole

front : {X : Type 0} (n : ℕ) (ys zs : List X) → n ≤ length ys → take n (ys ++ zs) ≡ take n ys
front zero ys zs le = refl
front (suc n) [] zs le = absurd (omega (arith, le))
front (suc n) (y ∷ ys) zs le = ap (λ l. y ∷ l) (front n ys zs (omega (arith, le)))

window : {X : Type 0} (a n : ℕ) (ys zs : List X) → a + n ≤ length ys → take n (drop a (ys ++ zs)) ≡ take n (drop a ys)
window zero n ys zs le = front n ys zs (omega (arith, le))
window (suc a) n [] zs le = absurd (omega (arith, le))
window (suc a) n (y ∷ ys) zs le = window a n ys zs (omega (arith, le))

-- some rows of a piece are rows of the whole that goes on with the piece
pub rows_of_piece : {X : Type 0} (to a n : ℕ) (xs ys zs : List X) → drop to xs ≡ ys ++ zs → a + n ≤ length ys → slice_range xs (a + to) ((a + to) + n) ≡ slice_range ys a (a + n)
rows_of_piece to a n xs ys zs is le =
    let long : ((a + to) + n) - (a + to) ≡ n = omega arith in
    let short : (a + n) - a ≡ n = omega arith in
    let turned : a + to ≡ to + a = omega arith in
    ap (λ k. take k (drop (a + to) xs)) long
    ∙ (ap (take n) (ap (λ k. drop k xs) turned ∙ sym (drop-drop a to xs)) ∙ (ap (λ l. take n (drop a l)) is ∙ (window a n ys zs le ∙ ap (λ k. take k (drop a ys)) (sym short))))

-- and of the base from which it was sliced
pub rows_of_base : {X : Type 0} (b e a n : ℕ) (xs : List X) → e ≤ length xs → b ≤ e → a + n ≤ e - b → slice_range (slice_range xs b e) a (a + n) ≡ slice_range xs (a + b) ((a + b) + n)
rows_of_base b e a n xs within ordered le =
    let size : length (take (e - b) (drop b xs)) ≡ e - b = length_slice b e xs within in
    sym (rows_of_piece b a n xs (take (e - b) (drop b xs)) (drop (e - b) (drop b xs)) (sym (take-append-drop (e - b) (drop b xs))) (omega (arith, size, le)))

-- a part with the same rows and columns is cut alike
pub cut_alike : (f g : Frame) (p q : Part) → f.schema ≡ g.schema → p.first_col ≡ q.first_col → p.cols ≡ q.cols → slice_range f.rows p.first_row (p.first_row + p.rows) ≡ slice_range g.rows q.first_row (q.first_row + q.rows) → cut f p ≡ cut g q
cut_alike f g p q schema col cols rows =
    λ i. record {
      schema = record (schema i) { columns = slice_range (schema i).columns (col i) (col i + cols i) };
      rows = map (λ (r : Row). record r { cells = slice_range r.cells (col i) (col i + cols i) }) (rows i);
    }

-- ---- whole indexes are runs

-- the row at which slots that lead on end
pub lead_end : (columns rows : ℕ) (s : Slot) (more : List Slot) → LeadOn rows columns s more → end_of (s ∷ more) ≡ rows
lead_end columns rows s [] l = l.0
lead_end columns rows s (t ∷ more) l = lead_end columns rows t more l.1

-- slots that cover a stretch are a run
pub cover_is_run : (from rows columns : ℕ) (slots : List Slot) → CoverFrom from rows columns slots → IsRun columns slots
cover_is_run from rows columns [] c = tt
cover_is_run from rows columns (s ∷ more) c = (c.1, subst (λ n. LeadOn n columns s more) (sym (lead_end columns rows s more c.2)) c.2)

-- slots that are split where a row block begins are two runs
pub lead_split : (columns rows : ℕ) (s : Slot) (more : List Slot) (t : Slot) (rest : List Slot) → AllByRecursion (λ (x : Slot). 1 ≤ columns → 1 ≤ x.part.cols) (s ∷ more) → t.part.first_col ≡ 0 → LeadOn rows columns s (more ++ t ∷ rest)
    → LeadOn t.part.first_row columns s more × LeadOn rows columns t rest
lead_split columns rows s [] t rest some col l = elim l.0 [
  | inl b ↦ let wide = some.0 (omega (arith, b.left)) in absurd (omega (arith, b.first_col, col, wide))
  | inr b ↦ ((sym b.first_row, b.whole), l.1)
]
lead_split columns rows s (u ∷ more) t rest some col l = let r = lead_split columns rows u more t rest some.1 col l.1 in ((l.0, r.0), r.1)
