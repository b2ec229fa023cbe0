-- A frame in stretches: the slots of each are those of a source, moved to where the stretch begins in the frame.
use Rattle.std.proofs.Common.{◌≡◌, ℕ, ◌+◌, ◌-◌, ◌≤◌, List, [], ◌∷◌, ◌++◌, length, drop, Option, Some, None, Ok, sym, ap, ◌∙◌, subst, arith}
use Rattle.std.specs.Prelude.{slice_range}
use Rattle.std.specs.List.{AllByRecursion, AllZip}
use Rattle.frame_core.specs.Frames.{Row, Frame, IsFrame, first_stamp, last_stamp}
use Rattle.segment_bytes.specs.Segments.{segment_of}
use Rattle.segment_cut.specs.Tiles.{cut}
use Rattle.index_tree.specs.declared.index.Slot.{Slot}
use Rattle.index_tree.specs.IndexRules.{IsSlot}
use Rattle.key_kind.specs.declared.key.Key.{Key}
use Rattle.key_kind.specs.Keys.{IsKey, FitsFields}
use Rattle.bucket_core.specs.History.{Bytes}
use Rattle.store_model.specs.Commits.{HasSlotStamps}
use Rattle.frame_write.specs.Laying.{Laid, slots_laid}
use Rattle.frame_write.proofs.ListLemmas.{map_append}
use Rattle.frame_write.proofs.RowStamps.{length_slice}
use Rattle.frame_write.proofs.Runs.{IsMoved, CoverFrom, moved_lead, lead_between, cover_join, rows_of_piece, rows_of_base, cut_alike}

-- ---- a slot in its new place

-- a moved slot keeps the rules of an index
pub moved_rule : (columns from to : ℕ) (s t : Slot) → IsMoved from to s t → IsSlot columns s → IsSlot columns t
moved_rule columns from to s t m r = record {
  is_tile = ap (λ (k : Key). k.kind) m.key ∙ r.is_tile;
  key = subst IsKey (sym m.key) r.key;
  fields = subst FitsFields (sym m.key) r.fields;
  first = ap (λ (k : Key). k.first) m.key ∙ (r.first ∙ sym m.first);
  last = ap (λ (k : Key). k.last) m.key ∙ (r.last ∙ sym m.last);
  ordered = rw (m.first, m.last) r.ordered;
  some_rows = omega (arith, r.some_rows, m.rows);
  most_rows = omega (arith, r.most_rows, m.rows);
  some_cols = λ some. omega (arith, r.some_cols some, m.cols);
  most_cols = omega (arith, r.most_cols, m.cols);
  within = omega (arith, r.within, m.first_col, m.cols);
}

-- slots that cover some rows cover as many where they were moved to
pub moved_cover : (columns from end to : ℕ) (sources targets : List Slot) → from ≤ end → AllZip (IsMoved from to) sources targets → CoverFrom from end columns sources → CoverFrom to (to + (end - from)) columns targets
moved_cover columns from end to [] [] le z c = omega (arith, c)
moved_cover columns from end to [] (t ∷ ts) le z c = absurd z
moved_cover columns from end to (s ∷ ss) [] le z c = absurd z
moved_cover columns from end to (s ∷ ss) (t ∷ ts) le z c = (
  omega (arith, z.0.first_row, c.0),
  z.0.first_col ∙ c.1,
  moved_lead columns from to end (to + (end - from)) s t ss ts (omega (arith, le)) z.0 z.1 c.2,
)

-- the rows of the frame from the row `to` on are those of the source from `from` up to `end`, and others behind them
module _ (f g : Frame) (schema : f.schema ≡ g.schema) (from end to : ℕ) (ordered : from ≤ end) (within : end ≤ length g.rows) (rest : List Row) (rows_are : drop to f.rows ≡ slice_range g.rows from end ++ rest) where
  same_rows : (s t : Slot) → IsMoved from to s t → from ≤ s.part.first_row → s.part.first_row + s.part.rows ≤ end
      → slice_range f.rows t.part.first_row (t.part.first_row + t.part.rows) ≡ slice_range g.rows s.part.first_row (s.part.first_row + s.part.rows)
  same_rows s t m low high =
      let a : ℕ = s.part.first_row - from in
      let n : ℕ = s.part.rows in
      let size = length_slice from end g.rows within in
      let one : slice_range f.rows (a + to) ((a + to) + n) ≡ slice_range (slice_range g.rows from end) a (a + n) = rows_of_piece to a n f.rows (slice_range g.rows from end) rest rows_are (omega (arith, size, low, high)) in
      let two : slice_range (slice_range g.rows from end) a (a + n) ≡ slice_range g.rows (a + from) ((a + from) + n) = rows_of_base from end a n g.rows within ordered (omega (arith, low, high)) in
      let start : t.part.first_row ≡ a + to = omega (arith, m.first_row, low) in
      let back : a + from ≡ s.part.first_row = omega (arith, low) in
      (λ i. slice_range f.rows (start i) (start i + m.rows i)) ∙ (one ∙ (two ∙ ap (λ k. slice_range g.rows k (k + n)) back))

  -- so it has the stamps of its rows in the frame, and its tile is that part of the frame
  pub moved_stamps : (s t : Slot) → IsMoved from to s t → from ≤ s.part.first_row → s.part.first_row + s.part.rows ≤ end → HasSlotStamps g s → HasSlotStamps f t
  moved_stamps s t m low high h = record {
    first = ap first_stamp (same_rows s t m low high) ∙ (h.first ∙ ap Some (sym m.first));
    last = ap last_stamp (same_rows s t m low high) ∙ (h.last ∙ ap Some (sym m.last));
  }

  -- a moved slot cuts the same rows out of the new frame
  pub moved_cut : (s t : Slot) → IsMoved from to s t → from ≤ s.part.first_row → s.part.first_row + s.part.rows ≤ end → cut f t.part ≡ cut g s.part
  moved_cut s t m low high = cut_alike f g t.part s.part schema m.first_col m.cols (same_rows s t m low high)

-- ---- stretches

-- the frame is shared under the key; or the body spells it
abbrev pub Holds : (Frame → Key → Type 0) → Frame → Key → Option Bytes → Type 0
Holds Shares frame key None = Shares frame key
Holds Shares frame key (Some body) = segment_of body ≡ Ok frame

-- a slot of the source in its new place, whose tile is the source's
pub record IsPlaced (Shares : Frame → Key → Type 0) (g : Frame) (from to : ℕ) (s : Slot) (x : Laid) : Type 0 where
  pub moved : IsMoved from to s x.0
  pub holds : Holds Shares (cut g s.part) x.0.key x.1

-- slots that are those of a source, from one row of it up to another, whose rows are the frame's from the row `to` on
pub record IsStretch (Shares : Frame → Key → Type 0) (f : Frame) (to size : ℕ) (xs : List Laid) : Type 0 where
  pub source : Frame
  pub from : ℕ
  pub end : ℕ
  pub rest : List Row
  pub slots : List Slot
  pub schema : f.schema ≡ source.schema
  pub ordered : from ≤ end
  pub within : end ≤ length source.rows
  pub size_is : size ≡ end - from
  pub rows_are : drop to f.rows ≡ slice_range source.rows from end ++ rest
  pub cover : CoverFrom from end (length f.schema.columns) slots
  pub rules : AllByRecursion (IsSlot (length f.schema.columns)) slots
  pub stamps : AllByRecursion (HasSlotStamps source) slots
  pub placed : AllZip (IsPlaced Shares source from to) slots xs

-- a slot of the frame, which keeps the rules of an index, with its stamps and its tile
pub record IsLaidSlot (Shares : Frame → Key → Type 0) (f : Frame) (x : Laid) : Type 0 where
  pub rule : IsSlot (length f.schema.columns) x.0
  pub stamps : HasSlotStamps f x.0
  pub holds : Holds Shares (cut f x.0.part) x.0.key x.1

-- the slots lie between the ends
abbrev pub AreBetween : ℕ → ℕ → List Slot → Type 0
AreBetween from end slots = AllByRecursion (λ (s : Slot). (from ≤ s.part.first_row) × (s.part.first_row + s.part.rows ≤ end)) slots

-- slots that cover a stretch lie between its ends
pub cover_between : (from end columns : ℕ) (slots : List Slot) → CoverFrom from end columns slots → AreBetween from end slots
cover_between from end columns [] c = tt
cover_between from end columns (s ∷ more) c = subst (λ n. AreBetween n end (s ∷ more)) c.0 (lead_between columns end s more c.2)

zip_moved : (Shares : Frame → Key → Type 0) (g : Frame) (from to : ℕ) (slots : List Slot) (xs : List Laid) → AllZip (IsPlaced Shares g from to) slots xs → AllZip (IsMoved from to) slots (slots_laid xs)
zip_moved Shares g from to [] [] z = tt
zip_moved Shares g from to [] (x ∷ xs) z = absurd z
zip_moved Shares g from to (s ∷ slots) [] z = absurd z
zip_moved Shares g from to (s ∷ slots) (x ∷ xs) z = (z.0.moved, zip_moved Shares g from to slots xs z.1)

-- the slots of a stretch cover it
pub stretch_cover : (Shares : Frame → Key → Type 0) (f : Frame) (to size : ℕ) (xs : List Laid) (r : IsStretch Shares f to size xs) → CoverFrom to (to + size) (length f.schema.columns) (slots_laid xs)
stretch_cover Shares f to size xs r =
    subst (λ n. CoverFrom to (to + n) (length f.schema.columns) (slots_laid xs)) (sym r.size_is)
    (moved_cover (length f.schema.columns) r.from r.end to r.slots (slots_laid xs) r.ordered (zip_moved Shares r.source r.from to r.slots xs r.placed) r.cover)

-- each slot of a stretch keeps its rules in the new frame
pub stretch_slots : (Shares : Frame → Key → Type 0) (f : Frame) (to size : ℕ) (xs : List Laid) (r : IsStretch Shares f to size xs) → AllByRecursion (IsLaidSlot Shares f) xs
stretch_slots Shares f to size xs r = each r.slots xs r.rules r.stamps (cover_between r.from r.end (length f.schema.columns) r.slots r.cover) r.placed
  where
    each : (slots : List Slot) (ys : List Laid) → AllByRecursion (IsSlot (length f.schema.columns)) slots → AllByRecursion (HasSlotStamps r.source) slots → AreBetween r.from r.end slots → AllZip (IsPlaced Shares r.source r.from to) slots ys
        → AllByRecursion (IsLaidSlot Shares f) ys
    each [] [] rules stamps between z = tt
    each [] (y ∷ ys) rules stamps between z = absurd z
    each (s ∷ slots) [] rules stamps between z = absurd z
    each (s ∷ slots) (y ∷ ys) rules stamps between z = (
      record {
        rule = moved_rule (length f.schema.columns) r.from to s y.0 z.0.moved rules.0;
        stamps = moved_stamps f r.source r.schema r.from r.end to r.ordered r.within r.rest r.rows_are s y.0 z.0.moved between.0.0 between.0.1 stamps.0;
        holds = subst (λ c. Holds Shares c y.0.key y.1) (sym (moved_cut f r.source r.schema r.from r.end to r.ordered r.within r.rest r.rows_are s y.0 z.0.moved between.0.0 between.0.1)) z.0.holds;
      },
      each slots ys rules.1 stamps.1 between.1 z.1,
    )

-- ---- the whole frame

-- the frame's rows from the row `to` on, in stretches
pub data AreStretches (Shares : Frame → Key → Type 0) (f : Frame) : ℕ → List Laid → Type 0 where
  no_stretch : {to : ℕ} → to ≡ length f.rows → AreStretches Shares f to []
  stretch : {to : ℕ} (size : ℕ) {xs rest : List Laid} → IsStretch Shares f to size xs → AreStretches Shares f (to + size) rest → AreStretches Shares f to (xs ++ rest)

stamps_laid : (Shares : Frame → Key → Type 0) (f : Frame) (xs : List Laid) → AllByRecursion (IsLaidSlot Shares f) xs → AllByRecursion (HasSlotStamps f) (slots_laid xs)
stamps_laid Shares f [] all = tt
stamps_laid Shares f (x ∷ xs) all = (all.0.stamps, stamps_laid Shares f xs all.1)

all_append : {X : Type 0} (P : X → Type 0) (xs ys : List X) → AllByRecursion P xs → AllByRecursion P ys → AllByRecursion P (xs ++ ys)
all_append P [] ys a b = b
all_append P (x ∷ xs) ys a b = (a.0, all_append P xs ys a.1 b)

-- each slot is one of the frame
pub stretches_slots : (Shares : Frame → Key → Type 0) (f : Frame) (to : ℕ) (xs : List Laid) → AreStretches Shares f to xs → AllByRecursion (IsLaidSlot Shares f) xs
stretches_slots Shares f to _ (no_stretch ends) = tt
stretches_slots Shares f to _ (stretch size {xs} {rest} r more) = all_append (IsLaidSlot Shares f) xs rest (stretch_slots Shares f to size xs r) (stretches_slots Shares f (to + size) rest more)

-- and all of them cover it
pub stretches_cover : (Shares : Frame → Key → Type 0) (f : Frame) → IsFrame f → (to : ℕ) (xs : List Laid) → AreStretches Shares f to xs → CoverFrom to (length f.rows) (length f.schema.columns) (slots_laid xs)
stretches_cover Shares f is to _ (no_stretch ends) = ends
stretches_cover Shares f is to _ (stretch size {xs} {rest} r more) =
    subst (CoverFrom to (length f.rows) (length f.schema.columns)) (sym (map_append (λ (x : Laid). x.0) xs rest))
    (cover_join f is (length f.schema.columns) to (to + size) (length f.rows) (slots_laid xs) (slots_laid rest) (stretch_cover Shares f to size xs r) (stretches_cover Shares f is (to + size) rest more)
    (stamps_laid Shares f xs (stretch_slots Shares f to size xs r)) (stamps_laid Shares f rest (stretches_slots Shares f (to + size) rest more)))
