-- The tiles of a run of the base's slots have all rows and cells of the run.
use Rattle.std.proofs.Common.{◌≡◌, ℕ, zero, suc, ◌+◌, ◌-◌, ◌<◌, ◌≤◌, ℤ, Bool, true, ◌&&◌, List, [], ◌∷◌, ◌++◌, length, map, drop, refl, sym, ap, ◌∙◌, subst, arith, inl, inr, Some, None, Ok, length-take}
use Rattle.std.specs.Prelude.{Contains, slice_range, slice_get, option_map, nat_le, nat_lt}
use Rattle.std.specs.List.{AllByRecursion, AllZip, list_any}
use Rattle.std.proofs.lemmas.Bool.{true≢false, and_parts, leb-true, ltb-true, or_cases, or_left, or_right}
use Rattle.frame_core.specs.declared.part.Part.{Part}
use Rattle.frame_core.specs.Ranges.{Range}
use Rattle.frame_core.specs.Schemas.{Schema, Head}
use Rattle.frame_core.specs.Frames.{Row, Frame, slice}
use Rattle.segment_cut.specs.Tiles.{has_row, has_cell}
use Rattle.index_tree.specs.declared.index.Slot.{Slot}
use Rattle.index_tree.specs.declared.index.Index.{Index}
use Rattle.key_kind.specs.Names.{Name}
use Rattle.bucket_core.specs.History.{History}
use Rattle.store_model.specs.Library.{Version}
use Rattle.store_model.specs.Law.{IsLawful}
use Rattle.frame_read.specs.declared.tiles.FetchedTile.{FetchedTile}
use Rattle.frame_read.specs.TileSets.{IsGot}
use Rattle.frame_read.specs.Wholes.{HoldsPart, AreTilesOf}
use Rattle.frame_write.specs.Pieces.{begin_of, end_of, IsRun}
use Rattle.append_update.specs.Newest.{IsNewest}
use Rattle.append_update.proofs.CoverLemmas.{row_in, cell_in, run_has_row, run_has_cell}
use Rattle.append_update.specs.Blocks.{from_place, moved_tile}
use Rattle.append_update.proofs.BlockLemmas.{LiesBetween, cut_slice, run_lies}
use Rattle.append_update.proofs.GotLemmas.{got_holds}

-- ---- what a part has is counted from the place on

row_moved : (begin : ℕ) (part : Part) (row : ℕ) → begin ≤ part.first_row → has_row part (begin + row) ≡ true → has_row (from_place begin part) row ≡ true
row_moved begin part row low e =
    let parts = and_parts (nat_le part.first_row (begin + row)) (nat_lt (begin + row) (part.first_row + part.rows)) e in
    let first = leb-true part.first_row (begin + row) parts.0 in
    let last = ltb-true (begin + row) (part.first_row + part.rows) parts.1 in
    row_in (from_place begin part) row (omega (arith, first, low)) (omega (arith, last, low))

cell_moved : (begin : ℕ) (part : Part) (row column : ℕ) → begin ≤ part.first_row → has_cell part (begin + row) column ≡ true → has_cell (from_place begin part) row column ≡ true
cell_moved begin part row column low e =
    let outer = and_parts (has_row part (begin + row) && nat_le part.first_col column) (nat_lt column (part.first_col + part.cols)) e in
    let inner = and_parts (has_row part (begin + row)) (nat_le part.first_col column) outer.0 in
    let parts = and_parts (nat_le part.first_row (begin + row)) (nat_lt (begin + row) (part.first_row + part.rows)) inner.0 in
    let first = leb-true part.first_row (begin + row) parts.0 in
    let last = ltb-true (begin + row) (part.first_row + part.rows) parts.1 in
    cell_in (from_place begin part) row column (omega (arith, first, low)) (omega (arith, last, low)) (leb-true part.first_col column inner.1) (ltb-true column (part.first_col + part.cols) outer.1)

any_moved : (h : History) (begin end : ℕ) (p q : Part → Bool) → ((part : Part) → begin ≤ part.first_row → p part ≡ true → q (from_place begin part) ≡ true) → (run : List Slot) (tiles : List FetchedTile) → AllZip (IsGot h) run tiles
    → AllByRecursion (LiesBetween begin end) run → list_any (λ (s : Slot). p s.part) run ≡ true → list_any (λ (t : FetchedTile). q t.part) (map (moved_tile begin) tiles) ≡ true
any_moved h begin end p q goes [] tiles got lies e = absurd (true≢false (sym e))
any_moved h begin end p q goes (s ∷ run) [] got lies e = absurd got
any_moved h begin end p q goes (s ∷ run) (t ∷ tiles) got lies e =
    let rest = list_any (λ (x : FetchedTile). q x.part) (map (moved_tile begin) tiles) in
    elim (or_cases (p s.part) (list_any (λ (x : Slot). p x.part) run) e) [
      | inl here ↦ or_left (q (from_place begin t.part)) rest (subst (λ part. q (from_place begin part) ≡ true) (sym got.0.part) (goes s.part lies.0.0 here))
      | inr later ↦ or_right (q (from_place begin t.part)) rest (any_moved h begin end p q goes run tiles got.1 lies.1 later)
    ]

-- ---- places of rows

row_below : (rows : List Row) (k : ℕ) (t : ℤ) → option_map (λ (r : Row). r.stamp) (slice_get rows k) ≡ Some t → k < length rows
row_below [] k t e = absurd cc
row_below (r ∷ rows) zero t e = omega arith
row_below (r ∷ rows) (suc k) t e = let rest : k < length rows = row_below rows k t e in omega (arith, rest)

head_below : (heads : List Head) (k : ℕ) (h : Head) → slice_get heads k ≡ Some h → k < length heads
head_below [] k h e = absurd cc
head_below (x ∷ heads) zero h e = omega arith
head_below (x ∷ heads) (suc k) h e = let rest : k < length heads = head_below heads k h e in omega (arith, rest)

-- ---- the whole

module _ (h more new : History) (symbol : Name) (v : Version) (index : Index) (n : IsNewest h symbol v index) (is : new ≡ more ++ h) (lawful : ∥ IsLawful new ∥₁) where
  holds_all : (begin end : ℕ) (run : List Slot) (tiles : List FetchedTile) → AllByRecursion (λ s. Contains index.slots s) run → AllByRecursion (LiesBetween begin end) run → AllZip (IsGot new) run tiles
      → AllByRecursion (HoldsPart (slice v.frame begin end)) (map (moved_tile begin) tiles)
  holds_all begin end [] [] there lies got = tt
  holds_all begin end [] (t ∷ tiles) there lies got = absurd got
  holds_all begin end (s ∷ run) [] there lies got = absurd got
  holds_all begin end (s ∷ run) (t ∷ tiles) there lies got =
      let whole = got_holds h more new symbol v index s t n is lawful there.0 got.0 in
      let low : begin ≤ t.part.first_row = subst (λ (part : Part). begin ≤ part.first_row) (sym got.0.part) lies.0.0 in
      let high : t.part.first_row + t.part.rows ≤ end = subst (λ (part : Part). part.first_row + part.rows ≤ end) (sym got.0.part) lies.0.1 in
      (whole ∙ ap (λ (f : Frame). Ok f) (sym (cut_slice v.frame t.part begin end low high)), holds_all begin end run tiles there.1 lies.1 got.1)

  -- the tiles of a run, with their rows counted from its first, are those of the run's rows
  pub run_tiles : (range : Range) (run : List Slot) (tiles : List FetchedTile) → AllByRecursion (λ s. Contains index.slots s) run → IsRun (length v.frame.schema.columns) run → AllZip (IsGot new) run tiles
      → AreTilesOf (slice v.frame (begin_of run) (end_of run)) range None (record { schema = index.schema; range = range; tiles = map (moved_tile (begin_of run)) tiles })
  run_tiles range run tiles there runs got =
      let begin = begin_of run in
      let end = end_of run in
      let lies = run_lies (length v.frame.schema.columns) run runs in
      let inside = λ (row : ℕ) (t : ℤ) (e : option_map (λ (r : Row). r.stamp) (slice_get (slice_range v.frame.rows begin end) row) ≡ Some t).
      let low : row < length (slice_range v.frame.rows begin end) = row_below (slice_range v.frame.rows begin end) row t e in
      let size : length (slice_range v.frame.rows begin end) ≤ end - begin = omega (arith, length-take (end - begin) (drop begin v.frame.rows)) in
      let high : begin + row < end = omega (arith, low, size) in
      high in
      record {
        range_is = refl;
        schema = ap (λ (s : Schema). Ok s) (sym n.index_of.schema);
        parts = holds_all begin end run tiles there lies got;
        rows = λ row t e within. any_moved new begin end (λ part. has_row part (begin + row)) (λ part. has_row part row) (λ part low has. row_moved begin part row low has) run tiles got lies
            (run_has_row (length v.frame.schema.columns) run runs (begin + row) (omega arith) (inside row t e));
        cells = λ row column t head e within here asked. any_moved new begin end (λ part. has_cell part (begin + row) column) (λ part. has_cell part row column) (λ part low has. cell_moved begin part row column low has) run tiles got lies
            (run_has_cell (length v.frame.schema.columns) run runs (begin + row) column (omega arith) (inside row t e) (head_below v.frame.schema.columns column head here));
      }
