-- Slots that cover a frame in order tile it.
use Rattle.std.proofs.Common.{◌≡◌, ℕ, ◌+◌, ◌<◌, ◌≤◌, Bool, true, false, ◌&&◌, ◌||◌, List, [], ◌∷◌, length, map, refl, sym, ap, ◌∙◌, cond, inl, inr, arith}
use Rattle.std.specs.Prelude.{count_by, nat_le, nat_lt}
use Rattle.std.specs.List.{AllByRecursion}
use Rattle.std.proofs.lemmas.Bool.Decides.{nat_tests}
use Rattle.frame_core.specs.declared.part.Part.{Part}
use Rattle.frame_core.specs.Frames.{Frame}
use Rattle.segment_cut.specs.Tiles.{Tile, Tiled, LiesIn, cut, has_row, has_cell}
use Rattle.segment_cut.proofs.Lists.{count_by-cons}
use Rattle.index_tree.specs.declared.index.Slot.{Slot}
use Rattle.index_tree.specs.IndexRules.{IsSlot, LeadOn, Cover}

-- the cell stands behind the part: in a later row, or in one of its rows and a later column
abbrev behind : Part → ℕ → ℕ → Bool
behind p row column = nat_le (p.first_row + p.rows) row || (has_row p row && nat_le (p.first_col + p.cols) column)

-- one cell of a part that goes on with the same rows
next_slice : (p q : Part) (row column : ℕ) → q.first_row ≡ p.first_row → q.rows ≡ p.rows → q.first_col ≡ p.first_col + p.cols
    → cond (has_cell q row column) 1 0 + cond (behind q row column) 1 0 ≡ cond (behind p row column) 1 0
next_slice p q row column first rows col = grind (arith, nat_tests, first, rows, col)

-- and of one that begins the next rows
next_rows : (p q : Part) (row column columns : ℕ) → column < columns → q.first_row ≡ p.first_row + p.rows → q.first_col ≡ 0 → p.first_col + p.cols ≡ columns
    → cond (has_cell q row column) 1 0 + cond (behind q row column) 1 0 ≡ cond (behind p row column) 1 0
next_rows p q row column columns lt first col whole = grind (arith, nat_tests, lt, first, col, whole)

last_none : (p : Part) (row column rows columns : ℕ) → row < rows → column < columns → p.first_row + p.rows ≡ rows → p.first_col + p.cols ≡ columns → ◌≡◌ {A = ℕ} (cond (behind p row column) 1 0) 0
last_none p row column rows columns row_lt lt ends whole = grind (arith, nat_tests, row_lt, lt, ends, whole)

first_all : (p : Part) (row column : ℕ) → p.first_row ≡ 0 → p.first_col ≡ 0 → cond (has_cell p row column) 1 0 + cond (behind p row column) 1 0 ≡ 1
first_all p row column first col = grind (arith, nat_tests, first, col)

has_some_row : (p : Part) (row : ℕ) → p.first_row ≤ row → row < p.first_row + p.rows → has_row p row ≡ true
has_some_row p row low high = grind (arith, nat_tests, low, high)

module _ (frame : Frame) where
  -- the tile of a slot
  abbrev tile_of : Slot → Tile
  tile_of s = (s.part, cut frame s.part)

  module _ (rows columns : ℕ) where
    ends_within : (s : Slot) (more : List Slot) → LeadOn rows columns s more → AllByRecursion (λ (t : Slot). t.part.first_row + t.part.rows ≤ rows) (s ∷ more)
    ends_within s [] l = (omega (arith, l.0), tt)
    ends_within s (t ∷ more) l =
        let rest = ends_within t more l.1 in
        elim l.0 [
          | inl b ↦ (omega (arith, b.first_row, b.rows, rest.0), rest)
          | inr b ↦ (omega (arith, b.first_row, rest.0), rest)
        ]

    -- each cell behind a slot is in one of those that follow
    cells_behind : (s : Slot) (more : List Slot) (row column : ℕ) → row < rows → column < columns → LeadOn rows columns s more
        → count_by (λ (t : Tile). has_cell t.0 row column) (map tile_of more) ≡ cond (behind s.part row column) 1 0
    cells_behind s [] row column row_lt lt l = sym (last_none s.part row column rows columns row_lt lt l.0 l.1)
    cells_behind s (t ∷ more) row column row_lt lt l =
        let step = count_by-cons (λ (x : Tile). has_cell x.0 row column) (tile_of t) (map tile_of more) in
        let rest = cells_behind t more row column row_lt lt l.1 in
        let both : count_by (λ (x : Tile). has_cell x.0 row column) (map tile_of (t ∷ more)) ≡ cond (has_cell t.part row column) 1 0 + cond (behind t.part row column) 1 0 =
        step ∙ ap (λ n. cond (has_cell t.part row column) 1 0 + n) rest in
        elim l.0 [
          | inl b ↦ both ∙ next_slice s.part t.part row column b.first_row b.rows b.first_col
          | inr b ↦ both ∙ next_rows s.part t.part row column columns lt b.first_row b.first_col b.whole
        ]

    -- a slot has the row, or one that follows it
    row_in : (s : Slot) (more : List Slot) (row : ℕ) → s.part.first_row ≤ row → (s.part.first_row + s.part.rows ≤ row → 1 ≤ count_by (λ (t : Tile). has_row t.0 row) (map tile_of more))
        → 1 ≤ count_by (λ (t : Tile). has_row t.0 row) (map tile_of (s ∷ more))
    row_in s more row low later =
        let step = count_by-cons (λ (x : Tile). has_row x.0 row) (tile_of s) (map tile_of more) in
        elim (nat_lt row (s.part.first_row + s.part.rows)) as (λ b. nat_lt row (s.part.first_row + s.part.rows) ≡ b → 1 ≤ count_by (λ (t : Tile). has_row t.0 row) (map tile_of (s ∷ more))) [
          | true ↦ λ e.
              let here : has_row s.part row ≡ true = has_some_row s.part row low (grind (arith, nat_tests, e)) in
              let one : count_by (λ (t : Tile). has_row t.0 row) (map tile_of (s ∷ more)) ≡ 1 + count_by (λ (t : Tile). has_row t.0 row) (map tile_of more) = step ∙ ap (λ b. cond b 1 0 + count_by (λ (t : Tile). has_row t.0 row) (map tile_of more)) here in
              omega (arith, one)
          | false ↦ λ e.
              let beyond : s.part.first_row + s.part.rows ≤ row = grind (arith, nat_tests, e) in
              let rest = later beyond in
              omega (arith, step, rest)
        ] refl

    -- each row from a slot on is in one of them
    rows_from : (s : Slot) (more : List Slot) (row : ℕ) → s.part.first_row ≤ row → row < rows → LeadOn rows columns s more → 1 ≤ count_by (λ (t : Tile). has_row t.0 row) (map tile_of (s ∷ more))
    rows_from s [] row low high l = row_in s [] row low (λ beyond. absurd (omega (arith, beyond, l.0, high)))
    rows_from s (t ∷ more) row low high l = row_in s (t ∷ more) row low (λ beyond. elim l.0 [
      | inl b ↦ rows_from t more row (omega (arith, b.first_row, low)) high l.1
      | inr b ↦ rows_from t more row (omega (arith, b.first_row, beyond)) high l.1
    ])

  inside : (slots : List Slot) → AllByRecursion (IsSlot (length frame.schema.columns)) slots → AllByRecursion (λ (t : Slot). t.part.first_row + t.part.rows ≤ length frame.rows) slots
      → AllByRecursion (λ (t : Tile). LiesIn frame t.0) (map tile_of slots)
  inside [] each ends = tt
  inside (s ∷ slots) each ends = ((ends.0, each.0.within), inside slots each.1 ends.1)

  are_cut : (slots : List Slot) → AllByRecursion (λ (t : Tile). t.1 ≡ cut frame t.0) (map tile_of slots)
  are_cut [] = tt
  are_cut (s ∷ slots) = (refl, are_cut slots)

  -- the parts of slots that cover a frame tile it
  pub cover_tiled : (slots : List Slot) → AllByRecursion (IsSlot (length frame.schema.columns)) slots → Cover (length frame.rows) (length frame.schema.columns) slots → Tiled frame (map tile_of slots)
  cover_tiled [] each none = record {
    inside = tt;
    parts = tt;
    cells = λ row column row_lt lt. absurd (omega (arith, none, row_lt));
    rows = λ row row_lt. absurd (omega (arith, none, row_lt));
  }
  cover_tiled (s ∷ more) each cover = record {
    inside = inside (s ∷ more) each (ends_within (length frame.rows) (length frame.schema.columns) s more cover.2);
    parts = are_cut (s ∷ more);
    cells = λ row column row_lt lt.
        count_by-cons (λ (x : Tile). has_cell x.0 row column) (tile_of s) (map tile_of more)
        ∙ (ap (λ n. cond (has_cell s.part row column) 1 0 + n) (cells_behind (length frame.rows) (length frame.schema.columns) s more row column row_lt lt cover.2)
        ∙ first_all s.part row column cover.0 cover.1);
    rows = λ row row_lt. rows_from (length frame.rows) (length frame.schema.columns) s more row (omega (arith, cover.0)) row_lt cover.2;
  }
