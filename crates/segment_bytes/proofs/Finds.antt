-- Columns that are found again by their place.
use Rattle.std.proofs.Common.{◌≡◌, ℕ, ◌+◌, ◌<◌, ◌≤◌, List, [], ◌++◌, drop, Some, Ok, Err, refl, sym, ap, subst, ◌∙◌, arith}
use Rattle.std.specs.Prelude.{IsUtf8, slice_get}
use Rattle.std.specs.List.{flat_map}
use Rattle.byte_fields.proofs.Steps.{ok_is}
use Rattle.frame_core.specs.declared.cell.ColType.{ColType}
use Rattle.frame_core.specs.Texts.{Text}
use Rattle.frame_core.proofs.Rows.{drop_at_place}
use Rattle.segment_bytes.specs.declared.columns.ColumnBytes.{ColumnBytes}
use Rattle.segment_bytes.specs.CellTexts.{cells_text}
use Rattle.segment_bytes.specs.Sheets.{Series, series_text}
use Rattle.segment_bytes.specs.Skipping.{skip_at}
use Rattle.segment_bytes.specs.Kept.{IsStored}
use Rattle.segment_bytes.specs.Lying.{Spells, SpellsAll, LiesAs}
use Rattle.segment_bytes.specs.Views.{cells_in, IsColumnView}
use Rattle.segment_bytes.proofs.Walks.{all_at, next_found, skipped}
use Rattle.segment_bytes.proofs.Getters.{column_viewed}

pub found_next : (rows place i : ℕ) (bytes rest : List ℕ) (all : List Series) (kind : ColType) (name cells after : List ℕ) → Spells rows place bytes all → i ≤ place → rest ≡ flat_map series_text (drop i all) ++ [] → skip_at rows rest ≡ Ok ((kind, name, cells), after) → after ≡ flat_map series_text (drop (i + 1) all) ++ []
found_next rows place i bytes rest all kind name cells after s le text read =
    let n = next_found rows all i [] rest s.each (omega (arith, s.within)) text in
    (skipped rows rest (kind, name, cells) (n.column.0.1, n.column.0.0, cells_text n.column.0.1 n.column.1) after (flat_map series_text (drop (i + 1) all) ++ []) read n.read).1

pub found_fails : (rows place i : ℕ) (bytes rest : List ℕ) (all : List Series) (left : ℕ) → Spells rows place bytes all → i ≤ place → rest ≡ flat_map series_text (drop i all) ++ [] → skip_at rows rest ≡ Err left → ⊥
found_fails rows place i bytes rest all left s le text read = let n = next_found rows all i [] rest s.each (omega (arith, s.within)) text in let k = n.read in absurd cc

-- what a column that was passed tells
abbrev told : ColumnBytes → ColType × Text × List ℕ
told found = (found.kind, found.name.now, found.cells.now)

pub found_here : (rows place i : ℕ) (bytes rest : List ℕ) (all : List Series) (column : Series) (found : ColumnBytes) (after : List ℕ) → Spells rows place bytes all → i ≡ place → slice_get all place ≡ Some column → rest ≡ flat_map series_text (drop i all) ++ [] → skip_at rows rest ≡ Ok (told found, after) → LiesAs column found
found_here rows place i bytes rest all column found after s same e text read =
    let n = next_found rows all i [] rest s.each (omega (arith, s.within)) text in
    let is : n.column ≡ column = some_is n.column column (sym n.is ∙ ap (slice_get all) same ∙ e) in
    let parts = ok_is (told found, after) ((n.column.0.1, n.column.0.0, cells_text n.column.0.1 n.column.1), flat_map series_text (drop (i + 1) all) ++ []) (sym read ∙ n.read) in
    subst (λ (c : Series). LiesAs c found) is (record {
      kind = ap (λ (p : (ColType × Text × List ℕ) × List ℕ). p.0.0) parts;
      name = ap (λ (p : (ColType × Text × List ℕ) × List ℕ). p.0.1) parts;
      cells = ap (λ (p : (ColType × Text × List ℕ) × List ℕ). p.0.2) parts;
    })
  where
    some_is : (a b : Series) → Some a ≡ Some b → a ≡ b
    some_is a b h = let k : a ≡ b = cc in k

-- ---- all columns, one behind another

-- what was found is the column at place i, and the columns behind it are left
pub record Split (rows i : ℕ) (all : List Series) (found : ColumnBytes) (after : List ℕ) : Type 0 where
  pub name : IsUtf8 found.name.now
  pub cells : IsColumnView found.kind rows found.cells.now
  pub at : slice_get all i ≡ Some ((found.name.now, found.kind), cells_in found.kind rows found.cells.now)
  pub left : after ≡ flat_map series_text (drop (i + 1) all) ++ []

spells_one : (rows count i : ℕ) (bytes : List ℕ) (all : List Series) → SpellsAll rows count bytes all → i < count → Spells rows i bytes all
spells_one rows count i bytes all s lt = record { each = s.each; text = s.text; within = omega (arith, s.count_is, lt) }

pub split_one : (rows count i : ℕ) (bytes rest : List ℕ) (all : List Series) (found : ColumnBytes) (after : List ℕ) → SpellsAll rows count bytes all → i < count → rest ≡ flat_map series_text (drop i all) ++ [] → skip_at rows rest ≡ Ok (told found, after) → Split rows i all found after
split_one rows count i bytes rest all found after s lt text read =
    let one = spells_one rows count i bytes all s lt in
    let at = drop_at_place i all one.within in
    let stored = all_at (IsStored rows) all i at.0 s.each at.1 in
    let lies = found_here rows i i bytes rest all at.0 found after one refl at.1 text read in
    let v = column_viewed rows at.0 found.kind found.cells.now stored lies.kind lies.cells in
    record {
      name = subst (λ (t : Text). IsUtf8 t) (sym lies.name) stored.series.named.text;
      cells = v.0;
      at = at.1 ∙ (λ j. Some ((sym lies.name j, sym lies.kind j), sym v.1 j));
      left = found_next rows i i bytes rest all found.kind found.name.now found.cells.now after one (omega arith) text read;
    }

pub split_fails : (rows count i : ℕ) (bytes rest : List ℕ) (all : List Series) (left : ℕ) → SpellsAll rows count bytes all → i < count → rest ≡ flat_map series_text (drop i all) ++ [] → skip_at rows rest ≡ Err left → ⊥
split_fails rows count i bytes rest all left s lt text read = found_fails rows i i bytes rest all left (spells_one rows count i bytes all s lt) (omega arith) text read
