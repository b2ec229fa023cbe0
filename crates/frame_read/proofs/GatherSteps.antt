-- The steps of gathering the cells of a tile.
use Rattle.std.proofs.Common.{◌≡◌, ℕ, zero, suc, ◌+◌, ◌<◌, List, [], ◌∷◌, ◌++◌, length, get_or, take, drop, Some, sym, ap, ◌∙◌, subst, arith}
use Rattle.std.specs.Prelude.{slice_get, slice_range, option_map, ℤ}
use Rattle.std.specs.List.{AllZip, AllByRecursion}
use Rattle.std.proofs.lemmas.List.{append_assoc}
use Rattle.frame_core.specs.declared.cell.ColType.{ColType}
use Rattle.frame_core.specs.declared.cell.Cell.{Cell}
use Rattle.frame_core.specs.Ranges.{Range}
use Rattle.frame_core.specs.Schemas.{Head}
use Rattle.frame_core.specs.Selecting.{place_of}
use Rattle.frame_core.specs.Frames.{Row, IsFrame, type_at, stamps_of}
use Rattle.frame_core.specs.Columns.{cells_of}
use Rattle.frame_core.proofs.ColumnParts.{slice-map}
use Rattle.frame_core.proofs.Rows.{length-cells_of}
use Rattle.segment_cut.specs.Tiles.{Tile}
use Rattle.segment_cut.proofs.Wholes.{widths}
use Rattle.segment_cut.proofs.Cuts.{cells_of-slice}
use Rattle.frame_read.specs.Gathers.{fresh, reach, stamps_gathered, HasType}

pub type_below : (heads : List Head) (k : ℕ) (kind : ColType) → option_map (λ (h : Head). h.1) (slice_get heads k) ≡ Some kind → k < length heads
type_below [] k kind e = absurd cc
type_below (h ∷ heads) zero kind e = omega arith
type_below (h ∷ heads) (suc k) kind e = let rest : k < length heads = type_below heads k kind e in omega (arith, rest)

-- a tile's column has a cell for each row
pub cells-long : (t : Tile) (k : ℕ) (kind : ColType) (lent : List Cell) → IsFrame t.1 → type_at t.1 k ≡ Some kind → lent ≡ cells_of k t.1.rows → length lent ≡ length t.1.rows
cells-long t k kind lent is at are = ap length are ∙ length-cells_of (length t.1.schema.columns) k t.1.rows (type_below t.1.schema.columns k kind at) (widths t.1 is)

pub part-cells : (t : Tile) (k a b : ℕ) (kind : ColType) (range : Range) (reached : ℕ) (lent part old new : List Cell) → IsFrame t.1 → type_at t.1 k ≡ Some kind → lent ≡ cells_of k t.1.rows → part ≡ slice_range lent a b → slice_range t.1.rows a b ≡ fresh range reached t
    → new ≡ old ++ part → new ≡ old ++ cells_of k (fresh range reached t)
part-cells t k a b kind range reached lent part old new is at are part_is rows grown =
    grown ∙ ap (λ (cs : List Cell). old ++ cs)
    (part_is ∙ ap (λ (cs : List Cell). slice_range cs a b) are ∙ sym (cells_of-slice a b (length t.1.schema.columns) k t.1.rows (type_below t.1.schema.columns k kind at) (widths t.1 is)) ∙ ap (cells_of k) rows)

-- ---- loops over tiles

next : {X : Type 0} (xs : List X) (x : X) (i : ℕ) → i < length xs → x ≡ get_or xs i x → drop i xs ≡ x ∷ drop (i + 1) xs
next [] x i lt at = absurd (omega arith)
next (y ∷ xs) x zero lt at = ap (λ z. z ∷ xs) (sym at)
next (y ∷ xs) x (suc i) lt at = let one : suc i + 1 ≡ suc (i + 1) = omega arith in rw one (next xs x i (omega arith) at)

pub all-at : {X : Type 0} (P : X → Type 0) (xs : List X) (x : X) (i : ℕ) → AllByRecursion P xs → i < length xs → x ≡ get_or xs i x → P x
all-at P [] x i all lt at = absurd (omega arith)
all-at P (y ∷ xs) x zero all lt at = subst P (sym at) all.0
all-at P (y ∷ xs) x (suc i) all lt at = all-at P xs x i all.1 (omega arith) at

pub type-there : (head : Head) (ts : List Tile) (t : Tile) (i place : ℕ) (kind : ColType) → AllByRecursion (HasType head) ts → i < length ts → t ≡ get_or ts i t → Some place ≡ place_of head.0 t.1.schema.columns → kind ≡ head.1 → type_at t.1 place ≡ Some kind
type-there head ts t i place kind all lt at there is = all-at (HasType head) ts t i all lt at place (sym there) ∙ ap (λ k. Some k) (sym is)

pub stamps-step : (ts : List Tile) (t : Tile) (i : ℕ) (range : Range) (reached onward a b : ℕ) (old new more total : List ℤ) → i < length ts → t ≡ get_or ts i t → more ≡ slice_range (stamps_of t.1.rows) a b → slice_range t.1.rows a b ≡ fresh range reached t → new ≡ old ++ more → onward ≡ reach reached t
    → old ++ stamps_gathered range reached (drop i ts) ≡ total → new ++ stamps_gathered range onward (drop (i + 1) ts) ≡ total
stamps-step ts t i range reached onward a b old new more total lt at part rows grown far left =
    let behind = drop (i + 1) ts in
    let got : more ≡ stamps_of (fresh range reached t) = part ∙ sym (slice-map (λ (r : Row). r.stamp) a b t.1.rows) ∙ ap stamps_of rows in
    ap (λ n. new ++ stamps_gathered range n behind) far
    ∙ ap (λ (xs : List ℤ). xs ++ stamps_gathered range (reach reached t) behind) (grown ∙ ap (λ (xs : List ℤ). old ++ xs) got)
    ∙ append_assoc old (stamps_of (fresh range reached t)) (stamps_gathered range (reach reached t) behind)
    ∙ ap (λ (us : List Tile). old ++ stamps_gathered range reached us) (sym (next ts t i lt at))
    ∙ left

-- one pair more
pub zip-step : {X Y : Type 0} (R : X → Y → Type 0) (xs : List X) (x : X) (i : ℕ) (old new : List Y) (y : Y) → i < length xs → x ≡ get_or xs i x → AllZip R (take i xs) old → new ≡ old ++ y ∷ [] → R x y → AllZip R (take (i + 1) xs) new
zip-step {X} {Y} R xs x i old new y lt at all grown is = subst (λ (ys : List Y). AllZip R (take (i + 1) xs) ys) (sym grown) (by xs i old lt at all)
  where
    by : (xs : List X) (i : ℕ) (old : List Y) → i < length xs → x ≡ get_or xs i x → AllZip R (take i xs) old → AllZip R (take (i + 1) xs) (old ++ y ∷ [])
    by [] i old lt at all = absurd (omega arith)
    by (z ∷ xs) zero [] lt at all = (subst (λ (z : X). R z y) at is, tt)
    by (z ∷ xs) zero (u ∷ old) lt at all = absurd all
    by (z ∷ xs) (suc i) [] lt at all = absurd all
    by (z ∷ xs) (suc i) (u ∷ old) lt at all = let one : suc i + 1 ≡ suc (i + 1) = omega arith in rw one (all.0, by xs i old (omega arith) at all.1)
